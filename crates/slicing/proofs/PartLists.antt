-- The list of a part as it runs in the arena, with its records: it is the shape list or that turned, ordered, short, of low items, and in the records of the part's sizes.
-- Each holds of the shape list with its records by what the shape list is, and turning changes no record and no more of an item than which number is first.
use mathlib.Core.Path.{◌≡◌, refl, sym, ap, subst, ◌∙◌}
use mathlib.Core.Bool.{Bool, true, false}
use mathlib.Core.List.Memᴰ
use mathlib.Core.List.{List, [], ◌∷◌, map, reverse, reverse_aux, reverse-reverse, Memᴰ}
use mathlib.Core.Logic.{◌⊎◌, inl, inr, ⊎_elim}
use Prim.Native.Nat.{ℕ, ◌+◌, ◌*◌, ◌≤◌, ◌<◌}
use native.Mathlib.Omega.{arith}
use lib.ListN.{length, length-map}
use lib.Dec.{ltb, eqb}
use Rattle.slicing.specs.Item.{Item}
use Rattle.slicing.specs.Tree.{Tree, gauge, beside, stacked, gauge_count, size_count}
use Rattle.slicing.specs.Good.{Ordered, Good}
use Rattle.slicing.specs.Merge.{sum}
use Rattle.slicing.specs.Shapes.{shapes}
use Rattle.slicing.specs.Recorded.{Recorded, items, gauge_recorded, merge_recorded, swap_recorded, turn_recorded, shapes_recorded, part_recorded}
use Rattle.slicing.proofs.Counts.{sizes_joined}
use Rattle.slicing.proofs.TurnLaws.{turn_ordered, turn_length}
use Rattle.slicing.proofs.ShapeLaws.{shapes_ordered, shapes_short}
use Rattle.slicing.proofs.Reach.{shapes_some, shapes_low}
use Rattle.slicing.proofs.RecordedLaws.{items_turn, items_shapes}
use Rattle.slicing.proofs.Numbers.{gauge_numbers}

swapped_back : (l k : List Recorded) → map swap_recorded (reverse_aux (map swap_recorded l) k) ≡ reverse_aux l (map swap_recorded k)
swapped_back [] k = refl
swapped_back (x ∷ l) k = swapped_back l (swap_recorded x ∷ k)

pub turn_turn_recorded : (l : List Recorded) → turn_recorded (turn_recorded l) ≡ l
unfolding turn_recorded
turn_turn_recorded l = ap reverse (swapped_back l []) ∙ reverse-reverse l

-- A record of the turned list is a record of the list, with m and p in each other's place.
turned_in : (z : Recorded) (l k : List Recorded) → Memᴰ z (reverse_aux (map swap_recorded l) k) → Memᴰ (swap_recorded z) l ⊎ Memᴰ z k
turned_in z [] k i = inr i
turned_in z (x ∷ l) k i =
    ⊎_elim (λ (j : Memᴰ (swap_recorded z) l). inl (Memᴰ.tail j))
    (λ (j : Memᴰ z (swap_recorded x ∷ k)).
    ⊎_elim (λ (e : z ≡ swap_recorded x). inl (Memᴰ.head (ap swap_recorded e))) (λ (n : Memᴰ z k). inr n) (Memᴰ.cases_cons j))
    (turned_in z l (swap_recorded x ∷ k) i)

pub turn_out_recorded : (z : Recorded) (l : List Recorded) → Memᴰ z (turn_recorded l) → Memᴰ (swap_recorded z) l
unfolding turn_recorded
turn_out_recorded z l i =
    ⊎_elim (λ (j : Memᴰ (swap_recorded z) l). j) (λ (n : Memᴰ z []). absurd (Memᴰ.not-nil n)) (turned_in z l [] i)

pub part_gauge : (gap r : ℕ) (s : List Item) → part_recorded gap r (gauge s) ≡ shapes_recorded gap r (gauge s)
unfolding part_recorded shapes_recorded
part_gauge gap r s = refl

pub part_beside : (gap r : ℕ) (a b : Tree) → part_recorded gap r (beside a b) ≡ shapes_recorded gap r (beside a b)
unfolding part_recorded shapes_recorded
part_beside gap r a b = refl

pub shapes_stacked : (gap r : ℕ) (a b : Tree) → shapes_recorded gap r (stacked a b) ≡ turn_recorded (part_recorded gap r (stacked a b))
unfolding part_recorded shapes_recorded
shapes_stacked gap r a b = refl

pub part_stacked : (gap r : ℕ) (a b : Tree) → part_recorded gap r (stacked a b) ≡ turn_recorded (shapes_recorded gap r (stacked a b))
part_stacked gap r a b =
    sym (ap turn_recorded (shapes_stacked gap r a b) ∙ turn_turn_recorded (part_recorded gap r (stacked a b)))

-- What holds of the shape list and of that turned holds of the part's list.
pub part_either : (P : List Recorded → Type 0) (gap r : ℕ) (t : Tree) → P (shapes_recorded gap r t) → P (turn_recorded (shapes_recorded gap r t)) → P (part_recorded gap r t)
part_either P gap r (gauge s) h k = subst P (sym (part_gauge gap r s)) h
part_either P gap r (beside a b) h k = subst P (sym (part_beside gap r a b)) h
part_either P gap r (stacked a b) h k = subst P (sym (part_stacked gap r a b)) k

-- The order.
pub recorded_ordered : (gap r : ℕ) (t : Tree) → Good t → Ordered (items (shapes_recorded gap r t))
recorded_ordered gap r t h = subst Ordered (sym (items_shapes gap r t)) (shapes_ordered gap t h)

pub turned_ordered : (gap r : ℕ) (t : Tree) → Good t → Ordered (items (turn_recorded (shapes_recorded gap r t)))
turned_ordered gap r t h =
    subst Ordered (sym (items_turn (shapes_recorded gap r t))) (turn_ordered (items (shapes_recorded gap r t)) (recorded_ordered gap r t h))

pub part_ordered : (gap r : ℕ) (t : Tree) → Good t → Ordered (items (part_recorded gap r t))
part_ordered gap r t h =
    part_either (λ l. Ordered (items l)) gap r t (recorded_ordered gap r t h) (turned_ordered gap r t h)

-- What holds of each item of the shape list holds of each item of the list with the records, and of each of that turned with m and p exchanged.
recorded_all : (P : Item → Type 0) (gap r : ℕ) (t : Tree) → ((z : Item) → Memᴰ z (shapes gap t) → P z) → (x : Recorded) → Memᴰ x (shapes_recorded gap r t) → P x.item
recorded_all P gap r t each x i =
    each x.item
    (subst (λ (l : List Item). Memᴰ x.item l) (items_shapes gap r t) (Memᴰ.map (λ (y : Recorded). y.item) i))

-- How low the items are.
pub recorded_low : (gap r : ℕ) (t : Tree) → gap ≤ 20 → Good t → (x : Recorded) → Memᴰ x (shapes_recorded gap r t) → (x.item.m + 20 ≤ 1_020 * gauge_count t) × (x.item.p + 20 ≤ 1_020 * gauge_count t)
recorded_low gap r t few h =
    recorded_all (λ z. (z.m + 20 ≤ 1_020 * gauge_count t) × (z.p + 20 ≤ 1_020 * gauge_count t)) gap r t (shapes_low gap t few h)

pub turned_low : (gap r : ℕ) (t : Tree) → gap ≤ 20 → Good t → (x : Recorded) → Memᴰ x (turn_recorded (shapes_recorded gap r t)) → (x.item.m + 20 ≤ 1_020 * gauge_count t) × (x.item.p + 20 ≤ 1_020 * gauge_count t)
turned_low gap r t few h x i =
    let low = recorded_low gap r t few h (swap_recorded x) (turn_out_recorded x (shapes_recorded gap r t) i) in
    (low.1, low.0)

-- And how high.
pub recorded_some : (gap r : ℕ) (t : Tree) → Good t → (x : Recorded) → Memᴰ x (shapes_recorded gap r t) → (1 ≤ x.item.m) × (1 ≤ x.item.p)
recorded_some gap r t h = recorded_all (λ z. (1 ≤ z.m) × (1 ≤ z.p)) gap r t (shapes_some gap t h)

pub turned_some : (gap r : ℕ) (t : Tree) → Good t → (x : Recorded) → Memᴰ x (turn_recorded (shapes_recorded gap r t)) → (1 ≤ x.item.m) × (1 ≤ x.item.p)
turned_some gap r t h x i =
    let some = recorded_some gap r t h (swap_recorded x) (turn_out_recorded x (shapes_recorded gap r t) i) in
    (some.1, some.0)

-- How many they are.
pub recorded_few : (gap r : ℕ) (t : Tree) → Good t → length (shapes_recorded gap r t) + gauge_count t ≤ size_count t + 1
recorded_few gap r t h =
    omega (
      arith,
      length-map (shapes_recorded gap r t) (λ (y : Recorded). y.item),
      ap length (items_shapes gap r t),
      shapes_short gap t h,
    )

turned_long : (l : List Recorded) → length (turn_recorded l) ≡ length l
turned_long l =
    sym (length-map (turn_recorded l) (λ (y : Recorded). y.item)) ∙ ap length (items_turn l) ∙ turn_length (items l)
    ∙ length-map l (λ (y : Recorded). y.item)

pub turned_few : (gap r : ℕ) (t : Tree) → Good t → length (turn_recorded (shapes_recorded gap r t)) + gauge_count t ≤ size_count t + 1
turned_few gap r t h = omega (arith, turned_long (shapes_recorded gap r t), recorded_few gap r t h)

pub part_few : (gap r : ℕ) (t : Tree) → Good t → length (part_recorded gap r t) + gauge_count t ≤ size_count t + 1
part_few gap r t h =
    part_either (λ l. length l + gauge_count t ≤ size_count t + 1) gap r t (recorded_few gap r t h) (turned_few gap r t h)

-- Which records they are in: those of the part's sizes.
abbrev Among : ℕ → ℕ → List Recorded → Type 0
Among r n l = (x : Recorded) → Memᴰ x l → (r ≤ x.number) × (x.number < r + n)

among_none : (r n : ℕ) → Among r n []
among_none r n x i = absurd (Memᴰ.not-nil i)

among_more : (r n : ℕ) (y : Recorded) (l : List Recorded) → (r ≤ y.number) × (y.number < r + n) → Among r n l → Among r n (y ∷ l)
among_more r n y l h k x i =
    ⊎_elim (λ (e : x ≡ y). subst (λ (z : Recorded). (r ≤ z.number) × (z.number < r + n)) (sym e) h) (k x) (Memᴰ.cases_cons i)

among_gauge : (r : ℕ) (s : List Item) → Among r (length s) (gauge_recorded r s)
among_gauge r s x i = let h = gauge_numbers r s x i in (h.from_first, h.to_last)

among_turned : (r n : ℕ) (l : List Recorded) → Among r n l → Among r n (turn_recorded l)
among_turned r n l h x i = h (swap_recorded x) (turn_out_recorded x l i)

among_merge : (gap r n : ℕ) (a b : List Recorded) → Among r n a → Among r n b → Among r n (merge_recorded gap a b)
unfolding merge_recorded
among_merge gap r n [] b h k = among_none r n
among_merge gap r n (a ∷ l) [] h k = among_none r n
among_merge gap r n (a ∷ l) (b ∷ m) h k =
    step (ltb b.item.m a.item.m) (eqb a.item.m b.item.m) (among_merge gap r n l (b ∷ m) later k) (among_merge gap r n l m later later')
    (among_merge gap r n (a ∷ l) m h later')
  where
    later : Among r n l
    later x i = h x (Memᴰ.tail i)

    later' : Among r n m
    later' x i = k x (Memᴰ.tail i)

    made : Recorded → Recorded
    made y = record { number = y.number; item = sum gap y.item.m a.item b.item }

    step : (s t : Bool) → Among r n (merge_recorded gap l (b ∷ m)) → Among r n (merge_recorded gap l m) → Among r n (merge_recorded gap (a ∷ l) m)
        → Among r n (elim s [
          | true ↦ made a ∷ merge_recorded gap l (b ∷ m)
          | false ↦ elim t [
            | true ↦ made a ∷ merge_recorded gap l m
            | false ↦ made b ∷ merge_recorded gap (a ∷ l) m
          ]
        ])
    step true t x y z = among_more r n (made a) _ (h a (Memᴰ.head refl)) x
    step false true x y z = among_more r n (made a) _ (h a (Memᴰ.head refl)) y
    step false false x y z = among_more r n (made b) _ (k b (Memᴰ.head refl)) z

-- The records of a join are those of its two parts.
among_joined : (gap r : ℕ) (a b : Tree) (l k : List Recorded) → Among r (size_count a) l → Among (r + size_count a) (size_count b) k → Among r (size_count (beside a b)) (merge_recorded gap l k)
among_joined gap r a b l k h j =
    among_merge gap r (size_count (beside a b)) l k (λ x i. let z = h x i in (omega arith, omega (arith, sizes_joined a b)))
    (λ x i. let z = j x i in (omega arith, omega (arith, sizes_joined a b)))

pub recorded_numbers : (gap r : ℕ) (t : Tree) (x : Recorded) → Memᴰ x (shapes_recorded gap r t) → (r ≤ x.number) × (x.number < r + size_count t)
unfolding shapes_recorded
recorded_numbers gap r (gauge s) = among_gauge r s
recorded_numbers gap r (beside a b) =
    among_joined gap r a b (shapes_recorded gap r a) (shapes_recorded gap (r + size_count a) b) (recorded_numbers gap r a)
    (recorded_numbers gap (r + size_count a) b)
recorded_numbers gap r (stacked a b) =
    let la = shapes_recorded gap r a in
    let lb = shapes_recorded gap (r + size_count a) b in
    among_turned r (size_count (beside a b)) (merge_recorded gap (turn_recorded la) (turn_recorded lb))
    (among_joined gap r a b (turn_recorded la) (turn_recorded lb) (among_turned r (size_count a) la (recorded_numbers gap r a))
    (among_turned (r + size_count a) (size_count b) lb (recorded_numbers gap (r + size_count a) b)))

pub turned_numbers : (gap r : ℕ) (t : Tree) (x : Recorded) → Memᴰ x (turn_recorded (shapes_recorded gap r t)) → (r ≤ x.number) × (x.number < r + size_count t)
turned_numbers gap r t = among_turned r (size_count t) (shapes_recorded gap r t) (recorded_numbers gap r t)

pub part_numbers : (gap r : ℕ) (t : Tree) (x : Recorded) → Memᴰ x (part_recorded gap r t) → (r ≤ x.number) × (x.number < r + size_count t)
part_numbers gap r t = part_either (Among r (size_count t)) gap r t (recorded_numbers gap r t) (turned_numbers gap r t)
