-- Sizes put in order of height are the same sizes, and where none of them is inferior or equal to another they are strictly ordered, widths as well.
-- A size is put before the first that is lower; of two sizes that are neither inferior nor equal, the lower is the wider.
use mathlib.Core.Path.{◌≡◌, refl, ap}
use mathlib.Core.Bool.{Bool, true, false, cond}
use mathlib.Core.List.{List, [], ◌∷◌, Memᴰ}
use mathlib.Core.Logic.{◌⊎◌, inl, inr, ⊎_elim}
use Prim.Native.Nat.{ℕ, suc, ◌≤◌, ◌<◌}
use native.Mathlib.Omega.{arith}
use lib.ListN.{length}
use lib.Dec.{ltb}
use borrow.Author.Tests.{ltb-true, ltb-false}
use Rattle.slicing.specs.Item.{Item, height}
use Rattle.slicing.specs.Good.{Ordered}
use Rattle.slicing.specs.Maxplus.{Meets}
use Rattle.slicing.specs.Useful.{insert, by_height}

insert_in : (x z : Item) (l : List Item) → Memᴰ z (x ∷ l) → Memᴰ z (insert x l)
insert_in x z [] i = i
insert_in x z (y ∷ l) i = step (ltb (height y) (height x)) (insert_in x z l) (mathlib.Core.List.Memᴰ.cases_cons i)
  where
    later : (Memᴰ z (x ∷ l) → Memᴰ z (insert x l)) → (z ≡ y) ⊎ Memᴰ z l → Memᴰ z (y ∷ insert x l)
    later next (inl same) = mathlib.Core.List.Memᴰ.head same
    later next (inr j) = mathlib.Core.List.Memᴰ.tail (next (mathlib.Core.List.Memᴰ.tail j))

    step : (b : Bool) → (Memᴰ z (x ∷ l) → Memᴰ z (insert x l)) → (z ≡ x) ⊎ Memᴰ z (y ∷ l) → Memᴰ z (cond b (x ∷ y ∷ l) (y ∷ insert x l))
    step true next j = i
    step false next (inl same) = mathlib.Core.List.Memᴰ.tail (next (mathlib.Core.List.Memᴰ.head same))
    step false next (inr j) = later next (mathlib.Core.List.Memᴰ.cases_cons j)

insert_out : (x z : Item) (l : List Item) → Memᴰ z (insert x l) → (z ≡ x) ⊎ Memᴰ z l
insert_out x z [] i = mathlib.Core.List.Memᴰ.cases_cons i
insert_out x z (y ∷ l) i = step (ltb (height y) (height x)) (insert_out x z l) i
  where
    later : (z ≡ x) ⊎ Memᴰ z l → (z ≡ x) ⊎ Memᴰ z (y ∷ l)
    later (inl same) = inl same
    later (inr j) = inr (mathlib.Core.List.Memᴰ.tail j)

    step : (b : Bool) → (Memᴰ z (insert x l) → (z ≡ x) ⊎ Memᴰ z l) → Memᴰ z (cond b (x ∷ y ∷ l) (y ∷ insert x l)) → (z ≡ x) ⊎ Memᴰ z (y ∷ l)
    step true next j = mathlib.Core.List.Memᴰ.cases_cons j
    step false next j =
        ⊎_elim (λ (same : z ≡ y). inr (mathlib.Core.List.Memᴰ.head same)) (λ (k : Memᴰ z (insert x l)). later (next k)) (mathlib.Core.List.Memᴰ.cases_cons j)

insert_long : (x : Item) (l : List Item) → length (insert x l) ≡ suc (length l)
insert_long x [] = refl
insert_long x (y ∷ l) = step (ltb (height y) (height x)) (insert_long x l)
  where
    step : (b : Bool) → length (insert x l) ≡ suc (length l) → length (cond b (x ∷ y ∷ l) (y ∷ insert x l)) ≡ suc (suc (length l))
    step true h = refl
    step false h = ap suc h

height_in : (z : Item) (l : List Item) → Memᴰ z l → Memᴰ z (by_height l)
height_in z [] i = i
height_in z (x ∷ l) i =
    insert_in x z (by_height l)
    (⊎_elim (λ (same : z ≡ x). mathlib.Core.List.Memᴰ.head same) (λ (j : Memᴰ z l). mathlib.Core.List.Memᴰ.tail (height_in z l j)) (mathlib.Core.List.Memᴰ.cases_cons i))

pub height_out : (z : Item) (l : List Item) → Memᴰ z (by_height l) → Memᴰ z l
height_out z [] i = i
height_out z (x ∷ l) i =
    ⊎_elim (λ (same : z ≡ x). mathlib.Core.List.Memᴰ.head same) (λ (j : Memᴰ z (by_height l)). mathlib.Core.List.Memᴰ.tail (height_out z l j))
    (insert_out x z (by_height l) i)

pub height_met : (l : List Item) (m p : ℕ) → Meets l m p → Meets (by_height l) m p
height_met l m p met =
    record {
      item = met.item;
      item_in = height_in met.item l met.item_in;
      not_taller = met.not_taller;
      no_wider = met.no_wider;
    }

pub height_long : (l : List Item) → length (by_height l) ≡ length l
height_long [] = refl
height_long (x ∷ l) = omega (arith, insert_long x (by_height l), height_long l)

-- Two sizes of which neither is inferior or equal to the other: the lower is the wider.
pub record Apart (y z : Item) : Type 0 where
  pub lower : y.m ≤ z.m → (y.m < z.m) × (z.p < y.p)
  pub higher : z.m ≤ y.m → (z.m < y.m) × (y.p < z.p)

abbrev pub AllApart : List Item → Type 0
AllApart [] = Unit {0}
AllApart (y ∷ l) = ((z : Item) → Memᴰ z l → Apart y z) × AllApart l

insert_ordered : (x : Item) (l : List Item) → Ordered l → ((z : Item) → Memᴰ z l → Apart x z) → Ordered (insert x l)
insert_ordered x [] o h = (λ z i. absurd (mathlib.Core.List.Memᴰ.not-nil i), tt)
insert_ordered x (y ∷ l) o h = step (ltb (height y) (height x)) refl (insert_ordered x l o.1 (λ z i. h z (mathlib.Core.List.Memᴰ.tail i)))
  where
    before : y.m < x.m → (z : Item) → Memᴰ z (y ∷ l) → (z.m < x.m) × (x.p < z.p)
    before low z i =
        ⊎_elim (λ (same : z ≡ y). let e = ap height same in (h z i).higher (omega arith))
        (λ (j : Memᴰ z l). let f = o.0 z j in (h z i).higher (omega arith)) (mathlib.Core.List.Memᴰ.cases_cons i)

    after : x.m ≤ y.m → (z : Item) → Memᴰ z (insert x l) → (z.m < y.m) × (y.p < z.p)
    after low z i =
        let f = (h y (mathlib.Core.List.Memᴰ.head refl)).lower low in
        ⊎_elim (λ (same : z ≡ x). rw same f) (λ (j : Memᴰ z l). o.0 z j) (insert_out x z l i)

    step : (b : Bool) → ltb (height y) (height x) ≡ b → Ordered (insert x l) → Ordered (cond b (x ∷ y ∷ l) (y ∷ insert x l))
    step true e next = (before (ltb-true (height y) (height x) e), o)
    step false e next = (after (ltb-false (height y) (height x) e), next)

pub height_ordered : (l : List Item) → AllApart l → Ordered (by_height l)
height_ordered [] h = tt
height_ordered (x ∷ l) h = insert_ordered x (by_height l) (height_ordered l h.1) (λ z i. h.0 z (height_out z l i))
