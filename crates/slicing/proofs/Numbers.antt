-- The records of a gauge's list: each has the lowest number of the printed sizes that are equal to its item, and sizes that stand in order are numbered one after the other.
-- The number is the index of the item among the printed sizes, counted from the number of the first.
use mathlib.Core.Path.{◌≡◌, refl, ap, ap₂, subst, ◌∙◌}
use mathlib.Core.List.Memᴰ
use mathlib.Core.List.{List, [], ◌∷◌, map, Memᴰ}
use Prim.Native.Nat.{ℕ, suc, ◌+◌, ◌-◌}
use native.Mathlib.Omega.{arith}
use lib.ListN.{get_or}
use Rattle.slicing.specs.Item.{Item, size, height}
use Rattle.slicing.specs.Good.{Ordered}
use Rattle.slicing.specs.Useful.{index_of, gauge_shapes}
use Rattle.slicing.specs.Recorded.{Recorded, in_record, gauge_recorded, items}
use Rattle.slicing.specs.UsefulMeans.{UsefulSizes, LowestNumber}
use Rattle.slicing.proofs.Indexes.{index_found, index_lowest, index_first, index_past, index_only}
use Rattle.slicing.proofs.GaugeUseful.{gauge_useful, ordered_same}

-- A printed size in its record.
printed_number : (r : ℕ) (s : List Item) (z : Item) → Memᴰ z s → LowestNumber r s (in_record r s z)
printed_number r s z i =
    let found = index_found z s (size 0 0) i in
    let place : r + index_of z s - r ≡ index_of z s = omega arith in
    record {
      from_first = omega arith;
      to_last = omega arith;
      same = ap (λ (k : ℕ). get_or s k (size 0 0)) place ∙ found.same;
      lowest = λ j h. index_lowest z s (size 0 0) j (omega arith);
    }

pub gauge_numbers : (r : ℕ) (s : List Item) (x : Recorded) → Memᴰ x (gauge_recorded r s) → LowestNumber r s x
unfolding gauge_recorded
gauge_numbers r s x i =
    let from = Memᴰ.of_map (in_record r s) (gauge_shapes s) i in
    subst (LowestNumber r s) from.2 (printed_number r s from.0 ((gauge_useful s).sizes.from_size from.0 from.1))

-- Only its own record has the lowest number.
lowest_only : (r : ℕ) (s : List Item) (x : Recorded) → LowestNumber r s x → x ≡ in_record r s x.item
lowest_only r s x h =
    let index = index_only x.item s (size 0 0) (x.number - r) (omega arith) h.same (λ i k. h.lowest i (omega arith)) in
    let number : x.number ≡ r + index_of x.item s = omega arith in
    ap (λ (k : ℕ). record { number = k; item = x.item }) number

all_lowest : (r : ℕ) (s : List Item) (k : List Recorded) → ((x : Recorded) → Memᴰ x k → LowestNumber r s x) → k ≡ map (in_record r s) (items k)
all_lowest r s [] h = refl
all_lowest r s (x ∷ k) h = ap₂ ◌∷◌ (lowest_only r s x (h x (Memᴰ.head refl))) (all_lowest r s k (λ y i. h y (Memᴰ.tail i)))

-- No other list has the useful sizes with their lowest numbers.
pub recorded_only : (r : ℕ) (s : List Item) (k : List Recorded) → UsefulSizes s (items k) → ((x : Recorded) → Memᴰ x k → LowestNumber r s x) → k ≡ gauge_recorded r s
unfolding gauge_recorded
recorded_only r s k sizes numbers = all_lowest r s k numbers ∙ ap (map (in_record r s)) ((gauge_useful s).only (items k) sizes)

-- Sizes in records one after the other, from r on.
abbrev pub numbered : ℕ → List Item → List Recorded
numbered r [] = []
numbered r (z ∷ l) = record { number = r; item = z } ∷ numbered (suc r) l

-- One more size before the others, and not equal to any of them.
number_past : (r : ℕ) (x : Item) (s l : List Item) → ((z : Item) → Memᴰ z l → x ≡ z → ⊥) → map (in_record r (x ∷ s)) l ≡ map (in_record (suc r) s) l
number_past r x s [] other = refl
number_past r x s (z ∷ l) other =
    let past = index_past z x s (other z (Memᴰ.head refl)) in
    let next : r + index_of z (x ∷ s) ≡ suc r + index_of z s = omega arith in
    ap₂ (λ (k : ℕ) (c : List Recorded). record { number = k; item = z } ∷ c) next
    (number_past r x s l (λ y i. other y (Memᴰ.tail i)))

numbered_in_order : (r : ℕ) (s : List Item) → Ordered s → map (in_record r s) s ≡ numbered r s
numbered_in_order r [] o = refl
numbered_in_order r (x ∷ s) o =
    let first : r + index_of x (x ∷ s) ≡ r = omega (arith, index_first x s) in
    ap₂ (λ (k : ℕ) (c : List Recorded). record { number = k; item = x } ∷ c) first
    (number_past r x s s (λ z i e. let after = o.0 z i in let same = ap height e in omega arith) ∙ numbered_in_order (suc r) s o.1)

-- Sizes that stand in order are numbered one after the other, as in version 1.
pub ordered_numbered : (r : ℕ) (s : List Item) → Ordered s → gauge_recorded r s ≡ numbered r s
unfolding gauge_recorded
ordered_numbered r s o = ap (map (in_record r s)) (ordered_same s o) ∙ numbered_in_order r s o
