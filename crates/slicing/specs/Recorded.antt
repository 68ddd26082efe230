-- Document 01, "Lazy lists": the same lists, with each item's record. "A merged item keeps the record and level of the item whose m it has; where both have it, the older part's."
use Rattle.std.specs.Prelude.{true, false, List, [], ◌∷◌, map, reverse, ℕ, ◌+◌, ltb, eqb}
use Rattle.slicing.specs.Item.{Item}
use Rattle.slicing.specs.Tree.{Tree, gauge, beside, stacked, size_count}
use Rattle.slicing.specs.Useful.{index_of, gauge_shapes}
use Rattle.slicing.specs.Merge.{swap, sum}

-- An item in a record.
pub record Recorded : Type 0 where
  pub number : ℕ
  pub item : Item

abbrev sum_in : ℕ → Recorded → Recorded → Recorded → Recorded
sum_in gap r a b = record { number = r.number; item = sum gap r.item.m a.item b.item }

unfoldable pub merge_recorded : ℕ → List Recorded → List Recorded → List Recorded
merge_recorded gap [] bs = []
merge_recorded gap (a ∷ l) [] = []
merge_recorded gap (a ∷ l) (b ∷ k) =
    elim (ltb b.item.m a.item.m) [
      | true ↦ sum_in gap a a b ∷ merge_recorded gap l (b ∷ k)
      | false ↦ elim (eqb a.item.m b.item.m) [
        | true ↦ sum_in gap a a b ∷ merge_recorded gap l k
        | false ↦ sum_in gap b a b ∷ merge_recorded gap (a ∷ l) k
      ]
    ]

abbrev pub swap_recorded : Recorded → Recorded
swap_recorded r = record { number = r.number; item = swap r.item }

unfoldable pub turn_recorded : List Recorded → List Recorded
turn_recorded l = reverse (map swap_recorded l)

-- "Records 1 to n are the file's sizes": a size of a gauge whose first size is in record r.
abbrev pub in_record : ℕ → List Item → Item → Recorded
in_record r s z = record { number = r + index_of z s; item = z }

-- The list of that gauge: "The sizes left out keep their numbers and levels but are on no list."
unfoldable pub gauge_recorded : ℕ → List Item → List Recorded
gauge_recorded r s = map (in_record r s) (gauge_shapes s)

-- The shape list of a part whose first size is size r of the file.
unfoldable pub shapes_recorded : ℕ → ℕ → Tree → List Recorded
shapes_recorded gap r (gauge s) = gauge_recorded r s
shapes_recorded gap r (beside a b) = merge_recorded gap (shapes_recorded gap r a) (shapes_recorded gap (r + size_count a) b)
shapes_recorded gap r (stacked a b) =
    turn_recorded
    (merge_recorded gap (turn_recorded (shapes_recorded gap r a)) (turn_recorded (shapes_recorded gap (r + size_count a) b)))

-- The list of a part in the arena: "m is height where the root is a gauge or side by side, width where it is stacked." Turned where that is the width, it is the shape list.
unfoldable pub part_recorded : ℕ → ℕ → Tree → List Recorded
part_recorded gap r (gauge s) = gauge_recorded r s
part_recorded gap r (beside a b) = merge_recorded gap (shapes_recorded gap r a) (shapes_recorded gap (r + size_count a) b)
part_recorded gap r (stacked a b) =
    merge_recorded gap (turn_recorded (shapes_recorded gap r a)) (turn_recorded (shapes_recorded gap (r + size_count a) b))

-- The list with the records forgotten.
abbrev pub items : List Recorded → List Item
items l = map (λ (r : Recorded). r.item) l
