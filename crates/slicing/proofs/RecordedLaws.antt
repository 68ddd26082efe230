-- The lists with records are the plain lists, once the records are forgotten.
-- Every test of theirs looks at the items only, so both take the same steps.
use mathlib.Core.Path.{◌≡◌, refl, ap, ◌∙◌}
use mathlib.Core.Bool.{Bool, true, false}
use mathlib.Core.List.{List, [], ◌∷◌, map, map-map, map-id, reverse_aux}
use Prim.Native.Nat.{ℕ, ◌+◌}
use lib.Dec.{ltb, eqb}
use Rattle.slicing.specs.Item.{Item}
use Rattle.slicing.specs.Tree.{Tree, gauge, beside, stacked, size_count}
use Rattle.slicing.specs.Useful.{gauge_shapes}
use Rattle.slicing.specs.Merge.{merge, swap, sum, turn}
use Rattle.slicing.specs.Shapes.{shapes}
use Rattle.slicing.specs.Recorded.{Recorded, items, in_record, gauge_recorded, merge_recorded, swap_recorded, turn_recorded, shapes_recorded}

pub items_merge : (gap : ℕ) (a b : List Recorded) → items (merge_recorded gap a b) ≡ merge gap (items a) (items b)
unfolding merge merge_recorded
items_merge gap [] b = refl
items_merge gap (a ∷ l) [] = refl
items_merge gap (a ∷ l) (b ∷ k) =
    step (ltb b.item.m a.item.m) (eqb a.item.m b.item.m) (items_merge gap l (b ∷ k)) (items_merge gap l k) (items_merge gap (a ∷ l) k)
  where
    -- The sum of the two, in the record of one.
    made : Recorded → Recorded
    made r = record { number = r.number; item = sum gap r.item.m a.item b.item }

    step : (s t : Bool)
        → items (merge_recorded gap l (b ∷ k)) ≡ merge gap (items l) (items (b ∷ k))
        → items (merge_recorded gap l k) ≡ merge gap (items l) (items k)
        → items (merge_recorded gap (a ∷ l) k) ≡ merge gap (items (a ∷ l)) (items k)
        → items (elim s [
          | true ↦ made a ∷ merge_recorded gap l (b ∷ k)
          | false ↦ elim t [
            | true ↦ made a ∷ merge_recorded gap l k
            | false ↦ made b ∷ merge_recorded gap (a ∷ l) k
          ]
        ]) ≡ elim s [
          | true ↦ (made a).item ∷ merge gap (items l) (items (b ∷ k))
          | false ↦ elim t [
            | true ↦ (made a).item ∷ merge gap (items l) (items k)
            | false ↦ (made b).item ∷ merge gap (items (a ∷ l)) (items k)
          ]
        ]
    step true t o m n = ap (λ (c : List Item). (made a).item ∷ c) o
    step false true o m n = ap (λ (c : List Item). (made a).item ∷ c) m
    step false false o m n = ap (λ (c : List Item). (made b).item ∷ c) n

items_reversed : (l r : List Recorded) → items (reverse_aux (map swap_recorded l) r) ≡ reverse_aux (map swap (items l)) (items r)
items_reversed [] r = refl
items_reversed (x ∷ l) r = items_reversed l (swap_recorded x ∷ r)

pub items_turn : (l : List Recorded) → items (turn_recorded l) ≡ turn (items l)
unfolding turn turn_recorded
items_turn l = items_reversed l []

pub items_gauge : (r : ℕ) (s : List Item) → items (gauge_recorded r s) ≡ gauge_shapes s
unfolding gauge_recorded
items_gauge r s = map-map (λ (x : Recorded). x.item) (in_record r s) (gauge_shapes s) ∙ map-id (gauge_shapes s)

pub items_shapes : (gap r : ℕ) (t : Tree) → items (shapes_recorded gap r t) ≡ shapes gap t
unfolding shapes shapes_recorded
items_shapes gap r (gauge s) = items_gauge r s
items_shapes gap r (beside a b) =
    simp (items_merge, items_shapes gap r a, items_shapes gap (r + size_count a) b)
items_shapes gap r (stacked a b) =
    simp (items_turn, items_merge, items_shapes gap r a, items_shapes gap (r + size_count a) b)
