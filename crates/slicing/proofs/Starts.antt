-- In the layout that is placed the second part of a join starts the gap after the first part's furthest edge.
-- That edge is where the item ends that the first part takes, and the layout goes on from there by the gap.
use mathlib.Core.Path.{◌≡◌, sym, ap}
use mathlib.Core.List.{Memᴰ}
use Prim.Native.Nat.{ℕ, ◌+◌}
use Rattle.slicing.specs.Item.{Item, height, width}
use Rattle.slicing.specs.Tree.{Tree, beside, stacked}
use Rattle.slicing.specs.Good.{Good}
use Rattle.slicing.specs.Merge.{merge, swap, turn}
use Rattle.slicing.specs.Shapes.{shapes}
use Rattle.slicing.specs.Layout.{rightmost, topmost}
use Rattle.slicing.specs.Fit.{no_taller, no_wider, place}
use Rattle.slicing.proofs.TurnLaws.{turn_out, turn_ordered}
use Rattle.slicing.proofs.ShapeLaws.{shapes_ordered}
use Rattle.slicing.proofs.Placing.{sides, placed}

-- "The second part of a join starts that many half-millimetres after the first." Side by side: across, from the first part's furthest right edge.
pub starts_across : (gap : ℕ) (a b : Tree) (z : Item) (x y : ℕ) → Good (beside a b) → Memᴰ z (shapes gap (beside a b))
    → (place gap (beside a b) z x y).1 ≡ place gap b (no_taller (height z) (shapes gap b)) (rightmost a (place gap (beside a b) z x y).0 + gap) y
unfolding shapes place
starts_across gap a b z x y good i =
    let both = sides gap (shapes gap a) (shapes gap b) (shapes_ordered gap a good.0) (shapes_ordered gap b good.1) z i in
    let first = placed gap a (no_taller (height z) (shapes gap a)) x y good.0 both.first_in in
    ap (λ (v : ℕ). place gap b (no_taller (height z) (shapes gap b)) (v + gap) y) (sym first.right)

-- Stacked: upward, from the first part's furthest upper edge.
pub starts_upward : (gap : ℕ) (a b : Tree) (z : Item) (x y : ℕ) → Good (stacked a b) → Memᴰ z (shapes gap (stacked a b))
    → (place gap (stacked a b) z x y).1 ≡ place gap b (no_wider (width z) (shapes gap b)) x (topmost a (place gap (stacked a b) z x y).0 + gap)
unfolding shapes place
starts_upward gap a b z x y good i =
    let turned_a = turn_ordered (shapes gap a) (shapes_ordered gap a good.0) in
    let turned_b = turn_ordered (shapes gap b) (shapes_ordered gap b good.1) in
    let turned = turn_out z (merge gap (turn (shapes gap a)) (turn (shapes gap b))) i in
    let both = sides gap (turn (shapes gap a)) (turn (shapes gap b)) turned_a turned_b (swap z) turned in
    let in_a = turn_out (no_taller (width z) (turn (shapes gap a))) (shapes gap a) both.first_in in
    let first = placed gap a (no_wider (width z) (shapes gap a)) x y good.0 in_a in
    ap (λ (v : ℕ). place gap b (no_wider (width z) (shapes gap b)) x (v + gap)) (sym first.top)
