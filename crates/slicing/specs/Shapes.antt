-- Document 01, "Outer sizes": the shape list of a part, that is the list of its outer sizes without inferior ones, as (height, width) with falling height.
use Rattle.std.specs.Prelude.{List, ℕ}
use Rattle.slicing.specs.Item.{Item}
use Rattle.slicing.specs.Tree.{Tree, gauge, beside, stacked}
use Rattle.slicing.specs.Useful.{gauge_shapes}
use Rattle.slicing.specs.Merge.{merge, turn}

-- For side by side, m is height and p width; for stacked, m is width and p height.
unfoldable pub shapes : ℕ → Tree → List Item
shapes gap (gauge s) = gauge_shapes s
shapes gap (beside a b) = merge gap (shapes gap a) (shapes gap b)
shapes gap (stacked a b) = turn (merge gap (turn (shapes gap a)) (turn (shapes gap b)))
