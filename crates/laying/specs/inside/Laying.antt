-- A stored part that is laid out, and the words that its layout is written as. No public contract cites it.
use Rattle.std.specs.Prelude.{Bool, cond, List, ◌++◌, ℕ, ◌+◌, ◌*◌, ◌^◌, ◌≤◌, ◌<◌, length, get_or, drop}
use Rattle.slicing.specs.Item.{Item, size, height, width}
use Rattle.slicing.specs.Useful.{gauge_shapes}
use Rattle.slicing.specs.Tree.{Tree, gauge, gauge_count}
use Rattle.slicing.specs.Good.{Good}
use Rattle.slicing.specs.Shapes.{shapes}
use Rattle.slicing.specs.Fit.{place, words}
use Rattle.stored.specs.inside.Store.{Stored}

-- The item at a place of the part's shape list.
abbrev pub shape_at : ℕ → Tree → ℕ → Item
shape_at gap t k = get_or (shapes gap t) k (size 0 0)

-- A stored gauge, and a place of its list.
pub record GaugePlace (gap : ℕ) (s : List ℕ) (part : ℕ) (sizes : List Item) (k : ℕ) : Type 0 where
  pub stored : Stored gap s part (gauge sizes)
  pub few : length sizes ≤ 8
  pub in_list : k < length (gauge_shapes sizes)

-- A place across or up, moved on or not.
abbrev pub moved_by : Bool → ℕ → ℕ → ℕ
moved_by goes at by = cond goes (at + by) at

-- The part stands in the scratch, the place is in its shape list, its layout's words fit the output, and its edges fit a word.
pub record Layable (gap : ℕ) (s : List ℕ) (part : ℕ) (t : Tree) (k x y : ℕ) (out : List ℕ) : Type 0 where
  pub stored : Stored gap s part t
  pub good : Good t
  pub in_list : k < length (shapes gap t)
  pub room : 5 * gauge_count t ≤ length out
  pub across : x + width (shape_at gap t k) < 2 ^ 32
  pub up : y + height (shape_at gap t k) < 2 ^ 32

-- The output with the words of the layout at its start.
unfoldable pub laid : ℕ → Tree → ℕ → ℕ → ℕ → List ℕ → List ℕ
laid gap t k x y out = words t (place gap t (shape_at gap t k) x y) ++ drop (5 * gauge_count t) out
