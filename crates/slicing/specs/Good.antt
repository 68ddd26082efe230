-- What documents 01 and 02 let a face's gauges be: the trees that a taken file can mean.
use mathlib.Core.List.{List, [], ◌∷◌, Memᴰ}
use Rattle.std.specs.Prelude.{◌≤◌, ◌<◌, length}
use Rattle.slicing.specs.Item.{Item, height, width}
use Rattle.slicing.specs.Tree.{Tree, gauge, beside, stacked}

-- "height and width both 1 to 1,000"
pub record Limited (z : Item) : Type 0 where
  pub high : 1 ≤ height z
  pub wide : 1 ≤ width z
  pub low : height z ≤ 1_000
  pub narrow : width z ≤ 1_000

-- "strictly falling height and strictly rising width": each item against all after it
abbrev pub Ordered : List Item → Type 0
Ordered [] = Unit {0}
Ordered (y ∷ l) = ((z : Item) → Memᴰ z l → (z.m < y.m) × (y.p < z.p)) × Ordered l

-- A gauge: 1 to 8 sizes, each within the limits.
pub record GoodGauge (sizes : List Item) : Type 0 where
  pub some : 1 ≤ length sizes
  pub few : length sizes ≤ 8
  pub limited : (z : Item) → Memᴰ z sizes → Limited z

abbrev pub Good : Tree → Type 0
Good (gauge s) = GoodGauge s
Good (beside a b) = Good a × Good b
Good (stacked a b) = Good a × Good b
