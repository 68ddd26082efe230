-- Demand 2: a choice of one size per gauge, and the outer size that it has.
use mathlib.Core.List.{Memᴰ}
use Rattle.std.specs.Prelude.{ℕ, ◌+◌, ◌≤◌, max}
use Rattle.slicing.specs.Item.{Item, size, height, width}
use Rattle.slicing.specs.Tree.{Tree, gauge, beside, stacked}

-- One printed size for each gauge.
abbrev pub Choice : Tree → Type 0
Choice (gauge s) = (z : Item) × Memᴰ z s
Choice (beside a b) = Choice a × Choice b
Choice (stacked a b) = Choice a × Choice b

abbrev pub side_by_side : ℕ → Item → Item → Item
side_by_side gap a b = size (max (height a) (height b)) (width a + gap + width b)

abbrev pub one_on_other : ℕ → Item → Item → Item
one_on_other gap a b = size (height a + gap + height b) (max (width a) (width b))

-- The outer size of a choice: "(max of the m, sum of the p)" at each join.
abbrev pub extent : ℕ → (t : Tree) → Choice t → Item
extent gap (gauge s) c = c.0
extent gap (beside a b) c = side_by_side gap (extent gap a c.0) (extent gap b c.1)
extent gap (stacked a b) c = one_on_other gap (extent gap a c.0) (extent gap b c.1)

-- "An item is inferior where another is no taller and no wider": z is dominated by y.
pub record Dominated (z y : Item) : Type 0 where
  pub not_taller : y.m ≤ z.m
  pub no_wider : y.p ≤ z.p
