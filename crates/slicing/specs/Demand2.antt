-- Demand 2, in its own order: what the list of outer sizes of a tree is.
use Rattle.std.specs.Prelude.{◌≡◌, ℕ, ◌+◌, ◌≤◌, length}
use mathlib.Core.List.{List, Memᴰ}
use Rattle.slicing.specs.Item.{Item}
use Rattle.slicing.specs.Tree.{Tree, gauge_count, size_count}
use Rattle.slicing.specs.Good.{Ordered}
use Rattle.slicing.specs.Maxplus.{Meets}
use Rattle.slicing.specs.Choice.{Choice, extent, Dominated}

-- A choice whose outer size is z.
pub record Chosen (gap : ℕ) (t : Tree) (z : Item) : Type 0 where
  pub choice : Choice t
  pub same : extent gap t choice ≡ z

-- The list is ordered, comes from choices and meets every choice.
pub record OuterSizes (gap : ℕ) (t : Tree) (l : List Item) : Type 0 where
  -- "Each item comes from one choice of size per gauge."
  pub from_choice : (z : Item) → Memᴰ z l → Chosen gap t z
  -- "Each choice is met by an item no taller and no wider."
  pub choice_met : (c : Choice t) → Meets l (extent gap t c).m (extent gap t c).p
  -- "Heights fall and widths rise strictly down the list."
  pub order : Ordered l

pub record Demand2 (gap : ℕ) (t : Tree) (l : List Item) : Type 0 where
  pub outer : OuterSizes gap t l
  -- "With n sizes and g gauges it has at most n - g + 1 items."
  pub short : length l + gauge_count t ≤ size_count t + 1
  -- "An item is inferior where another is no taller and no wider": none is.
  pub none_inferior : (z y : Item) → Memᴰ z l → Memᴰ y l → Dominated z y → y ≡ z
  -- No other list does this.
  pub only : (k : List Item) → OuterSizes gap t k → k ≡ l
