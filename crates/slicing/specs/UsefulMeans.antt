-- Document 02, Paper 1: what the list of a gauge is, with no word on how sizes are left out and put in order, and which number each of them has.
use Rattle.std.specs.Prelude.{◌≡◌, ℕ, ◌+◌, ◌-◌, ◌≤◌, ◌<◌, length, get_or}
use mathlib.Core.List.{List, Memᴰ}
use Rattle.slicing.specs.Item.{Item, size}
use Rattle.slicing.specs.Tree.{Tree, gauge, beside, stacked}
use Rattle.slicing.specs.Good.{Ordered}
use Rattle.slicing.specs.Maxplus.{Meets}
use Rattle.slicing.specs.Useful.{gauge_shapes}
use Rattle.slicing.specs.Recorded.{Recorded}

-- The list is ordered, comes from the printed sizes and meets every printed size.
pub record UsefulSizes (s l : List Item) : Type 0 where
  pub from_size : (z : Item) → Memᴰ z l → Memᴰ z s
  pub size_met : (z : Item) → Memᴰ z s → Meets l z.m z.p
  pub order : Ordered l

-- "The list of a gauge is then its sizes without inferior ones": such a list, with an item where there are sizes, and no longer than they are.
pub record GaugeMeans (s l : List Item) : Type 0 where
  pub sizes : UsefulSizes s l
  pub filled : 1 ≤ length s → 1 ≤ length l
  pub short : length l ≤ length s
  -- No other list does this.
  pub only : (k : List Item) → UsefulSizes s k → k ≡ l

-- "version 1 is read as before": the list of each gauge of the part is its sizes as they stand.
abbrev pub AsPrinted : Tree → Type 0
AsPrinted (gauge s) = gauge_shapes s ≡ s
AsPrinted (beside a b) = AsPrinted a × AsPrinted b
AsPrinted (stacked a b) = AsPrinted a × AsPrinted b

-- The record of a printed size of a gauge whose first size has the number r: "of equal pairs the lowest number stays", and "the sizes left out keep their numbers".
pub record LowestNumber (r : ℕ) (s : List Item) (x : Recorded) : Type 0 where
  pub from_first : r ≤ x.number
  pub to_last : x.number < r + length s
  pub same : get_or s (x.number - r) (size 0 0) ≡ x.item
  pub lowest : (i : ℕ) → r + i < x.number → get_or s i (size 0 0) ≡ x.item → ⊥
