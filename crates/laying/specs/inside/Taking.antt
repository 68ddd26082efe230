-- The item that a side of a join takes of its list, where that stands in a lent scratch. No public contract cites it.
use Rattle.std.specs.Prelude.{◌≡◌, Bool, true, false, cond, ℕ, ◌≤◌, ◌<◌, length, get_or}
use mathlib.Core.List.{List, Memᴰ}
use Rattle.slicing.specs.Item.{Item, size}
use Rattle.slicing.specs.Tree.{Tree}
use Rattle.slicing.specs.Good.{Ordered, Good}
use Rattle.slicing.specs.Merge.{swap}
use Rattle.slicing.specs.Shapes.{shapes}
use Rattle.slicing.specs.Fit.{no_taller}
use Rattle.entries.specs.declared.kinds.Kind.{Kind}
use Rattle.entries.specs.declared.kinds.Kind.TheVariants.{Gauge, Beside, Stacked}
use Rattle.packed.specs.inside.Packed.{facing, HasList}
use Rattle.packed.specs.declared.stretch.Stretch.{Stretch}
use Rattle.stored.specs.inside.Store.{Stored}

-- Some item of the list has an m of at most the limit.
pub record HasLow (limit : ℕ) (l : List Item) : Type 0 where
  pub item : Item
  pub item_in : Memᴰ item l
  pub item_low : item.m ≤ limit

-- A stored list that is searched, as it runs or turned.
pub record Searchable (s : List ℕ) (a : Stretch) (limit : ℕ) (l : List Item) : Type 0 where
  pub list : HasList s a.from l
  pub count_is : a.count ≡ length l
  pub ordered : Ordered l
  pub some : HasLow limit (facing a.across l)

-- The item at a place is the first whose m is at most the limit.
pub record FirstLow (limit : ℕ) (l : List Item) (k : ℕ) : Type 0 where
  pub in_list : k < length l
  pub same : no_taller limit l ≡ get_or l k (size 0 0)

-- The item, or the item swapped.
abbrev pub facing_item : Bool → Item → Item
facing_item across z = cond across (swap z) z

-- Whether a join goes upward, as a stacked one does, or side by side.
abbrev pub goes_up : Kind → Bool
goes_up Gauge = false
goes_up Beside = false
goes_up Stacked = true

-- The kind byte of a join, side by side or upward.
abbrev pub join_kind : Bool → ℕ
join_kind upward = cond upward 0x03 0x02

-- A stored part, of whose shape list, by height or turned, an item is taken.
pub record Takable (gap : ℕ) (s : List ℕ) (part : ℕ) (upward : Bool) (limit : ℕ) (t : Tree) : Type 0 where
  pub stored : Stored gap s part t
  pub good : Good t
  pub some : HasLow limit (facing upward (shapes gap t))

-- The item taken, by its place in the shape list by height, and its p along the join.
pub record Takes (gap : ℕ) (upward : Bool) (limit : ℕ) (t : Tree) (place extent : ℕ) : Type 0 where
  pub in_list : place < length (shapes gap t)
  pub same : no_taller limit (facing upward (shapes gap t)) ≡ facing_item upward (get_or (shapes gap t) place (size 0 0))
  pub extent_is : extent ≡ (no_taller limit (facing upward (shapes gap t))).p
