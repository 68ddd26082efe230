-- Demand 2 of what the list call leaves, in the demand's own order, with document 02's rib: "the outer sizes are the merge with the rib added to each sum".
use Rattle.std.specs.Prelude.{◌≡◌, List, ℕ, ◌+◌, ◌*◌, ◌≤◌, length, take}
use Rattle.checks.specs.Answer.{taken}
use Rattle.slicing.specs.Item.{Item}
use Rattle.slicing.specs.Tree.{Tree, gauge, beside, stacked, gauge_count, size_count}
use Rattle.slicing.specs.Merge.{turn}
use Rattle.slicing.specs.Shapes.{shapes}
use Rattle.slicing.specs.Recorded.{Recorded, items}
use Rattle.slicing.specs.Demand2.{OuterSizes}
use Rattle.arena.specs.Lazy.{lazy_list}
use Rattle.lent.specs.Lent.{Lent, written_over}
use Rattle.shapes.specs.declared.Listed.{Listed}
use Rattle.shapes.specs.Listing.{RootList}
use Rattle.writing.specs.Words.{list_words}

-- The outer sizes of a face as they run in the arena: turned where the root is stacked.
abbrev pub as_held : Tree → List Item → List Item
as_held (gauge s) l = l
as_held (beside a b) l = l
as_held (stacked a b) l = turn l

-- What a taken call leaves of the face t.
pub record ListMeans (levels : List ℕ) (rib : ℕ) (old : Lent) (r : Listed) (new : Lent) (t : Tree) : Type 0 where
  -- "The list of outer sizes is the maxplus merge of Stockmeyer, as Chen and Zhou state it, carried up the tree": this list stands in the output, and the count is its length.
  pub list : List Item
  pub merged : list ≡ shapes rib t
  pub written : new.output ≡ written_over (list_words list) old.output
  pub counted : r.count ≡ length list
  -- "Each item comes from one choice of size per gauge. Each choice is met by an item no taller and no wider. Heights fall and widths rise strictly down the list."
  pub outer : OuterSizes rib t list
  -- "With n sizes and g gauges it has at most n - g + 1 items."
  pub short : length list + gauge_count t ≤ size_count t + 1
  -- "The lazy lists give that same list": the arena holds a lazy list, whose items are the list's.
  pub held : List Recorded
  pub holds : lazy_list new.arena ≡ taken held
  pub same_list : items held ≡ as_held t list
  -- With each item's record and its lent level.
  pub root : RootList levels rib new.arena t

-- "under every table of levels from 1 to 8": what two taken calls on one face with one rib leave is alike, whatever their levels and buffers.
pub record ListsAlike (r : Listed) (new : Lent) (r₂ : Listed) (new₂ : Lent) : Type 0 where
  pub same_count : r.count ≡ r₂.count
  pub same_output : take (2 * r.count) new.output ≡ take (2 * r₂.count) new₂.output
  pub same_arena : lazy_list new.arena ≡ lazy_list new₂.arena
