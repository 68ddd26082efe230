-- The shape lists of every part of a face in a lent scratch: a table of the parts, and their lists after it. No public contract cites it.
use Rattle.std.specs.Prelude.{◌≡◌, List, ℕ, ◌+◌, ◌*◌, ◌-◌, ◌≤◌, ◌<◌, length, get_or}
use Rattle.slicing.specs.Item.{Item}
use Rattle.slicing.specs.Tree.{Tree, gauge, beside, stacked, gauge_count}
use Rattle.slicing.specs.Merge.{turn}
use Rattle.slicing.specs.Shapes.{shapes}
use Rattle.entries.specs.inside.Kinds.{kind_of}
use Rattle.useful.specs.inside.Order.{order_word}
use Rattle.packed.specs.inside.Packed.{HasList}

-- The shape list of a part as it is stored: by height for a gauge and side by side, by width for stacked.
unfoldable pub own_shapes : ℕ → Tree → List Item
own_shapes gap (gauge s) = shapes gap (gauge s)
own_shapes gap (beside a b) = shapes gap (beside a b)
own_shapes gap (stacked a b) = turn (shapes gap (stacked a b))

-- Part e, counted from 0 as its last entry stands in the file, has four words of the table: where its list starts, its length, its kind and its gauges.
pub record Entry (s : List ℕ) (e kind gauges : ℕ) (l : List Item) : Type 0 where
  pub inside : e < 127
  pub list : HasList s (get_or s (4 * e) 0) l
  pub count_is : get_or s (4 * e + 1) 0 ≡ length l
  pub kind_is : get_or s (4 * e + 2) 0 ≡ kind
  pub gauges_is : get_or s (4 * e + 3) 0 ≡ gauges

-- Behind the list of a gauge stands the word that names the sizes of the list.
abbrev pub Named : ℕ → List ℕ → ℕ → List Item → Type 0
Named gap s e z = get_or s (get_or s (4 * e) 0 + length (own_shapes gap (gauge z))) 0 ≡ order_word z

-- A part of g gauges has 2 g - 1 entries. The newer part of a join is the one before it, and the older is the one before all entries of the newer.
abbrev pub Stored : ℕ → List ℕ → ℕ → Tree → Type 0
Stored gap s e (gauge z) = Entry s e (kind_of (gauge z)) 1 (own_shapes gap (gauge z)) × Named gap s e z
Stored gap s e (beside a b) =
    Entry s e (kind_of (beside a b)) (gauge_count (beside a b)) (own_shapes gap (beside a b)) × (2 * gauge_count (beside a b) ≤ e + 2)
    × Stored gap s (e - 1) b
    × Stored gap s (e - 2 * gauge_count b) a
Stored gap s e (stacked a b) =
    Entry s e (kind_of (stacked a b)) (gauge_count (stacked a b)) (own_shapes gap (stacked a b)) × (2 * gauge_count (stacked a b) ≤ e + 2)
    × Stored gap s (e - 1) b
    × Stored gap s (e - 2 * gauge_count b) a
