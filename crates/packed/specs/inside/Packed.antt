-- Lists of items in a lent scratch, one word an item. No public contract cites it.
use Rattle.std.specs.Prelude.{◌≡◌, Bool, cond, List, ℕ, ◌+◌, ◌*◌, ◌≤◌, ◌<◌, length, get_or}
use Rattle.slicing.specs.Item.{Item, size}
use Rattle.slicing.specs.Merge.{turn}

-- An item in one word: m and p are below 65,536.
unfoldable pub pack : Item → ℕ
pack z = 65_536 * z.m + z.p

-- The list, or the list turned.
abbrev pub facing : Bool → List Item → List Item
facing across l = cond across (turn l) l

-- The scratch s has the list l, one word an item, from a place on. The items are below 65,536 both ways.
pub record HasList (s : List ℕ) (from : ℕ) (l : List Item) : Type 0 where
  pub inside : from + length l ≤ length s
  pub at : (i : ℕ) → i < length l → get_or s (from + i) 0 ≡ pack (get_or l i (size 0 0))
  pub low : (i : ℕ) → i < length l → ((get_or l i (size 0 0)).m < 65_536) × ((get_or l i (size 0 0)).p < 65_536)
