-- What the functions that write the items of a list of an arena into a buffer ask and leave: the list is linked, and the buffer has two words for each of its records. No public contract cites it.
use Rattle.std.specs.Prelude.{List, ℕ, ◌+◌, ◌*◌, ◌≤◌, length, set}
use Rattle.checks.specs.Limits.{most_sizes}
use Rattle.arena.specs.inside.Chain.{Linked}

-- The records rs are the list of the head h, at most 512 of them, and there is room for their items.
pub record Listable (a : List ℕ) (h : ℕ) (rs out : List ℕ) : Type 0 where
  pub linked : Linked a h rs
  pub few : length rs ≤ most_sizes
  pub room : 2 * length rs ≤ length out

-- The buffer with an item's two words at a place.
unfoldable pub item_at : List ℕ → ℕ → ℕ → ℕ → List ℕ
item_at out at height width = set (set out at height) (at + 1) width
