-- What the walk over a list's words asks and leaves, and what passing the taller items gives. No public contract cites it.
use Rattle.std.specs.Prelude.{◌≡◌, List, [], ◌∷◌, ℕ, zero, suc, ◌+◌, ◌*◌, ◌-◌, ◌≤◌, ◌<◌, length, get_or}
use Rattle.checks.specs.Limits.{most_sizes, most_heights}
use Rattle.slicing.specs.Item.{Item, size}
use Rattle.lent.specs.Lent.{written_over}
use Rattle.walking.specs.Walk.{walked}

-- The n items that the words of a buffer are from item i on: height and width of each.
abbrev pub items_at : List ℕ → (i n : ℕ) → List Item
items_at words i zero = []
items_at words i (suc n) = size (get_or words (2 * i) 0) (get_or words (2 * i + 1) 0) ∷ items_at words (suc i) n

-- Those that are left at item i, of so many.
unfoldable pub items_left : List ℕ → (items i : ℕ) → List Item
items_left words items i = items_at words i (items - i)

-- No walk takes more looks: "at most the items plus the heights".
abbrev pub most_looks : ℕ
most_looks = most_sizes + most_heights

-- After so many items stands one of height 0.
pub record Closed (words : List ℕ) (items : ℕ) : Type 0 where
  pub has : 2 * items + 1 < length words
  pub no_height : get_or words (2 * items) 0 ≡ 0

-- It was written there, and the items are as they were.
pub record ClosedOver (words : List ℕ) (items : ℕ) (words' : List ℕ) : Type 0 where
  pub closed : Closed words' items
  pub same : items_left words' items 0 ≡ items_left words items 0

-- The items from a place to the one reached are taller than a height, and each was one look more than those before.
pub record Passed (words : List ℕ) (from height before item looks : ℕ) : Type 0 where
  pub has : 2 * item + 1 < length words
  pub onward : from ≤ item
  pub taller : (k : ℕ) → from ≤ k → k < item → height < get_or words (2 * k) 0
  pub counted : looks + from ≡ before + item

-- There are so many items with room for one more, and a word of the output for each height.
pub record Walkable (words : List ℕ) (items : ℕ) (heights out : List ℕ) : Type 0 where
  pub has : 2 * items + 1 < length words
  pub few : items ≤ most_sizes
  pub short : length heights ≤ most_heights
  pub room : length heights ≤ length out

-- The walk over all items took so many looks, and its widths stand over the output's start.
pub record WalkedOver (words : List ℕ) (items : ℕ) (heights out out' : List ℕ) (looks : ℕ) : Type 0 where
  pub looks_are : looks ≡ (walked (items_left words items 0) heights).looks
  pub widths_are : out' ≡ written_over (walked (items_left words items 0) heights).widths out
