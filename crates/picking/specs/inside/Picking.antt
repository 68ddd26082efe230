-- What the pick of an item answers. No public contract cites it.
use Rattle.std.specs.Prelude.{◌≡◌, Option, Some, None, List, ℕ, ◌<◌, length, get_or}
use Rattle.slicing.specs.Item.{Item, size}
use Rattle.slicing.specs.Layout.{Outline}
use Rattle.slicing.specs.Fit.{Pick, nothing, picked, smallest}

-- Nothing, or the item at a place of the list.
abbrev pub pick_at : Option ℕ → List Item → Pick
pick_at None l = nothing
pick_at (Some k) l = picked (get_or l k (size 0 0))

-- The answer is the pick of the list, and where there is one its place is in the list.
pub record Picks (o : Outline) (l : List Item) (found : Option ℕ) : Type 0 where
  pub same : smallest o l ≡ pick_at found l
  pub in_list : (k : ℕ) → found ≡ Some k → k < length l
