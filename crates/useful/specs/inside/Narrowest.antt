-- The next size of a gauge's list: of the sizes that are lower than a height, the narrowest. No public contract cites it.
use Rattle.std.specs.Prelude.{◌≡◌, Bool, ◌&&◌, ◌||◌, List, ℕ, ◌≤◌, ◌<◌, length, get_or, ltb, eqb, Option, Some, None}
use Rattle.sizes.specs.declared.Size.{Size}
use Rattle.slicing.specs.Item.{Item, size, height, width}

-- The size at a place, counted from 0.
abbrev pub size_no : List Item → ℕ → Item
size_no s k = get_or s k (size 0 0)

-- z is narrower than y, or as wide and lower.
unfoldable pub narrower : Item → Item → Bool
narrower z y = ltb (width z) (width y) || (eqb (width z) (width y) && ltb (height z) (height y))

-- Of the sizes lower than h, the one at the place k is the narrowest, of equal width the lowest, and of equal pairs the first.
pub record Narrowest (s : List Item) (h k : ℕ) : Type 0 where
  pub inside : k < length s
  pub lower : height (size_no s k) < h
  pub narrowest : (i : ℕ) → i < length s → height (size_no s i) < h → width (size_no s k) ≤ width (size_no s i)
  pub lowest : (i : ℕ) → i < length s → height (size_no s i) < h → width (size_no s i) ≡ width (size_no s k) → height (size_no s k) ≤ height (size_no s i)
  pub first : (i : ℕ) → i < k → size_no s i ≡ size_no s k → ⊥

-- The narrowest size lower than h, with its place, where a size is lower.
abbrev pub NextBelow : List Item → ℕ → Option (ℕ × Size) → Type 0
NextBelow s h None = (i : ℕ) → i < length s → h ≤ height (size_no s i)
NextBelow s h (Some (k, z)) = Narrowest s h k × (size z.height z.width ≡ size_no s k)
