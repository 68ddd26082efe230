-- Document 02, Paper 5: the walk over a list of outer sizes, for heights one after the other.
use Rattle.std.specs.Prelude.{cond, List, [], ◌∷◌, ℕ, suc, ◌+◌, ◌≤◌, leb}
use Rattle.slicing.specs.Item.{Item, height, width}

-- Where the walk is after a height, its present item first, and how many items it looked at for it.
pub record Stop : Type 0 where
  pub rest : List Item
  pub looks : ℕ

-- One look more, at an item that is taller.
abbrev pub passed : Stop → Stop
passed s = record { rest = s.rest; looks = suc s.looks }

-- "For each height the walk looks at items from its present one until one is no taller": the look at that item counts. Reaching the end of the list is no look.
unfoldable pub seek : ℕ → List Item → Stop
seek h [] = record { rest = []; looks = 0 }
seek h (z ∷ l) = cond (leb (height z) h) (record { rest = z ∷ l; looks = 1 }) (passed (seek h l))

-- The width of the present item, 0 where the list has run out.
abbrev pub present_width : List Item → ℕ
present_width [] = 0
present_width (z ∷ l) = width z

-- The width for each height, and the looks of all heights together.
pub record Walked : Type 0 where
  pub widths : List ℕ
  pub looks : ℕ

-- A height's stop, and then the walk of the heights after it.
abbrev pub onward : Stop → Walked → Walked
onward s w = record { widths = present_width s.rest ∷ w.widths; looks = s.looks + w.looks }

-- "Walk the root's list of outer sizes once, tallest first": "the next height starts at that item", so that its first look there counts again; "once the list has run out, later heights take no look".
unfoldable pub walked : List Item → List ℕ → Walked
walked l [] = record { widths = []; looks = 0 }
walked l (h ∷ heights) = onward (seek h l) (walked (seek h l).rest heights)

-- "tallest first": no height is "more than the one before". After the height h, and from the first on.
abbrev pub FallsFrom : ℕ → List ℕ → Type 0
FallsFrom h [] = Unit {0}
FallsFrom h (k ∷ heights) = (k ≤ h) × FallsFrom k heights

abbrev pub Falls : List ℕ → Type 0
Falls [] = Unit {0}
Falls (h ∷ heights) = FallsFrom h heights
