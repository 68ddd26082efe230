-- Document 01, "Fit": the face that is picked, its layout going down the tree, and the words that the layout is written as.
use Rattle.std.specs.Prelude.{Bool, cond, ◌&&◌, ◌||◌, List, [], ◌∷◌, ◌++◌, ℕ, ◌+◌, ◌*◌, leb, ltb, eqb}
use Rattle.slicing.specs.Item.{Item, size, height, width}
use Rattle.slicing.specs.Tree.{Tree, gauge, beside, stacked}
use Rattle.slicing.specs.Useful.{index_of}
use Rattle.slicing.specs.Merge.{swap, turn}
use Rattle.slicing.specs.Shapes.{shapes}
use Rattle.slicing.specs.Layout.{Layout, size_in, Outline}

-- The item that is picked, if there is one.
pub data Pick : Type 0 where
  nothing : Pick
  picked : Item → Pick

abbrev pub area : Item → ℕ
area z = height z * width z

-- "inside the opening"
abbrev pub fits : Outline → Item → Bool
fits o z = leb (height z) o.height && leb (width z) o.width

-- Less area; "of equal areas, the least width".
abbrev pub better : Item → Item → Bool
better y z = ltb (area y) (area z) || (eqb (area y) (area z) && ltb (width y) (width z))

-- Of an item and the pick of the items after it.
abbrev pub choose : Item → Pick → Pick
choose z nothing = picked z
choose z (picked y) = cond (better y z) (picked y) (picked z)

-- "The face is the root item of least area inside the opening; of equal areas, the least width."
unfoldable pub smallest : Outline → List Item → Pick
smallest o [] = nothing
smallest o (z ∷ l) = cond (fits o z) (choose z (smallest o l)) (smallest o l)

-- "its narrowest item no taller than h": widths rise down the list, so the first item no taller is the narrowest.
unfoldable pub no_taller : ℕ → List Item → Item
no_taller h [] = size 0 0
no_taller h (z ∷ l) = cond (leb (height z) h) z (no_taller h l)

-- "Stacked: the same with width for height"
abbrev pub no_wider : ℕ → List Item → Item
no_wider w l = swap (no_taller w (turn l))

-- The layout of a part with the item z, its lower left corner at x, y. "In a side-by-side part of height h, each side takes its narrowest item no taller than h; the right part starts at the left item's width. Stacked: the same with width for height, upward. A gauge sits in the lower left corner of its part."
unfoldable pub place : ℕ → (t : Tree) → Item → ℕ → ℕ → Layout t
place gap (gauge s) z x y = record { index = index_of z s; across = x; up = y }
place gap (beside a b) z x y = (
  place gap a (no_taller (height z) (shapes gap a)) x y,
  place gap b (no_taller (height z) (shapes gap b)) (x + width (no_taller (height z) (shapes gap a)) + gap) y,
)
place gap (stacked a b) z x y = (
  place gap a (no_wider (width z) (shapes gap a)) x y,
  place gap b (no_wider (width z) (shapes gap b)) x (y + height (no_wider (width z) (shapes gap a)) + gap),
)

-- "Output, per gauge: size number within the gauge, across, up, width, height." Size numbers count from 1.
abbrev pub words : (t : Tree) → Layout t → List ℕ
words (gauge s) l = (l.index + 1) ∷ l.across ∷ l.up ∷ width (size_in s l) ∷ height (size_in s l) ∷ []
words (beside a b) l = words a l.0 ++ words b l.1
words (stacked a b) l = words a l.0 ++ words b l.1
