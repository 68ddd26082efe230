-- Document 02, Paper 5: the least width for an opening height, found for it by itself.
use Rattle.std.specs.Prelude.{cond, List, [], ◌∷◌, map, ℕ, min, leb}
use Rattle.slicing.specs.Item.{Item, height, width}

-- The widths of the items no taller than h.
abbrev pub widths_no_taller : ℕ → List Item → List ℕ
widths_no_taller h [] = []
widths_no_taller h (z ∷ l) = cond (leb (height z) h) (width z ∷ widths_no_taller h l) (widths_no_taller h l)

-- The least number of a list, 0 of none.
abbrev pub least : List ℕ → ℕ
least [] = 0
least (w ∷ []) = w
least (w ∷ v ∷ l) = min w (least (v ∷ l))

-- "Each width must be the least among the outer sizes no taller than that height, found for it by itself"; "0 stands for a height that no face meets".
unfoldable pub width_for : ℕ → List Item → ℕ
width_for h l = least (widths_no_taller h l)

-- For each height in turn.
abbrev pub widths_for : List Item → List ℕ → List ℕ
widths_for l heights = map (λ (h : ℕ). width_for h l) heights
