-- Document 02, Paper 7, what the material sheet says, in bytes: "Fields stand in base ten, no leading zeros, with one space between, and each line ends with byte 0A."
use Rattle.std.specs.Prelude.{List, [], ◌∷◌, ◌++◌, ℕ, ◌+◌, ◌*◌}
use Rattle.text.specs.Fields.{space, newline, field, named}
use Rattle.slicing.specs.Item.{Item, height, width}
use Rattle.slicing.specs.Fit.{area}
use Rattle.covering.specs.Covered.{total}

-- "used "
abbrev pub used_word : List ℕ
used_word = 0x75 ∷ 0x73 ∷ 0x65 ∷ 0x64 ∷ 0x20 ∷ []

-- "blank "
abbrev pub blank_word : List ℕ
blank_word = 0x62 ∷ 0x6C ∷ 0x61 ∷ 0x6E ∷ 0x6B ∷ 0x20 ∷ []

-- "face "
abbrev pub face_word : List ℕ
face_word = 0x66 ∷ 0x61 ∷ 0x63 ∷ 0x65 ∷ 0x20 ∷ []

-- "number, width, height, area"
unfoldable pub gauge_line : ℕ → ℕ → ℕ → ℕ → List ℕ
unfolding field
gauge_line number wide high area = field number space ++ (field wide space ++ (field high space ++ field area newline))

-- "It has one line a gauge, in gauge order": of the gauges from a number on, by their sizes.
unfoldable pub gauge_lines : ℕ → List Item → List ℕ
unfolding gauge_line
gauge_lines number [] = []
gauge_lines number (z ∷ sizes) = gauge_line number (width z) (height z) (area z) ++ gauge_lines (number + 1) sizes

-- "Then come the lines `used`, `blank` and `face`, each with its number. Used is the sum of the areas above it."
unfoldable pub sheet_text : List Item → (blank face : ℕ) → List ℕ
unfolding named gauge_lines
sheet_text sizes blank face =
    gauge_lines 1 sizes
    ++ (named used_word (total sizes) newline ++ (named blank_word blank newline ++ named face_word face newline))

-- "which check 18 wants 64 bytes long and 32 more a gauge"
abbrev pub sheet_bytes : ℕ → ℕ
sheet_bytes gauges = 64 + 32 * gauges
