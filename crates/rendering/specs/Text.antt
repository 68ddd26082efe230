-- Document 01, what the program `faces` prints, in bytes: the text of a face that is taken, and the line of one that is refused.
use Rattle.std.specs.Prelude.{List, [], ◌∷◌, ◌++◌, ℕ, ◌+◌, ◌*◌, length}
use Rattle.text.specs.Fields.{space, newline, field, named}
use Rattle.slicing.specs.Item.{Item, height, width}

-- "faces "
abbrev pub faces_word : List ℕ
faces_word = 0x66 ∷ 0x61 ∷ 0x63 ∷ 0x65 ∷ 0x73 ∷ 0x20 ∷ []

-- "best "
abbrev pub best_word : List ℕ
best_word = 0x62 ∷ 0x65 ∷ 0x73 ∷ 0x74 ∷ 0x20 ∷ []

-- "gauge "
abbrev pub gauge_word : List ℕ
gauge_word = 0x67 ∷ 0x61 ∷ 0x75 ∷ 0x67 ∷ 0x65 ∷ 0x20 ∷ []

-- "size "
abbrev pub size_word : List ℕ
size_word = 0x73 ∷ 0x69 ∷ 0x7A ∷ 0x65 ∷ 0x20 ∷ []

-- "at "
abbrev pub at_word : List ℕ
at_word = 0x61 ∷ 0x74 ∷ 0x20 ∷ []

-- "refused "
abbrev pub refused_word : List ℕ
refused_word = 0x72 ∷ 0x65 ∷ 0x66 ∷ 0x75 ∷ 0x73 ∷ 0x65 ∷ 0x64 ∷ 0x20 ∷ []

-- "Item lines are height, width", and "each line ends with byte 0A".
unfoldable pub item_line : ℕ → ℕ → List ℕ
unfolding field
item_line h w = field h space ++ field w newline

unfoldable pub item_lines : List Item → List ℕ
unfolding item_line
item_lines [] = []
item_lines (z ∷ l) = item_line (height z) (width z) ++ item_lines l

-- "`best` is height, width, area".
unfoldable pub best_line : ℕ → ℕ → ℕ → List ℕ
unfolding named
best_line h w area = named best_word h space ++ (field w space ++ field area newline)

-- "Gauge lines are number, size, across, up".
unfoldable pub gauge_line : ℕ → ℕ → ℕ → ℕ → List ℕ
unfolding named
gauge_line number size across up =
    named gauge_word number space
    ++ (named size_word size space ++ (named at_word across space ++ field up newline))

-- The lines of the gauges from a number on, of the fit call's output, "per gauge: size number within the gauge, across, up, width, height". It holds five words a gauge; a rest of fewer words is none.
unfoldable pub gauge_lines : ℕ → List ℕ → List ℕ
unfolding gauge_line
gauge_lines number (size ∷ across ∷ up ∷ wide ∷ high ∷ layout) = gauge_line number size across up ++ gauge_lines (number + 1) layout
gauge_lines number [] = []
gauge_lines number (a ∷ []) = []
gauge_lines number (a ∷ b ∷ []) = []
gauge_lines number (a ∷ b ∷ c ∷ []) = []
gauge_lines number (a ∷ b ∷ c ∷ d ∷ []) = []

-- The text of a face that is taken: the outer sizes, the best of them with "area as their product", and the layout. "The first line has the item count".
unfoldable pub faces_text : List Item → Item → List ℕ → List ℕ
unfolding named item_lines best_line gauge_lines
faces_text items best layout =
    named faces_word (length items) newline
    ++ (item_lines items ++ (best_line (height best) (width best) (height best * width best) ++ gauge_lines 1 layout))

-- "One line such as `refused 4`."
unfoldable pub refused_text : ℕ → List ℕ
unfolding named
refused_text number = named refused_word number newline
