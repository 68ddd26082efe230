-- The lines of the items by their words. No public contract cites it.
use Rattle.std.specs.Prelude.{List, [], ◌∷◌, ◌++◌, ℕ}
use Rattle.rendering.specs.Text.{item_line}

-- The lines of items whose words, height and width of each, stand in a list.
unfoldable pub word_lines : List ℕ → List ℕ
unfolding item_line
word_lines (h ∷ w ∷ words) = item_line h w ++ word_lines words
word_lines [] = []
word_lines (h ∷ []) = []
