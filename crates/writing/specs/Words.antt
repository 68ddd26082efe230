-- Document 01, "Outer sizes": the words of a list, as the list call writes them.
use Rattle.std.specs.Prelude.{List, [], ◌∷◌, ℕ}
use Rattle.slicing.specs.Item.{Item, height, width}

-- Height, width for each item.
unfoldable pub list_words : List Item → List ℕ
list_words [] = []
list_words (z ∷ l) = height z ∷ width z ∷ list_words l
