-- The parts of a line: numbers, the bytes that end them, and words before a number.
use Rattle.std.specs.Prelude.{List, [], ◌∷◌, ◌++◌, ℕ}
use Rattle.text.specs.Decimal.{decimal}

-- Byte 20, " ".
abbrev pub space : ℕ
space = 0x20

-- Byte 0A, which ends a line.
abbrev pub newline : ℕ
newline = 0x0A

-- A number, and the byte that ends it.
unfoldable pub field : ℕ → ℕ → List ℕ
unfolding decimal
field n end = decimal n ++ (end ∷ [])

-- Words, and then a number with the byte that ends it.
unfoldable pub named : List ℕ → ℕ → ℕ → List ℕ
unfolding field
named words n end = words ++ field n end
