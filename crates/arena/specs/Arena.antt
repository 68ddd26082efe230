-- Document 01, "Lazy lists", and document 02, paper 6: the words of a record. Links are counted from 0 here: link k is the document's forward k + 1 and adjust k + 1, and a record of level l has links 0 to l - 1.
use Rattle.std.specs.Prelude.{ℕ, ◌+◌, ◌*◌, List, slice_index}

-- "An arena record grows to 20 words." "Record r starts at word 20r."
abbrev pub stride : ℕ
stride = 20

unfoldable pub word : List ℕ → ℕ → ℕ → ℕ
word a r j = slice_index a (stride * r + j)

-- "Word 0 is the level, 1 is m, 2 is p, 3 to 10 are forward 1 to 8, 11 to 18 are adjust 1 to 8."
abbrev pub level_at : ℕ
level_at = 0

abbrev pub m_at : ℕ
m_at = 1

abbrev pub p_at : ℕ
p_at = 2

abbrev pub forward_at : ℕ
forward_at = 3

abbrev pub adjust_at : ℕ
adjust_at = 11

-- "Word 19 is the record before it on the list".
abbrev pub back_at : ℕ
back_at = 19

abbrev pub level : List ℕ → ℕ → ℕ
level a r = word a r level_at

abbrev pub m_word : List ℕ → ℕ → ℕ
m_word a r = word a r m_at

abbrev pub p_word : List ℕ → ℕ → ℕ
p_word a r = word a r p_at

abbrev pub forward : List ℕ → ℕ → ℕ → ℕ
forward a r k = word a r (forward_at + k)

abbrev pub adjust : List ℕ → ℕ → ℕ → ℕ
adjust a r k = word a r (adjust_at + k)

abbrev pub back : List ℕ → ℕ → ℕ
back a r = word a r back_at
