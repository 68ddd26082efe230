-- A part as the entries that mean it, with a gauge's sizes coded in any way: document 01's file has them in bytes, and document 02's words (Paper 3) in words.
use Rattle.std.specs.Prelude.{List, [], ◌∷◌, ◌++◌, ℕ, ◌+◌, length}
use Rattle.slicing.specs.Item.{Item}
use Rattle.slicing.specs.Tree.{Tree, gauge, beside, stacked}

-- A gauge's kind, number of sizes and sizes; a join's older part, newer part and kind.
abbrev pub entries_of : (List Item → List ℕ) → Tree → List ℕ
entries_of code (gauge s) = 0x01 ∷ length s ∷ code s
entries_of code (beside a b) = entries_of code a ++ (entries_of code b ++ (0x02 ∷ []))
entries_of code (stacked a b) = entries_of code a ++ (entries_of code b ++ (0x03 ∷ []))

-- How many entries these are.
abbrev pub entry_count : Tree → ℕ
entry_count (gauge s) = 1
entry_count (beside a b) = entry_count a + (entry_count b + 1)
entry_count (stacked a b) = entry_count a + (entry_count b + 1)
