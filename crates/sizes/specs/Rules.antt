-- Document 02: what the questions of the entries hang on. Paper 1: a file is read by the rules of its version. Paper 3: words are read by the same questions, with their sizes coded otherwise.
use Rattle.std.specs.Prelude.{Bool, List, ℕ, eqb}
use Rattle.slicing.specs.Item.{Item}

-- The version whose questions are asked; how many bytes or words a size takes; and the size that stands at the first of them.
pub record Rules : Type 0 where
  pub version : ℕ
  pub step : ℕ
  pub size_of : List ℕ → Item

-- "File version 2 drops check 9": it is asked in version 1 alone.
abbrev pub asks_order : Rules → Bool
asks_order rules = eqb rules.version 1
