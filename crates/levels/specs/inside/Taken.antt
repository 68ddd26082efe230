-- What the levels call does once it is taken. No public contract cites it.
use Rattle.std.specs.Prelude.{◌≡◌, List, ℕ}
use Rattle.checks.specs.Answer.{taken}
use Rattle.slicing.specs.Tree.{Tree, size_count}
use Rattle.facefile.specs.Format.{face_of}
use Rattle.levels.specs.Levels.{levels_of}

-- A taken file, and room for as many levels as it has sizes.
pub record Fillable (file : List ℕ) (room : ℕ) : Type 0 where
  pub tree : Tree
  pub face : face_of file ≡ taken tree
  pub as_many : room ≡ size_count tree

-- The levels are those of the face that the file means.
unfoldable pub OwnLevels : List ℕ → List ℕ → Type 0
OwnLevels file levels = (t : Tree) → face_of file ≡ taken t → levels ≡ levels_of t
