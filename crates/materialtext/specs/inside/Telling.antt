-- What the functions inside `material_text` ask of a taken file. No public contract cites it.
use Rattle.std.specs.Prelude.{◌≡◌, List, ℕ}
use Rattle.checks.specs.Answer.{taken}
use Rattle.slicing.specs.Tree.{Tree, gauge_count}
use Rattle.facefile.specs.Format.{face_of}

-- The file means a tree of so many gauges.
pub record Gauged (file : List ℕ) (gauges : ℕ) : Type 0 where
  pub tree : Tree
  pub face : face_of file ≡ taken tree
  pub counted : gauges ≡ gauge_count tree
