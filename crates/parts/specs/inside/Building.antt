-- The list of a whole face, built part by part from a taken file. No public contract cites it.
use Rattle.std.specs.Prelude.{◌≡◌, List, ℕ, ◌+◌, ◌≤◌, ◌<◌, length, get_or}
use Rattle.checks.specs.Limits.{most_rib, buffer_words}
use Rattle.checks.specs.Answer.{taken}
use Rattle.slicing.specs.Tree.{Tree, size_count}
use Rattle.slicing.specs.Recorded.{part_recorded}
use Rattle.facefile.specs.Format.{face_of}
use Rattle.entries.specs.inside.Kinds.{last_kind}
use Rattle.entries.specs.declared.kinds.Kind.{Kind}
use Rattle.parts.specs.inside.Part.{Part}

-- A taken file, with a level from 1 to 8 for each size, a rib of at most 20, and room.
pub record Buildable (file levels : List ℕ) (rib : ℕ) (a : List ℕ) : Type 0 where
  pub tree : Tree
  pub face : face_of file ≡ taken tree
  pub as_many : length levels ≡ size_count tree
  pub low : (i : ℕ) → i < length levels → 1 ≤ get_or levels i 0
  pub high : (i : ℕ) → i < length levels → get_or levels i 0 ≤ 8
  pub narrow : rib ≤ most_rib
  pub long : buffer_words ≤ length a

-- The face's list stands at record 0.
pub record Whole (file levels : List ℕ) (rib : ℕ) (a b : List ℕ) (kind : Kind) (t : Tree) : Type 0 where
  pub length_kept : length b ≡ length a
  pub kind_is : kind ≡ last_kind t
  pub part : Part levels b 0 1 (1 + size_count t) (part_recorded rib 1 t)
