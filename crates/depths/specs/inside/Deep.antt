-- What the walk for the depths finds. No public contract cites it.
use Rattle.std.specs.Prelude.{◌≡◌, List, ℕ, ◌+◌, ◌<◌, min, max}
use Rattle.checks.specs.Answer.{taken}
use Rattle.slicing.specs.Tree.{Tree, least_depth, most_depth}
use Rattle.facefile.specs.Format.{face_of}
use Rattle.depths.specs.declared.Depths.{Depths}

-- D and E of the tree that the file means.
unfoldable pub Deep : List ℕ → Depths → Type 0
Deep file r = (t : Tree) → face_of file ≡ taken t → (r.least ≡ least_depth t) × (r.most ≡ most_depth t)

-- Not so deep that one join more would not fit.
pub record Shallow (d : Depths) : Type 0 where
  pub least : d.least < 255
  pub most : d.most < 255

-- One join more than above the gauges of both parts.
abbrev pub above : Depths → Depths → Depths
above older newer =
    record { least = 1 + min older.least newer.least; most = 1 + max older.most newer.most }
