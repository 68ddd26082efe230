-- What `faces` prints hangs on the first 4,096 bytes of a file alone, as many as it reads.
-- The reader's answer hangs on the first 2,247 bytes alone.
use mathlib.Core.Path.{◌≡◌, sym, ap, ◌∙◌}
use mathlib.Core.List.{List}
use Prim.Native.Nat.{ℕ}
use native.Mathlib.Omega.{arith}
use lib.ListN.{take}
use lib.Seq.{take-take}
use Rattle.facefile.specs.Format.{face_of}
use Rattle.facefile.proofs.Prefix.{face_prefix}
use Rattle.report.specs.Faces.{faces_printed}

pub enough_read : (s : List ℕ) → faces_printed (face_of (take 4_096 s)) ≡ faces_printed (face_of s)
enough_read s =
    ap faces_printed (sym (face_prefix (take 4_096 s)) ∙ ap face_of (take-take 2_247 4_096 s (omega arith)) ∙ face_prefix s)
