-- What `material` prints hangs on the first 4,096 bytes of a file alone, as many as it reads, and for every taken file it is a sheet, never `refused 19`.
-- The reader's answer hangs on the first 2,247 bytes alone, and every face fits the opening.
use mathlib.Core.Path.{◌≡◌, refl, sym, ap, ◌∙◌}
use mathlib.Core.List.{List}
use Prim.Native.Nat.{ℕ}
use native.Mathlib.Omega.{arith}
use lib.ListN.{take}
use lib.Seq.{take-take}
use Rattle.checks.specs.Answer.{taken}
use Rattle.slicing.specs.Item.{Item}
use Rattle.slicing.specs.Tree.{Tree}
use Rattle.slicing.specs.Shapes.{shapes}
use Rattle.slicing.specs.Fit.{Pick, nothing, picked, smallest, place}
use Rattle.facefile.specs.Format.{face_of}
use Rattle.facefile.proofs.Prefix.{face_prefix}
use Rattle.report.specs.Faces.{widest}
use Rattle.report.proofs.Widest.{something_fits}
use Rattle.materialsheet.specs.Sheet.{sheet_of}
use Rattle.materialtext.specs.Material.{sheet_printed, material_printed}

pub enough_read : (s : List ℕ) → material_printed (face_of (take 4_096 s)) ≡ material_printed (face_of s)
enough_read s =
    ap material_printed (sym (face_prefix (take 4_096 s)) ∙ ap face_of (take-take 2_247 4_096 s (omega arith)) ∙ face_prefix s)

pub sheet_is_printed : (file : List ℕ) (t : Tree) → face_of file ≡ taken t → (z : Item) × (smallest widest (shapes 0 t) ≡ picked z) × (material_printed (face_of file) ≡ sheet_of t (place 0 t z 0 0))
unfolding material_printed
sheet_is_printed file t face = by (smallest widest (shapes 0 t)) refl
  where
    by : (p : Pick) → smallest widest (shapes 0 t) ≡ p → (z : Item) × (smallest widest (shapes 0 t) ≡ picked z) × (material_printed (face_of file) ≡ sheet_of t (place 0 t z 0 0))
    by nothing e = absurd (something_fits file t face e)
    by (picked z) e = (z, e, ap material_printed face ∙ ap (sheet_printed t) e)
