-- For document 01's file of 28 bytes `faces` prints exactly the text that the document shows.
-- The checker computes the list, the best item and its layout from the face that the file means, and the text from these.
use mathlib.Core.Path.{◌≡◌, ap}
use mathlib.Core.List.{List, [], ◌∷◌}
use Prim.Native.Nat.{ℕ}
use Rattle.slicing.specs.Useful.{index_of, gauge_shapes}
use Rattle.slicing.specs.Merge.{merge}
use Rattle.slicing.specs.Shapes.{shapes}
use Rattle.slicing.specs.Fit.{smallest, no_taller, place}
use Rattle.facefile.specs.Format.{face_of}
use Rattle.facefile.proofs.Example.{example as file, example_face}
use Rattle.rendering.specs.Text.{faces_text}
use Rattle.report.specs.Faces.{faces_printed}

-- The text that the document shows.
abbrev pub example : List ℕ
example =
    -- faces 3
    0x66 ∷ 0x61 ∷ 0x63 ∷ 0x65 ∷ 0x73 ∷ 0x20 ∷ 0x33 ∷ 0x0A ∷
    -- 60 70
    0x36 ∷ 0x30 ∷ 0x20 ∷ 0x37 ∷ 0x30 ∷ 0x0A ∷
    -- 50 90
    0x35 ∷ 0x30 ∷ 0x20 ∷ 0x39 ∷ 0x30 ∷ 0x0A ∷
    -- 40 110
    0x34 ∷ 0x30 ∷ 0x20 ∷ 0x31 ∷ 0x31 ∷ 0x30 ∷ 0x0A ∷
    -- best 60 70 4200
    0x62 ∷ 0x65 ∷ 0x73 ∷ 0x74 ∷ 0x20 ∷ 0x36 ∷ 0x30 ∷ 0x20 ∷ 0x37 ∷ 0x30 ∷ 0x20 ∷ 0x34 ∷ 0x32 ∷ 0x30 ∷ 0x30 ∷ 0x0A ∷
    -- gauge 1 size 1 at 0 0
    0x67 ∷ 0x61 ∷ 0x75 ∷ 0x67 ∷ 0x65 ∷ 0x20 ∷ 0x31 ∷ 0x20 ∷ 0x73 ∷ 0x69 ∷ 0x7A ∷ 0x65 ∷ 0x20 ∷ 0x31 ∷ 0x20 ∷ 0x61 ∷ 0x74 ∷ 0x20 ∷ 0x30 ∷ 0x20 ∷ 0x30 ∷ 0x0A ∷
    -- gauge 2 size 1 at 40 0
    0x67 ∷ 0x61 ∷ 0x75 ∷ 0x67 ∷ 0x65 ∷ 0x20 ∷ 0x32 ∷ 0x20 ∷ 0x73 ∷ 0x69 ∷ 0x7A ∷ 0x65 ∷ 0x20 ∷ 0x31 ∷ 0x20 ∷ 0x61 ∷ 0x74 ∷ 0x20 ∷ 0x34 ∷ 0x30 ∷ 0x20 ∷ 0x30 ∷ 0x0A ∷ []

pub example_printed : faces_printed (face_of file) ≡ example
unfolding faces_printed gauge_shapes shapes merge smallest place no_taller index_of faces_text
example_printed = ap faces_printed example_face
