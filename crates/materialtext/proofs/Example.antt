-- For document 01's file of 28 bytes `material` prints the sheet of its best face, 60 by 70: 2,400 and 1,500 are used and 300 of 4,200 unit squares are blank.
-- The checker computes the face, its layout, the areas and the blank squares, one by one, and the text from these.
use mathlib.Core.Path.{◌≡◌, ap}
use mathlib.Core.List.{List, [], ◌∷◌}
use Prim.Native.Nat.{ℕ}
use Rattle.slicing.specs.Useful.{index_of, gauge_shapes}
use Rattle.slicing.specs.Merge.{merge}
use Rattle.slicing.specs.Shapes.{shapes}
use Rattle.slicing.specs.Fit.{smallest, no_taller, place}
use Rattle.facefile.specs.Format.{face_of}
use Rattle.facefile.proofs.Example.{example as file, example_face}
use Rattle.covering.specs.Covered.{total}
use Rattle.materialsheet.specs.Sheet.{sheet_of}
use Rattle.materialtext.specs.Material.{material_printed}

abbrev pub example : List ℕ
example =
    -- 1 40 60 2400
    0x31 ∷ 0x20 ∷ 0x34 ∷ 0x30 ∷ 0x20 ∷ 0x36 ∷ 0x30 ∷ 0x20 ∷ 0x32 ∷ 0x34 ∷ 0x30 ∷ 0x30 ∷ 0x0A ∷
    -- 2 30 50 1500
    0x32 ∷ 0x20 ∷ 0x33 ∷ 0x30 ∷ 0x20 ∷ 0x35 ∷ 0x30 ∷ 0x20 ∷ 0x31 ∷ 0x35 ∷ 0x30 ∷ 0x30 ∷ 0x0A ∷
    -- used 3900
    0x75 ∷ 0x73 ∷ 0x65 ∷ 0x64 ∷ 0x20 ∷ 0x33 ∷ 0x39 ∷ 0x30 ∷ 0x30 ∷ 0x0A ∷
    -- blank 300
    0x62 ∷ 0x6C ∷ 0x61 ∷ 0x6E ∷ 0x6B ∷ 0x20 ∷ 0x33 ∷ 0x30 ∷ 0x30 ∷ 0x0A ∷
    -- face 4200
    0x66 ∷ 0x61 ∷ 0x63 ∷ 0x65 ∷ 0x20 ∷ 0x34 ∷ 0x32 ∷ 0x30 ∷ 0x30 ∷ 0x0A ∷ []

pub example_printed : material_printed (face_of file) ≡ example
unfolding material_printed gauge_shapes shapes merge smallest place no_taller index_of total sheet_of
example_printed = ap material_printed example_face
