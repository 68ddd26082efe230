-- What the program `material` prints for a file's bytes: it reads and fits as document 01's `faces` does, "a file from standard input", "to 64,000 by 64,000" with rib 0, and prints the material sheet, "or one line such as `refused 4`". And what the function that makes that text leaves.
use Rattle.std.specs.Prelude.{List, ℕ}
use Rattle.text.specs.Printing.{PrintedWithin}
use Rattle.checks.specs.Check.{number_of}
use Rattle.checks.specs.declared.Check.TheVariants.{Fits}
use Rattle.checks.specs.Limits.{most_gauges}
use Rattle.checks.specs.Answer.{Answer, refused, taken}
use Rattle.slicing.specs.Tree.{Tree}
use Rattle.slicing.specs.Shapes.{shapes}
use Rattle.slicing.specs.Fit.{Pick, nothing, picked, smallest, place}
use Rattle.rendering.specs.Text.{refused_text}
use Rattle.report.specs.Faces.{widest}
use Rattle.materiallines.specs.Lines.{sheet_bytes}
use Rattle.materialsheet.specs.Sheet.{sheet_of}

-- Room for the sheet of every face, of at most 64 gauges. It is 2,112.
abbrev pub material_bytes : ℕ
material_bytes = sheet_bytes most_gauges

-- The text of a face by what is picked of it. (Something is always picked, by `sheet_is_printed` of proofs/Whole.antt.)
abbrev pub sheet_printed : Tree → Pick → List ℕ
sheet_printed t nothing = refused_text (number_of Fits)
sheet_printed t (picked z) = sheet_of t (place 0 t z 0 0)

-- What `material` prints for a file, by the face that it means.
unfoldable pub material_printed : Answer Tree → List ℕ
material_printed (refused c) = refused_text (number_of c)
material_printed (taken t) = sheet_printed t (smallest widest (shapes 0 t))

-- The text of the file stands in a buffer with room for every text, and the answer is its length. A shorter buffer is as it was, and the answer is 0.
abbrev pub MaterialText : Answer Tree → (old new : List ℕ) (r : ℕ) → Type 0
MaterialText face old new r = PrintedWithin material_bytes (material_printed face) old new r
