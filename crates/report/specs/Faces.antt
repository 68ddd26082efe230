-- Document 01: "A program `faces` reads a file from standard input, fits it to 64,000 by 64,000 and prints as below, or one line such as `refused 4`." What it prints for a file's bytes, and what the function that makes that text leaves.
use Rattle.std.specs.Prelude.{List, ℕ}
use Rattle.text.specs.Printing.{PrintedWithin}
use Rattle.checks.specs.Check.{number_of}
use Rattle.checks.specs.declared.Check.TheVariants.{Fits}
use Rattle.checks.specs.Answer.{Answer, refused, taken}
use Rattle.slicing.specs.Tree.{Tree}
use Rattle.slicing.specs.Shapes.{shapes}
use Rattle.slicing.specs.Layout.{Outline, outline}
use Rattle.slicing.specs.Fit.{Pick, nothing, picked, smallest, place, words}
use Rattle.rendering.specs.Text.{faces_text, refused_text}
use Rattle.rendering.specs.Room.{text_bytes}

-- The opening, 64,000 by 64,000. Document 02: "The program `faces` has rib 0."
abbrev pub widest : Outline
widest = outline 64_000 64_000

-- The text of a face by what is picked of it: the item list, the item, and its layout. (Something is always picked, by `something_fits` of proofs/Widest.antt.)
abbrev pub pick_printed : Tree → Pick → List ℕ
pick_printed t nothing = refused_text (number_of Fits)
pick_printed t (picked z) = faces_text (shapes 0 t) z (words t (place 0 t z 0 0))

-- What `faces` prints for a file, by the face that it means.
unfoldable pub faces_printed : Answer Tree → List ℕ
faces_printed (refused c) = refused_text (number_of c)
faces_printed (taken t) = pick_printed t (smallest widest (shapes 0 t))

-- The text of the file stands in a buffer with room for every text, and the answer is its length. A shorter buffer is as it was, and the answer is 0.
abbrev pub FacesText : Answer Tree → (old new : List ℕ) (r : ℕ) → Type 0
FacesText face old new r = PrintedWithin text_bytes (faces_printed face) old new r
