-- Document 02, Paper 7, the sheet call: its checks, what it answers, and what it leaves in the output.
use Rattle.std.specs.Prelude.{Result, Ok, Err, List, ℕ, length}
use Rattle.checks.specs.Check.{number_of}
use Rattle.checks.specs.declared.Check.{Check}
use Rattle.checks.specs.declared.Check.TheVariants.{Fits}
use Rattle.checks.specs.Answer.{Answer, refused, taken}
use Rattle.slicing.specs.Tree.{Tree, gauge_count, size_count}
use Rattle.slicing.specs.Shapes.{shapes}
use Rattle.slicing.specs.Layout.{Layout, Outline}
use Rattle.slicing.specs.Fit.{Pick, nothing, picked, smallest, place}
use Rattle.lent.specs.Lent.{Lent, written_over}
use Rattle.lent.specs.Call.{call_on}
use Rattle.fit.specs.Fitting.{fit_asks}
use Rattle.covering.specs.Covered.{sizes_in, blank, face_area}
use Rattle.materiallines.specs.Lines.{sheet_text, sheet_bytes}
use Rattle.materialsheet.specs.declared.Printed.{Printed}

-- The sheet of a layout.
unfoldable pub sheet_of : (t : Tree) → Layout t → List ℕ
unfolding sheet_text blank
sheet_of t l = sheet_text (sizes_in t l) (blank t l) (face_area t l)

-- "The sheet's ... other checks ... are the fit's": 1 to 18, and 22, with its own room in 18. What they take is the face.
unfoldable pub sheet_checks : Answer Tree → List ℕ → ℕ → Outline → Lent → Answer Tree
sheet_checks face levels rib o old =
    call_on face
    (λ t. fit_asks (size_count t) (sheet_bytes (gauge_count t)) levels rib o (length old.arena) (length old.scratch) (length old.output))

-- A refusal: the number, and no text.
abbrev pub no_sheet : ℕ → Printed
no_sheet n = record { number = n; length = 0 }

-- A sheet that is printed is answered with the number 0 and its length, a check that fails with its number alone.
abbrev pub printed_as : Result ℕ Check → Printed
printed_as (Ok n) = record { number = 0; length = n }
printed_as (Err c) = no_sheet (number_of c)

-- "Does a layout fit? 19." "The sheet's layout ... [is] the fit's, and the length of the text is returned."
abbrev pub sheet_found : ℕ → Tree → Pick → Printed
sheet_found rib t nothing = no_sheet (number_of Fits)
sheet_found rib t (picked z) = record { number = 0; length = length (sheet_of t (place rib t z 0 0)) }

-- "The sheet is bytes in a lent output"; "bytes after the text stay". 19 leaves the output.
abbrev pub sheet_written : ℕ → Tree → Pick → List ℕ → List ℕ
sheet_written rib t nothing old = old
sheet_written rib t (picked z) old = written_over (sheet_of t (place rib t z 0 0)) old

-- What it answers, and what it leaves in the output, by the answer of checks 1 to 18 and 22.
abbrev pub printed : Answer Tree → ℕ → Outline → Printed
printed (refused c) rib o = no_sheet (number_of c)
printed (taken t) rib o = sheet_found rib t (smallest o (shapes rib t))

abbrev pub sheet_output : Answer Tree → ℕ → Outline → List ℕ → List ℕ
sheet_output (refused c) rib o old = old
sheet_output (taken t) rib o old = sheet_written rib t (smallest o (shapes rib t)) old
