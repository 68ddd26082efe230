-- Document 01's fit call, with document 02's rib: its checks, what it answers, and what it leaves in the lent buffers.
use Rattle.std.specs.Prelude.{List, ℕ, ◌*◌, length}
use Rattle.checks.specs.Check.{number_of}
use Rattle.checks.specs.Limits.{buffer_words}
use Rattle.checks.specs.Answer.{Answer, refused, taken, Asked, also}
use Rattle.slicing.specs.Tree.{Tree, gauge_count, size_count}
use Rattle.slicing.specs.Shapes.{shapes}
use Rattle.slicing.specs.Layout.{Outline}
use Rattle.slicing.specs.Fit.{smallest}
use Rattle.lent.specs.Lent.{Lent}
use Rattle.lent.specs.Questions.{levels_lent, rib_given, opening_given, buffers_lent, output_lent}
use Rattle.lent.specs.Call.{call_on}
use Rattle.placing.specs.declared.Fitted.{Fitted}
use Rattle.placing.specs.Found.{no_face, face_found, face_words}

-- Of a face of n sizes, with an output that is to be so long and buffers of so many words: "As many levels as sizes? 14. Each level 1 to 8? 15." "22 when the rib is above 20, right after 15". "Opening height and width both 1 to" the limit? 16. "Arena and scratch, each 16,384 32-bit words or more? 17. Output long enough? 18."
unfoldable pub fit_asks : ℕ → ℕ → List ℕ → ℕ → Outline → (arena scratch output : ℕ) → Asked
fit_asks n room levels rib o arena scratch output =
    also (levels_lent n levels)
    (also (rib_given rib)
    (also (opening_given o) (also (buffers_lent buffer_words arena scratch) (output_lent room output))))

-- The fit call makes checks 1 to 18, and 22: "the fit call 5g". What they take is the face.
unfoldable pub fit_checks : Answer Tree → List ℕ → ℕ → Outline → Lent → Answer Tree
fit_checks face levels rib o old =
    call_on face
    (λ t. fit_asks (size_count t) (5 * gauge_count t) levels rib o (length old.arena) (length old.scratch) (length old.output))

-- What it answers: the number of the check that fails, or the face that is found.
abbrev pub fitted : Answer Tree → ℕ → Outline → Fitted
fitted (refused c) rib o = no_face (number_of c)
fitted (taken t) rib o = face_found rib t (smallest o (shapes rib t))

-- What it leaves in the output.
abbrev pub fit_output : Answer Tree → ℕ → Outline → List ℕ → List ℕ
fit_output (refused c) rib o old = old
fit_output (taken t) rib o old = face_words rib t (smallest o (shapes rib t)) old
