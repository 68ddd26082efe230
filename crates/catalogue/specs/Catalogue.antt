-- Document 02, Paper 5, the catalogue call: its checks, what it answers, and what it leaves in the lent buffers.
use Rattle.std.specs.Prelude.{◌≡◌, List, ℕ, length}
use Rattle.checks.specs.Limits.{buffer_words}
use Rattle.checks.specs.Answer.{Answer, Asked, also, number, outcome}
use Rattle.slicing.specs.Tree.{Tree, size_count}
use Rattle.slicing.specs.Shapes.{shapes}
use Rattle.lent.specs.Lent.{Lent, written_over}
use Rattle.lent.specs.Questions.{levels_lent, rib_given, buffers_lent, output_lent}
use Rattle.lent.specs.Call.{call_on, FreeAfter}
use Rattle.shapes.specs.Listing.{ListArena}
use Rattle.walking.specs.Widths.{widths_for}
use Rattle.walking.specs.Walk.{walked}
use Rattle.catalogue.specs.declared.Catalogued.{Catalogued}
use Rattle.catalogue.specs.Heights.{heights_given}

-- Of a face of n sizes, with buffers of so many words: "Other checks ... are the list call's", so 14, 15, 22 and 17; "23 ... after 17; then 18 for fewer words than heights".
unfoldable pub width_asks : ℕ → List ℕ → ℕ → List ℕ → (arena scratch output : ℕ) → Asked
width_asks n levels rib heights arena scratch output =
    also (levels_lent n levels)
    (also (rib_given rib)
    (also (buffers_lent buffer_words arena scratch) (also (heights_given heights) (output_lent (length heights) output))))

-- The catalogue call makes checks 1 to 15, 22, 17, 23 and 18. What is taken is the face.
unfoldable pub width_call : Answer Tree → List ℕ → ℕ → List ℕ → Lent → Answer Tree
width_call face levels rib heights old =
    call_on face
    (λ t. width_asks (size_count t) levels rib heights (length old.arena) (length old.scratch) (length old.output))

-- "The answer carries the number of looks, which must be the walk's own", 0 where the call is not taken.
abbrev pub catalogued : Answer Tree → ℕ → List ℕ → Catalogued
catalogued r rib heights =
    record { number = number r; looks = outcome r 0 (λ t. (walked (shapes rib t) heights).looks) }

-- The least width for each height from the output's start, "and words after the widths stay".
abbrev pub width_output : Answer Tree → ℕ → List ℕ → List ℕ → List ℕ
width_output r rib heights old = outcome r old (λ t. written_over (widths_for (shapes rib t) heights) old)

-- What the call leaves, by the answer of its checks. "the arena" is "the list call's".
pub record WidthLeaves (r : Answer Tree) (levels : List ℕ) (rib : ℕ) (heights : List ℕ) (old : Lent) (answer : Catalogued) (new : Lent) : Type 0 where
  pub answered : answer ≡ catalogued r rib heights
  pub output : new.output ≡ width_output r rib heights old.output
  pub arena : ListArena r levels rib old.arena new.arena
  pub scratch : FreeAfter r old.scratch new.scratch

-- The promise of the catalogue call, of the face that its file means.
abbrev pub WidthPromise : Answer Tree → List ℕ → ℕ → List ℕ → Lent → Catalogued → Lent → Type 0
WidthPromise face levels rib heights old answer new =
    WidthLeaves (width_call face levels rib heights old) levels rib heights old answer new
