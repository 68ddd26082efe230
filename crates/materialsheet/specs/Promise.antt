-- The promise of the sheet call: its answer, and what it leaves in the lent buffers.
use Rattle.std.specs.Prelude.{◌≡◌, List, ℕ}
use Rattle.checks.specs.Answer.{Answer}
use Rattle.slicing.specs.Tree.{Tree}
use Rattle.slicing.specs.Layout.{Outline}
use Rattle.lent.specs.Lent.{Lent}
use Rattle.lent.specs.Call.{FreeAfter}
use Rattle.shapes.specs.Listing.{ListArena}
use Rattle.materialsheet.specs.declared.Printed.{Printed}
use Rattle.materialsheet.specs.Sheet.{sheet_checks, printed, sheet_output}

-- What the call leaves, by the answer r of checks 1 to 18 and 22. "its arena" is "the fit's": as after a list call, also at 19.
pub record SheetLeaves (r : Answer Tree) (levels : List ℕ) (rib : ℕ) (o : Outline) (old : Lent) (answer : Printed) (new : Lent) : Type 0 where
  pub answered : answer ≡ printed r rib o
  pub output : new.output ≡ sheet_output r rib o old.output
  pub arena : ListArena r levels rib old.arena new.arena
  pub scratch : FreeAfter r old.scratch new.scratch

-- Of the face that its file means.
abbrev pub SheetPromise : Answer Tree → List ℕ → ℕ → Outline → Lent → Printed → Lent → Type 0
SheetPromise face levels rib o old answer new =
    SheetLeaves (sheet_checks face levels rib o old) levels rib o old answer new
