-- The promise of the fit call: its answer, what it leaves in the lent buffers, and demand 3.
use Rattle.std.specs.Prelude.{◌≡◌, List, ℕ}
use Rattle.checks.specs.Answer.{Answer}
use Rattle.slicing.specs.Tree.{Tree}
use Rattle.slicing.specs.Layout.{Outline}
use Rattle.lent.specs.Lent.{Lent}
use Rattle.lent.specs.Call.{FreeAfter}
use Rattle.shapes.specs.Listing.{ListArena}
use Rattle.placing.specs.declared.Fitted.{Fitted}
use Rattle.fit.specs.Fitting.{fit_checks, fitted, fit_output}
use Rattle.fit.specs.Demand3.{Demand3}

-- What the call leaves, by the answer r of checks 1 to 18 and 22. The arena and the scratch are as after a list call: "19 leaves the output, and the arena as on success."
pub record FitLeaves (r : Answer Tree) (levels : List ℕ) (rib : ℕ) (o : Outline) (old : Lent) (answer : Fitted) (new : Lent) : Type 0 where
  pub answered : answer ≡ fitted r rib o
  pub output : new.output ≡ fit_output r rib o old.output
  pub arena : ListArena r levels rib old.arena new.arena
  pub scratch : FreeAfter r old.scratch new.scratch
  pub demand_3 : Demand3 r rib o answer old.output new.output

-- Of the face that its file means.
abbrev pub FitPromise : Answer Tree → List ℕ → ℕ → Outline → Lent → Fitted → Lent → Type 0
FitPromise face levels rib o old answer new = FitLeaves (fit_checks face levels rib o old) levels rib o old answer new
