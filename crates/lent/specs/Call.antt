-- A call on a face: what it asks, and what it leaves of a buffer whose contents are free after it.
use Rattle.std.specs.Prelude.{◌≡◌, List, ℕ}
use Rattle.checks.specs.Answer.{Answer, refused, taken, next, Asked, also}
use Rattle.slicing.specs.Tree.{Tree}

-- The checks of the file, and then those of what is given and lent with it, which may hang on the face. What is taken is the face.
abbrev pub call_on : Answer Tree → (Tree → Asked) → Answer Tree
call_on face asks = next face (λ t. also (asks t) (taken t))

-- "Scratch contents are free after success": as they were where the call is refused, and else free.
abbrev pub FreeAfter : Answer Tree → (old new : List ℕ) → Type 0
FreeAfter (refused c) old new = new ≡ old
FreeAfter (taken t) old new = Unit {0}
