-- `packed::stretch::Stretch::end` meets its contract.
-- After as many items as there are, the place is past the stretch, or before it where the list is read turned.
use native.Mathlib.Omega.{arith}
use Rattle.packed.proofs.Places.{at_along, at_turned}
use Rattle.packed.proofs.stretch.Stretch.end.Goals as goal

pub returns-then-self : goal.returns-then-self
returns-then-self c = let first = c.requires.after_first in at_turned _ _ _ c.if-self.true (omega arith)

pub returns-else-self : goal.returns-else-self
returns-else-self c = at_along _ _ _ c.if-self.false (omega arith)
