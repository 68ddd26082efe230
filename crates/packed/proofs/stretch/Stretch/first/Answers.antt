-- `packed::stretch::Stretch::first` meets its contract.
-- The place of item 0 is the stretch's start, or its last place where the list is read turned.
use native.Mathlib.Omega.{arith}
use Rattle.packed.proofs.Places.{at_along, at_turned}
use Rattle.packed.proofs.stretch.Stretch.first.Goals as goal

pub returns-then-self : goal.returns-then-self
returns-then-self c = let first = c.requires.after_first in at_turned _ _ _ c.if-self.true (omega arith)

pub returns-else-self : goal.returns-else-self
returns-else-self c = at_along _ _ _ c.if-self.false (omega arith)
