-- `packed::stretch::Stretch::read` meets its contract.
-- Each way out is one answer of the test.
use mathlib.Core.Path.{refl}
use Rattle.packed.proofs.Places.{either_along, either_turned}
use Rattle.packed.proofs.stretch.Stretch.read.Goals as goal

pub returns-then-self : goal.returns-then-self
returns-then-self c =
    let both = either_turned _ _ _ _ c.if-self.true c.swapped.ensures in record { along = both.0; turned = both.1 }

pub returns-else-self : goal.returns-else-self
returns-else-self c =
    let both = either_along _ _ _ _ c.if-self.false refl in record { along = both.0; turned = both.1 }
