-- `depths::depths_of` meets its contract.
-- The loop keeps `Measured`, that the array holds the depths of the parts on the stack.
use Rattle.facefile.specs.inside.Entries.Gives.{rest_of}
use Rattle.depths.proofs.DepthStack.{Measured}
use Rattle.depths.proofs.depths_of.Given as goal

abbrev pub invariant-loop-entry : goal.invariant-loop-entry
invariant-loop-entry l = Measured l.file l.stack (rest_of l.entry-iterator) l.parts
