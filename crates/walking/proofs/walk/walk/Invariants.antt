-- `walking::walk::walk` meets its contract.
-- The loop keeps `Walking`, that the heights left, walked from the present item on, give with what is so far the whole walk.
use Rattle.walking.proofs.Walking.{Walking}
use Rattle.walking.proofs.walk.walk.Given as goal

abbrev pub invariant-loop-i : goal.invariant-loop-i
invariant-loop-i l = Walking l.list l.items l.heights l.initial.output l.output l.item l.looks l.i
