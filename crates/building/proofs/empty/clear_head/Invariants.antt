-- `building::empty::clear_head` meets its contract.
-- The loop keeps `Clearing`, that the words of the head from 1 up to j are 0.
use Rattle.building.proofs.ClearLaws.{Clearing}
use Rattle.building.proofs.empty.clear_head.Given as goal

abbrev pub invariant-loop-j : goal.invariant-loop-j
invariant-loop-j l = Clearing l.initial.arena l.head l.arena l.j
