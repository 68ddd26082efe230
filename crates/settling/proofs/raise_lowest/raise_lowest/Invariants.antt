-- `settling::raise_lowest::raise_lowest` meets its contract: the stretch is raised by v at link 0.
-- The loop keeps `Raising`, and its measure is the records that are left.
use Rattle.settling.proofs.Raising.{Raising, count_to}
use Rattle.settling.proofs.raise_lowest.raise_lowest.Given as goal

abbrev pub invariant-loop-cur : goal.invariant-loop-cur
invariant-loop-cur l = Raising l.initial.arena l.arena 0 l.v l.first l.stop l.cur

abbrev pub decreases-loop-cur : goal.decreases-loop-cur
decreases-loop-cur l = count_to 512 l.arena 0 l.stop l.cur
