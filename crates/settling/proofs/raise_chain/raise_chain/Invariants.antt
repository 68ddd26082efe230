-- `settling::raise_chain::raise_chain` meets its contract: the stretch is raised by v at link k.
-- The loop keeps `Raising`, and its measure is the records with link k that are left.
use Rattle.settling.proofs.Raising.{Raising, count_to}
use Rattle.settling.proofs.raise_chain.raise_chain.Given as goal

abbrev pub invariant-loop-cur : goal.invariant-loop-cur
invariant-loop-cur l = Raising l.initial.arena l.arena l.k l.v l.first l.stop l.cur

abbrev pub decreases-loop-cur : goal.decreases-loop-cur
decreases-loop-cur l = count_to 512 l.arena l.k l.stop l.cur
