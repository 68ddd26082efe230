-- `arena::sums::enter` meets its contract.
-- The loop keeps `Entering`, that the sums from k up are those of the head.
use Rattle.arena.proofs.Summing.{Entering}
use Rattle.arena.proofs.sums.enter.Given as goal

abbrev pub invariant-loop-k : goal.invariant-loop-k
invariant-loop-k l = Entering l.arena l.head l.sums l.k
