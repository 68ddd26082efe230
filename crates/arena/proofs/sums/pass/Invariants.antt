-- `arena::sums::pass` meets its contract.
-- The loop keeps `Renewing`, that the sums from k up are those after the record.
use Rattle.arena.specs.Arena.{level, adjust}
use Rattle.arena.proofs.Summing.{Renewing}
use Rattle.arena.proofs.sums.pass.Given as goal

abbrev pub invariant-loop-k : goal.invariant-loop-k
invariant-loop-k l = Renewing (adjust l.arena l.r) (level l.arena l.r) l.initial.sums l.sums l.k
