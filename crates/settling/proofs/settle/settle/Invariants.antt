-- `settling::settle::settle` meets its contract: the front is settled.
-- The loop keeps `Settling`, and the turn at link 0 behind it ends it.
use Rattle.settling.proofs.Settling.{Settling}
use Rattle.settling.proofs.settle.settle.Given as goal

abbrev pub invariant-loop-k : goal.invariant-loop-k
invariant-loop-k l =
    Settling l.initial.arena l.arena l.head l.cut.links l.k l.stop l.q l.cut.lasts l.sums l.ends.sums
