-- `splicing::relink::relink` meets its contract: the front is moved behind the open list, and the sums kept are renewed.
-- The loop keeps `Relinking`.
use Rattle.splicing.proofs.Relinking.{Relinking}
use Rattle.splicing.proofs.relink.relink.Given as goal

abbrev pub invariant-loop-k : goal.invariant-loop-k
invariant-loop-k l =
    Relinking l.initial.arena l.arena l.head l.cut l.initial.ends l.ends l.initial.sums l.sums l.k
