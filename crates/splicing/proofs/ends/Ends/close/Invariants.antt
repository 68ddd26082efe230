-- `splicing::ends::Ends::close` meets its contract: the open list is closed.
-- The loop keeps `Closing`, that the links below the present one are closed.
use Rattle.splicing.proofs.Closing.{Closing}
use Rattle.splicing.proofs.ends.Ends.close.Given as goal

abbrev pub invariant-loop-k : goal.invariant-loop-k
invariant-loop-k l = Closing l.initial.arena l.arena l.self.lasts l.k
