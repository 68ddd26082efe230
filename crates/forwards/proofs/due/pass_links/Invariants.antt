-- `forwards::due::pass_links` meets its contract.
-- The loop keeps `Passing`, that the record was due with its links from k up and that these are passed.
use Rattle.forwards.proofs.LinkLaws.{Passing}
use Rattle.forwards.proofs.due.pass_links.Given as goal

abbrev pub invariant-loop-k : goal.invariant-loop-k
invariant-loop-k l = Passing l.arena l.r l.initial.due l.initial.sums l.due l.sums l.k
