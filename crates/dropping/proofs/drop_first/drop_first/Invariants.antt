-- `dropping::drop_first::drop_first` meets its contract: the list of the head is then the rest, with the same true p.
-- The loop keeps `Handing`, that the links below k are handed over.
use Rattle.dropping.proofs.DropLaws.{Handing}
use Rattle.dropping.proofs.drop_first.drop_first.Given as goal

abbrev pub invariant-loop-k : goal.invariant-loop-k
invariant-loop-k l = Handing l.initial.arena l.arena l.head l.r l.level l.k
