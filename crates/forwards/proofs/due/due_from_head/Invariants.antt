-- `forwards::due::due_from_head` meets its contract.
-- The loop keeps `Relinking`, that the head's forwards from link k up are in their places.
use Rattle.forwards.proofs.LinkLaws.{Relinking}
use Rattle.forwards.proofs.due.due_from_head.Given as goal

abbrev pub invariant-loop-k : goal.invariant-loop-k
invariant-loop-k l = Relinking l.arena 0 l.initial.due l.due l.k
