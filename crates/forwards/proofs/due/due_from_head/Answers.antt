-- `forwards::due::due_from_head` meets its contract.
-- The loop keeps `Relinking`, that the head's forwards from link k up are in their places.
use Rattle.std.proofs.Common.{rules}
use Rattle.forwards.proofs.LinkLaws.{relinking_start, relinking_more, relinking_done}
use Rattle.forwards.proofs.due.due_from_head.Goals as goal

pub loop-k-init : goal.loop-k-init
loop-k-init c = search (rules, relinking_start)

pub loop-k-preserved : goal.loop-k-preserved
loop-k-preserved c = search (rules, relinking_more)

pub returns : goal.returns
returns c = search (rules, relinking_done)
