-- `writing::write::write_by_height` meets its contract.
-- The loop keeps `Heights`, that the items left, written from the place reached, give what all give from the start; the measure is the number of the records left, counted along the first link.
use Rattle.arena.proofs.Walking.{count}
use Rattle.writing.proofs.Heights.{Heights}
use Rattle.writing.proofs.write.write_by_height.Given as goal

abbrev pub invariant-loop-next : goal.invariant-loop-next
invariant-loop-next l = Heights l.arena l.head l.initial.output l.output l.sums l.next l.at

abbrev pub decreases-loop-next : goal.decreases-loop-next
decreases-loop-next l = count 512 l.arena l.next
