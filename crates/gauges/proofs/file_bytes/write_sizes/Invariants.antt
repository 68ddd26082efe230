-- `gauges::file_bytes::write_sizes` meets its contract.
-- The loop keeps `SizesDue`, that the fields of the sizes left complete those of all.
use Rattle.gauges.proofs.FileBytes.{SizesDue}
use Rattle.gauges.proofs.file_bytes.write_sizes.Given as goal

abbrev pub invariant-loop-size : goal.invariant-loop-size
invariant-loop-size l =
    (goal.iterator-loop-size).can_next l.size-iterator × (goal.iterator-loop-size).is_finite l.size-iterator
    × SizesDue l.initial.page l.sizes l.size-iterator l.page
