-- `materiallines::lines::write_gauges` meets its contract.
-- The loop keeps `GaugesDue`, that the lines of the gauges left complete the lines of all.
use Rattle.materiallines.proofs.GaugeLines.{GaugesDue}
use Rattle.materiallines.proofs.lines.write_gauges.Given as goal

abbrev pub invariant-loop-number : goal.invariant-loop-number
invariant-loop-number l =
    (goal.iterator-loop-number).can_next l.number-iterator × (goal.iterator-loop-number).is_finite l.number-iterator
    × GaugesDue l.initial.page l.layout l.number-iterator.b l.number-iterator.a.start l.page
