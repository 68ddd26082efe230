-- `materiallines::areas::total_area` meets its contract.
-- The loop keeps `AreasDue`, that the areas of the gauges left complete the sum of all.
use Rattle.materiallines.proofs.AreaSums.{AreasDue}
use Rattle.materiallines.proofs.areas.total_area.Given as goal

abbrev pub invariant-loop-words : goal.invariant-loop-words
invariant-loop-words l =
    (goal.iterator-loop-words).can_next l.words-iterator × (goal.iterator-loop-words).is_finite l.words-iterator
    × AreasDue l.layout l.words-iterator l.used
