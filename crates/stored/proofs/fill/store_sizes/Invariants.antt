-- `stored::fill::store_sizes` meets its contract.
-- The loop keeps `Packing`, that the sizes of the digits taken off stand before the end; the measure is the word that is left.
use Rattle.stored.proofs.Packing.{Packing}
use Rattle.stored.proofs.fill.store_sizes.Given as goal

abbrev pub invariant-loop-left : goal.invariant-loop-left
invariant-loop-left l = Packing l.initial.scratch l.end l.bytes l.scratch l.at l.left

abbrev pub decreases-loop-left : goal.decreases-loop-left
decreases-loop-left l = l.left
