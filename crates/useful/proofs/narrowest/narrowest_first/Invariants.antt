-- `useful::narrowest::narrowest_first` meets its contract: the word of the gauge's list.
-- The loop keeps `SoFar`, the word of the items that are not lower than the height; the measure is the height, which falls.
use Rattle.sizes.specs.inside.Sizes.{sizes_in}
use Rattle.useful.proofs.ListSoFar.{SoFar}
use Rattle.useful.proofs.narrowest.narrowest_first.Given as goal

abbrev pub invariant-loop-k : goal.invariant-loop-k
invariant-loop-k l = SoFar (sizes_in l.count l.sizes) l.word l.height

abbrev pub decreases-loop-k : goal.decreases-loop-k
decreases-loop-k l = l.height
