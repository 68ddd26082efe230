-- `laying::take::first_no_larger` meets its contract.
-- The loop keeps `Searching`, that the item looked for stands from the low place to the high one; the measure is how far they are apart.
use Prim.Native.Nat.{◌-◌}
use Rattle.laying.proofs.Searching.{Searching}
use Rattle.laying.proofs.take.first_no_larger.Given as goal

abbrev pub invariant-loop-low : goal.invariant-loop-low
invariant-loop-low l = Searching l.scratch l.list l.limit l.low l.high

abbrev pub decreases-loop-low : goal.decreases-loop-low
decreases-loop-low l = l.high - l.low
