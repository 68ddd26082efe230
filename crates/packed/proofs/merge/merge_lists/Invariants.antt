-- `packed::merge::merge_lists` meets its contract.
-- The loop keeps `Holding`: what is written, followed by the merge of what is left, is the whole merge, both places are those of the first items left, and x and y are their words, y with the rib in its p. The measure is the items left of both lists.
use Prim.Native.Nat.{◌+◌}
use Rattle.packed.proofs.Places.{left}
use Rattle.packed.proofs.HeldWords.{Holding}
use Rattle.packed.proofs.merge.merge_lists.Given as goal

abbrev pub invariant-loop-scratch : goal.invariant-loop-scratch
invariant-loop-scratch l = Holding l.rib l.initial.scratch l.a l.b l.to l.end l.stop l.scratch l.i l.j l.x l.y l.at

abbrev pub decreases-loop-scratch : goal.decreases-loop-scratch
decreases-loop-scratch l = left l.a l.i + left l.b l.j
