-- `walking::walk::pass_taller` meets its contract.
-- The loop keeps `Passed`, that the items passed are all taller and that each was one look; the measure is the number of the words after the place.
use Prim.Native.Nat.{◌-◌}
use lib.ListN.{length}
use Rattle.walking.specs.inside.Walking.{Passed}
use Rattle.walking.proofs.walk.pass_taller.Given as goal

abbrev pub invariant-loop-item : goal.invariant-loop-item
invariant-loop-item l = Passed l.list l.from l.height l.before l.item l.looks

abbrev pub decreases-loop-item : goal.decreases-loop-item
decreases-loop-item l = length l.list - l.item
