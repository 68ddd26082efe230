-- `laying::lay::lay` ends: each part has fewer gauges than the whole, and the table has the number of gauges of a part.
use Prim.Native.Nat.{◌+◌, ◌*◌}
use lib.ListN.{get_or}
use Rattle.laying.proofs.lay.+lay.Given as goal

abbrev pub decreases-lay : goal.decreases-lay
decreases-lay l = get_or l.scratch.now (4 * l.part + 3) 0
