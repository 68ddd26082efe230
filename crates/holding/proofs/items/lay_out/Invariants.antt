-- `holding::items::lay_out` meets its contract.
-- The loop keeps `Walking`; the measure is the records that the walk may still meet.
use Prim.Native.Nat.{◌-◌}
use Rattle.holding.proofs.ReadingWalk.{newest, Walking}
use Rattle.holding.proofs.items.lay_out.Given as goal

abbrev pub invariant-loop-next : goal.invariant-loop-next
invariant-loop-next l = Walking l.arena l.items l.due l.sums l.next l.last l.count (newest l.items l.count)

abbrev pub decreases-loop-next : goal.decreases-loop-next
decreases-loop-next l = 512 - l.count
