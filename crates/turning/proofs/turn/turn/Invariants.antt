-- `turning::turn::turn` meets its contract.
-- The loop keeps `Turning`, that all records are turned if those left are; the measure is their number, counted along the first link.
use Rattle.arena.specs.Arena.{forward_at}
use Rattle.arena.specs.inside.Chain.{put}
use Rattle.arena.proofs.Walking.{count}
use Rattle.turning.proofs.TurnWalk.{Turning}
use Rattle.turning.proofs.turn.turn.Given as goal

abbrev pub invariant-loop-next : goal.invariant-loop-next
invariant-loop-next l = Turning l.initial.arena l.from l.to l.first l.arena l.last l.sums l.next

abbrev pub decreases-loop-next : goal.decreases-loop-next
decreases-loop-next l = count 512 (put l.arena l.to forward_at l.last) l.next
