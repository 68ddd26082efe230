-- `turning::turn::turn_links` meets its contract.
-- The loop keeps `LinkTurning`, that the links from k up are put before the list and the sums from k up are renewed.
use Rattle.turning.proofs.LinkTurns.{LinkTurning}
use Rattle.turning.proofs.turn.turn_links.Given as goal

abbrev pub invariant-loop-k : goal.invariant-loop-k
invariant-loop-k l = LinkTurning l.initial.arena l.to l.r l.initial.sums l.arena l.sums l.k
