-- `arena::sums::enter` meets its contract.
-- The loop keeps `Entering`, that the sums from k up are those of the head.
use Rattle.std.proofs.Common.{rules}
use Rattle.arena.proofs.Summing.{entering_start, entering_more, entering_done}
use Rattle.arena.proofs.sums.enter.Goals as goal

pub loop-k-init : goal.loop-k-init
loop-k-init c = search (rules, entering_start)

pub loop-k-preserved : goal.loop-k-preserved
loop-k-preserved c = search (rules, entering_more)

pub returns : goal.returns
returns c = search (rules, entering_done)
