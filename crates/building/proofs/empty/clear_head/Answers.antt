-- `building::empty::clear_head` meets its contract.
-- The loop keeps `Clearing`, that the words of the head from 1 up to j are 0.
use borrow.Author.Rules.{rules}
use Rattle.building.proofs.ClearLaws.{clearing_start, clearing_more, clearing_done}
use Rattle.building.proofs.empty.clear_head.Goals as goal

pub loop-j-init : goal.loop-j-init
loop-j-init c = search (rules, clearing_start)

pub loop-j-preserved : goal.loop-j-preserved
loop-j-preserved c = search (rules, clearing_more)

pub returns : goal.returns
returns c = search (rules, clearing_done)
