-- `building::prepend::prepend` meets its contract.
-- The loop keeps `Prepending`, that the links from k up are hooked.
use borrow.Author.Rules.{rules}
use Rattle.building.proofs.HookLaws.{prepending_start, prepending_more, prepending_done}
use Rattle.building.proofs.prepend.prepend.Goals as goal

pub loop-k-init : goal.loop-k-init
loop-k-init c = search (rules, prepending_start)

pub loop-k-preserved : goal.loop-k-preserved
loop-k-preserved c = search (rules, prepending_more)

pub returns : goal.returns
returns c = search (rules, prepending_done)
