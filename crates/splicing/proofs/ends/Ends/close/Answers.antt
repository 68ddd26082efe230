-- `splicing::ends::Ends::close` meets its contract: the open list is closed.
-- The loop keeps `Closing`, that the links below the present one are closed.
use Rattle.std.proofs.Common.{rules}
use Rattle.splicing.proofs.Closing.{closing_start, closing_has, closing_turn, closing_done}
use Rattle.splicing.proofs.ends.Ends.close.Goals as goal

pub loop-k-init : goal.loop-k-init
loop-k-init c = search (rules, closing_start)

pub store-requires : goal.store-requires
store-requires c = search (rules, closing_has)

pub loop-k-preserved : goal.loop-k-preserved
loop-k-preserved c = search (rules, closing_turn)

pub returns : goal.returns
returns c = search (rules, closing_done)
