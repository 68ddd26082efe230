-- `turning::turn::turn_links` meets its contract.
-- The loop keeps `LinkTurning`, that the links from k up are put before the list and the sums from k up are renewed.
use Rattle.std.proofs.Common.{refl, rules}
use Rattle.turning.proofs.LinkTurns.{links_start, links_more, links_done}
use Rattle.turning.proofs.turn.turn_links.Goals as goal

pub loop-k-init : goal.loop-k-init
loop-k-init c = search (rules, links_start)

pub loop-k-preserved : goal.loop-k-preserved
loop-k-preserved c =
    links_more _ _ _ _ c.requires _ _ _ c.loop-k.invariant c.loop-k-test.true _ _ _ _ refl c.get.ensures refl c.hook.ensures

pub returns : goal.returns
returns c =
    let both = links_done _ _ _ _ c.requires _ _ _ c.loop-k.invariant c.loop-k-test.false in record { hooked = both.0; renewed = both.1 }
