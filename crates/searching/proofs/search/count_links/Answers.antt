-- `searching::search::count_links` meets its contract.
-- The loop keeps `Counting`, that the links below n are on records in front.
use Rattle.std.proofs.Common.{refl, rules}
use Rattle.searching.proofs.Passing.{link_reach}
use Rattle.searching.proofs.CountLaws.{counting_start, counting_more, counting_stop, counting_all}
use Rattle.searching.proofs.search.count_links.Goals as goal

pub loop-n-init : goal.loop-n-init
loop-n-init c = counting_start _ _ _ c.requires.key_passes

pub may_pass-requires : goal.may_pass-requires
may_pass-requires c =
    let pre = c.requires.searchable in
    (link_reach _ _ _ pre.0.1 _ _ _ c.loop-n-test.true c.get-next.ensures refl, pre.1)

pub returns-then-not-may_pass : goal.returns-then-not-may_pass
returns-then-not-may_pass c =
    counting_stop _ _ _ _ c.loop-n.invariant c.loop-n-test.true _ _ c.get-next.ensures refl _ c.may_pass.ensures c.if-not-may_pass.true

pub loop-n-preserved : goal.loop-n-preserved
loop-n-preserved c =
    counting_more _ _ _ _ c.loop-n.invariant c.loop-n-test.true _ _ c.get-next.ensures refl _ c.may_pass.ensures c.if-not-may_pass.false

pub returns : goal.returns
returns c = counting_all _ _ _ _ c.loop-n.invariant (search rules)
