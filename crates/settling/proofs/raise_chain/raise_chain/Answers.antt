-- `settling::raise_chain::raise_chain` meets its contract: the stretch is raised by v at link k.
-- The loop keeps `Raising`, and its measure is the records with link k that are left.
use Rattle.std.proofs.Common.{arith, rules}
use Rattle.settling.proofs.Raising.{raising_start, raising_has, both_raised, raising_turn, raising_less, raising_done}
use Rattle.settling.proofs.raise_chain.raise_chain.Goals as goal

pub loop-cur-init : goal.loop-cur-init
loop-cur-init c = raising_start _ _ _ _ _

pub raise-requires : goal.raise-requires
raise-requires c =
    (raising_has _ _ _ _ _ _ _ c.requires.link_low c.loop-cur.invariant c.loop-cur-test.true c.requires.chained.0 c.requires.chained.1, search rules)

pub raise-requires-in-loop-cur : goal.raise-requires-in-loop-cur
raise-requires-in-loop-cur c =
    let has = raising_has _ _ _ _ _ _ _ c.requires.link_low c.loop-cur.invariant c.loop-cur-test.true c.requires.chained.0 c.requires.chained.1 in omega arith

pub get-cur-requires : goal.get-cur-requires
get-cur-requires c =
    let has = raising_has _ _ _ _ _ _ _ c.requires.link_low c.loop-cur.invariant c.loop-cur-test.true c.requires.chained.0 c.requires.chained.1 in omega arith

pub loop-cur-smaller : goal.loop-cur-smaller
loop-cur-smaller c =
    let has = raising_has _ _ _ _ _ _ _ c.requires.link_low c.loop-cur.invariant c.loop-cur-test.true c.requires.chained.0 c.requires.chained.1 in
    let raised = both_raised _ _ _ _ _ _ _ c.requires.link_low c.loop-cur.invariant c.loop-cur-test.true _ _ has c.raise.ensures c.raise-in-loop-cur.ensures in
    raising_less _ _ _ _ _ _ _ c.requires.link_low c.loop-cur.invariant c.loop-cur-test.true _ _ raised c.get-cur.ensures c.requires.chained.0 c.requires.chained.1

pub loop-cur-preserved : goal.loop-cur-preserved
loop-cur-preserved c =
    let has = raising_has _ _ _ _ _ _ _ c.requires.link_low c.loop-cur.invariant c.loop-cur-test.true c.requires.chained.0 c.requires.chained.1 in
    let raised = both_raised _ _ _ _ _ _ _ c.requires.link_low c.loop-cur.invariant c.loop-cur-test.true _ _ has c.raise.ensures c.raise-in-loop-cur.ensures in
    raising_turn _ _ _ _ _ _ _ c.requires.link_low c.loop-cur.invariant c.loop-cur-test.true _ _ raised c.get-cur.ensures

pub returns : goal.returns
returns c = search (rules, raising_done)
