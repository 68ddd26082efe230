-- `settling::raise_lowest::raise_lowest` meets its contract: the stretch is raised by v at link 0.
-- The loop keeps `Raising`, and its measure is the records that are left.
use Rattle.std.proofs.Common.{arith, rules}
use Rattle.settling.proofs.Raising.{raising_start, raising_has, p_raised, raising_turn, raising_less, raising_done}
use Rattle.settling.proofs.raise_lowest.raise_lowest.Goals as goal

pub loop-cur-init : goal.loop-cur-init
loop-cur-init c = raising_start _ _ _ _ _

pub raise-requires : goal.raise-requires
raise-requires c =
    (raising_has _ _ _ _ _ _ _ (omega arith) c.loop-cur.invariant c.loop-cur-test.true c.requires.0 c.requires.1, search rules)

pub get-cur-requires : goal.get-cur-requires
get-cur-requires c =
    let has = raising_has _ _ _ _ _ _ _ (omega arith) c.loop-cur.invariant c.loop-cur-test.true c.requires.0 c.requires.1 in
    omega arith

pub loop-cur-smaller : goal.loop-cur-smaller
loop-cur-smaller c =
    let has = raising_has _ _ _ _ _ _ _ (omega arith) c.loop-cur.invariant c.loop-cur-test.true c.requires.0 c.requires.1 in
    raising_less _ _ _ _ _ _ _ (omega arith) c.loop-cur.invariant c.loop-cur-test.true _ _ (p_raised _ _ _ _ has c.raise.ensures) c.get-cur.ensures c.requires.0 c.requires.1

pub loop-cur-preserved : goal.loop-cur-preserved
loop-cur-preserved c =
    let has = raising_has _ _ _ _ _ _ _ (omega arith) c.loop-cur.invariant c.loop-cur-test.true c.requires.0 c.requires.1 in
    raising_turn _ _ _ _ _ _ _ (omega arith) c.loop-cur.invariant c.loop-cur-test.true _ _ (p_raised _ _ _ _ has c.raise.ensures) c.get-cur.ensures

pub returns : goal.returns
returns c = search (rules, raising_done)
