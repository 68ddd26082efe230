-- `turning::turn::turn` meets its contract.
-- The loop keeps `Turning`, that all records are turned if those left are; the measure is their number, counted along the first link.
use Rattle.std.proofs.Common.{refl, rules}
use Rattle.turning.proofs.TurnWalk.{cleared_enterable, turning_start, turning_head, turning_has, turning_can, turning_less, turning_more, turning_done}
use Rattle.turning.proofs.turn.turn.Goals as goal

pub enter-requires : goal.enter-requires
enter-requires c = search (rules, cleared_enterable)

pub loop-next-init : goal.loop-next-init
loop-next-init c =
    turning_start _ _ _ _ _ _ c.requires c.clear_head.ensures c.enter.ensures c.get-first.ensures (search rules)

pub get-after-requires : goal.get-after-requires
get-after-requires c = search (rules, turning_has)

pub turn_record-requires : goal.turn_record-requires
turn_record-requires c = turning_can _ _ _ _ _ _ _ _ c.loop-next.invariant c.loop-next-test.true _ refl

pub store-requires : goal.store-requires
store-requires c =
    let has = turning_has _ _ _ _ _ _ _ _ c.loop-next.invariant c.loop-next-test.true _ refl in
    search rules

pub loop-next-smaller : goal.loop-next-smaller
loop-next-smaller c =
    turning_less _ _ _ _ _ _ _ _ c.loop-next.invariant c.loop-next-test.true _ refl _ c.get-after.ensures _ c.turn_record.ensures.taken_over _ c.store.ensures

pub loop-next-preserved : goal.loop-next-preserved
loop-next-preserved c =
    turning_more _ _ _ _ _ _ _ _ c.loop-next.invariant c.loop-next-test.true _ refl _ c.get-after.ensures _ c.turn_record.ensures.taken_over _ c.store.ensures _ c.turn_record.ensures.renewed (search rules) (search rules)

pub store-requires-2 : goal.store-requires-2
store-requires-2 c = search (rules, turning_head)

pub store-requires-3 : goal.store-requires-3
store-requires-3 c =
    let has = turning_head _ _ _ _ _ _ _ _ c.loop-next.invariant in
    search rules

pub returns : goal.returns
returns c =
    turning_done _ _ _ _ _ _ _ _ _ (λ i. (c.slice_known-1.given i).fits) c.clear_head.ensures c.loop-next.invariant c.loop-next-test.false _ _ c.store-2.ensures c.store-3.ensures
