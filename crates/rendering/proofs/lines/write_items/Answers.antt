-- `rendering::lines::write_items` meets its contract.
-- The loop keeps `ItemsDue`, that the lines of the items left complete the lines of all.
use borrow.Author.Rules.{rules}
use native.Mathlib.Omega.{arith}
use Rattle.rendering.proofs.Rows.{items_start, item_fits, items_more, items_done}
use Rattle.rendering.proofs.lines.write_items.Goals as goal

pub loop-item-init : goal.loop-item-init
loop-item-init c = search (rules, items_start)

pub write_item-requires : goal.write_item-requires
write_item-requires c =
    let step = c.in-Some.ensures.steps in
    item_fits _ _ _ _ c.loop-item.invariant.2 _ c.next.new.self step.0 step.1.0 step.1.1

pub loop-item-preserved : goal.loop-item-preserved
loop-item-preserved c =
    let step = c.in-Some.ensures.steps in
    let more = items_more _ _ _ _ c.loop-item.invariant.2 _ c.next.new.self step.0 step.1.0 step.1.1 _ c.write_item.ensures in
    let two = more.two in
    (omega arith, tt, more)

pub returns : goal.returns
returns c = items_done _ _ _ _ c.loop-item.invariant.2 c.in-None.ensures.steps.1.0
