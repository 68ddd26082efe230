-- `writing::write::write_by_height` meets its contract.
-- The loop keeps `Heights`, that the items left, written from the place reached, give what all give from the start; the measure is the number of the records left, counted along the first link.
use borrow.Author.Rules.{rules}
use Rattle.writing.proofs.ListWalk.{walk_less, walk_has}
use Rattle.writing.proofs.Heights.{head_enterable, heights_start, heights_summable, heights_room, heights_more, heights_done}
use Rattle.writing.proofs.write.write_by_height.Goals as goal

pub enter-requires : goal.enter-requires
enter-requires c = search (rules, head_enterable)

pub loop-next-init : goal.loop-next-init
loop-next-init c = search (rules, heights_start)

pub get-next-requires-in-loop-next : goal.get-next-requires-in-loop-next
get-next-requires-in-loop-next c = search (rules, walk_has)

pub get-height-requires : goal.get-height-requires
get-height-requires c = search (rules, walk_has)

pub true_p-width-requires : goal.true_p-width-requires
true_p-width-requires c = search (rules, heights_summable)

pub write_item-requires : goal.write_item-requires
write_item-requires c = search (rules, heights_room)

pub pass-requires : goal.pass-requires
pass-requires c = search (rules, heights_summable)

pub overflow_add-at : goal.overflow_add-at
overflow_add-at c = search (rules, heights_room)

pub loop-next-smaller : goal.loop-next-smaller
loop-next-smaller c = search (rules, walk_less)

pub loop-next-preserved : goal.loop-next-preserved
loop-next-preserved c =
    heights_more _ _ _ _ _ _ _ c.loop-next.invariant c.loop-next-test.true _ c.wide-r.ensures _ _ _ _ _ c.get-height.ensures c.true_p-width.ensures c.write_item.ensures c.pass.ensures c.get-next-in-loop-next.ensures

pub returns : goal.returns
returns c = heights_done _ _ _ _ _ _ _ c.loop-next.invariant c.loop-next-test.false
