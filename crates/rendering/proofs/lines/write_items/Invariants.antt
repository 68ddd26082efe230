-- `rendering::lines::write_items` meets its contract.
-- The loop keeps `ItemsDue`, that the lines of the items left complete the lines of all.
use Rattle.rendering.proofs.Rows.{ItemsDue}
use Rattle.rendering.proofs.lines.write_items.Given as goal

abbrev pub invariant-loop-item : goal.invariant-loop-item
invariant-loop-item l =
    (goal.iterator-loop-item).can_next l.item-iterator × (goal.iterator-loop-item).is_finite l.item-iterator
    × ItemsDue l.initial.page l.items l.item-iterator l.page
