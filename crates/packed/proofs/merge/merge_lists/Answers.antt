-- `packed::merge::merge_lists` meets its contract.
-- The loop keeps `Holding`: what is written, followed by the merge of what is left, is the whole merge, both places are those of the first items left, and x and y are their words, y with the rib in its p. The measure is the items left of both lists.
use native.Mathlib.Omega.{arith}
use borrow.Author.Rules.{rules}
use Rattle.packed.proofs.Walking.{within_both}
use Rattle.packed.proofs.HeldWords.{starts_inside, holding_start, start_fits, holding_room, holding_past, holding_fits, holding_older, holding_newer}
use Rattle.packed.proofs.HeldWords.{turn_newer, turn_older, turn_both, turn_newer_out, turn_less, next_fits, newer_again, older_again, both_again, older_next, newer_next, older_last}
use Rattle.packed.proofs.merge.merge_lists.Goals as goal

pub first-i-requires : goal.first-i-requires
first-i-requires c = (within_both _ _ _ _ _ c.requires c.ranges.to.fits).0

pub first-j-requires : goal.first-j-requires
first-j-requires c = (within_both _ _ _ _ _ c.requires c.ranges.to.fits).1

pub end-end-requires : goal.end-end-requires
end-end-requires c = (within_both _ _ _ _ _ c.requires c.ranges.to.fits).0

pub end-stop-requires : goal.end-stop-requires
end-stop-requires c = (within_both _ _ _ _ _ c.requires c.ranges.to.fits).1

pub read-x-requires : goal.read-x-requires
read-x-requires c = (starts_inside _ _ _ _ _ _ _ c.requires c.first-i.ensures c.first-j.ensures).0

pub read-requires : goal.read-requires
read-requires c = (starts_inside _ _ _ _ _ _ _ c.requires c.first-i.ensures c.first-j.ensures).1

pub overflow_add-y : goal.overflow_add-y
overflow_add-y c =
    record { fits = start_fits _ _ _ _ _ _ _ c.requires c.first-j.ensures (c.read.ensures.along, c.read.ensures.turned) }

pub loop-scratch-init : goal.loop-scratch-init
loop-scratch-init c =
    holding_start _ _ _ _ _ _ _ _ _ _ _ c.requires c.first-i.ensures c.first-j.ensures c.end-end.ensures c.end-stop.ensures (c.read-x.ensures.along, c.read-x.ensures.turned) (c.read.ensures.along, c.read.ensures.turned)

pub overflow_add-scratch : goal.overflow_add-scratch
overflow_add-scratch c =
    let p = c.p_of.ensures in let fits = (holding_fits _ _ _ _ _ _ _ _ _ _ _ _ _ c.loop-scratch.invariant).1 in record { fits = omega arith }

pub offset_bounds-scratch-at : goal.offset_bounds-scratch-at
offset_bounds-scratch-at c = let room = holding_room _ _ _ _ _ _ _ _ _ _ _ _ _ c.loop-scratch.invariant in search rules

pub bounds-scratch-at : goal.bounds-scratch-at
bounds-scratch-at c = holding_room _ _ _ _ _ _ _ _ _ _ _ _ _ c.loop-scratch.invariant

pub overflow_add-at : goal.overflow_add-at
overflow_add-at c = let room = holding_room _ _ _ _ _ _ _ _ _ _ _ _ _ c.loop-scratch.invariant in search rules

pub after-j-requires : goal.after-j-requires
after-j-requires c =
    let to-fits = c.ranges.to.fits in
    let inside = holding_newer _ _ _ _ _ _ _ _ _ _ _ _ _ c.loop-scratch.invariant in (omega arith, omega arith)

pub overflow_sub-result : goal.overflow_sub-result
overflow_sub-result c = holding_past _ _ _ _ _ _ _ _ _ _ _ _ _ c.loop-scratch.invariant

pub returns-then-j-stop : goal.returns-then-j-stop
returns-then-j-stop c =
    let turn = turn_newer _ _ _ _ _ _ _ _ _ _ c.m_of-m.ensures c.m_of-n.ensures c.if-m-n.true c.p_of.ensures (c.after-j.ensures.along, c.after-j.ensures.turned) in
    turn_newer_out _ _ _ _ _ _ _ _ _ _ _ _ _ c.loop-scratch.invariant _ _ _ _ _ turn c.if-j-stop.true

pub read-requires-then-m-n : goal.read-requires-then-m-n
read-requires-then-m-n c =
    newer_next _ _ _ _ _ _ _ _ _ _ _ _ _ c.loop-scratch.invariant _ _ (c.after-j.ensures.along, c.after-j.ensures.turned) c.if-j-stop.false

pub overflow_add-y-then-m-n : goal.overflow_add-y-then-m-n
overflow_add-y-then-m-n c =
    let turn = turn_newer _ _ _ _ _ _ _ _ _ _ c.m_of-m.ensures c.m_of-n.ensures c.if-m-n.true c.p_of.ensures (c.after-j.ensures.along, c.after-j.ensures.turned) in
    record { fits = next_fits _ _ _ _ _ _ _ _ _ _ _ _ _ c.loop-scratch.invariant _ _ _ _ _ turn _ c.if-j-stop.false (c.read-then-m-n.ensures.along, c.read-then-m-n.ensures.turned) }

pub loop-scratch-smaller-then-m-n : goal.loop-scratch-smaller-then-m-n
loop-scratch-smaller-then-m-n c =
    let turn = turn_newer _ _ _ _ _ _ _ _ _ _ c.m_of-m.ensures c.m_of-n.ensures c.if-m-n.true c.p_of.ensures (c.after-j.ensures.along, c.after-j.ensures.turned) in
    turn_less _ _ _ _ _ _ _ _ _ _ _ _ _ c.loop-scratch.invariant _ _ _ _ _ turn

pub loop-scratch-preserved-then-m-n : goal.loop-scratch-preserved-then-m-n
loop-scratch-preserved-then-m-n c =
    let turn = turn_newer _ _ _ _ _ _ _ _ _ _ c.m_of-m.ensures c.m_of-n.ensures c.if-m-n.true c.p_of.ensures (c.after-j.ensures.along, c.after-j.ensures.turned) in
    newer_again _ _ _ _ _ _ _ _ _ _ _ _ _ c.loop-scratch.invariant _ _ _ turn c.if-j-stop.false (c.read-then-m-n.ensures.along, c.read-then-m-n.ensures.turned)

pub overflow_add-scratch-else-m-n : goal.overflow_add-scratch-else-m-n
overflow_add-scratch-else-m-n c =
    let p = c.p_of-else-m-n.ensures in let fits = (holding_fits _ _ _ _ _ _ _ _ _ _ _ _ _ c.loop-scratch.invariant).0 in record { fits = omega arith }

pub offset_bounds-scratch-at-else-m-n : goal.offset_bounds-scratch-at-else-m-n
offset_bounds-scratch-at-else-m-n c = let room = holding_room _ _ _ _ _ _ _ _ _ _ _ _ _ c.loop-scratch.invariant in search rules

pub bounds-scratch-at-else-m-n : goal.bounds-scratch-at-else-m-n
bounds-scratch-at-else-m-n c = holding_room _ _ _ _ _ _ _ _ _ _ _ _ _ c.loop-scratch.invariant

pub overflow_add-at-else-m-n : goal.overflow_add-at-else-m-n
overflow_add-at-else-m-n c = let room = holding_room _ _ _ _ _ _ _ _ _ _ _ _ _ c.loop-scratch.invariant in search rules

pub after-i-requires : goal.after-i-requires
after-i-requires c =
    let to-fits = c.ranges.to.fits in
    let inside = holding_older _ _ _ _ _ _ _ _ _ _ _ _ _ c.loop-scratch.invariant in (omega arith, omega arith)

pub overflow_sub-result-then-i-end : goal.overflow_sub-result-then-i-end
overflow_sub-result-then-i-end c = holding_past _ _ _ _ _ _ _ _ _ _ _ _ _ c.loop-scratch.invariant

pub returns-then-i-end : goal.returns-then-i-end
returns-then-i-end c =
    older_last _ _ _ _ _ _ _ _ _ _ _ _ _ c.loop-scratch.invariant _ _ _ _ c.m_of-m.ensures c.m_of-n.ensures c.if-m-n.false c.p_of-else-m-n.ensures (c.after-i.ensures.along, c.after-i.ensures.turned) c.if-i-end.true

pub read-x-requires-else-m-n : goal.read-x-requires-else-m-n
read-x-requires-else-m-n c =
    older_next _ _ _ _ _ _ _ _ _ _ _ _ _ c.loop-scratch.invariant _ _ (c.after-i.ensures.along, c.after-i.ensures.turned) c.if-i-end.false

pub after-j-requires-then-m-n-2 : goal.after-j-requires-then-m-n-2
after-j-requires-then-m-n-2 c =
    let to-fits = c.ranges.to.fits in
    let inside = holding_newer _ _ _ _ _ _ _ _ _ _ _ _ _ c.loop-scratch.invariant in (omega arith, omega arith)

pub overflow_sub-result-then-j-stop-2 : goal.overflow_sub-result-then-j-stop-2
overflow_sub-result-then-j-stop-2 c = holding_past _ _ _ _ _ _ _ _ _ _ _ _ _ c.loop-scratch.invariant

pub returns-then-j-stop-2 : goal.returns-then-j-stop-2
returns-then-j-stop-2 c =
    let turn = turn_both _ _ _ _ _ _ _ _ _ _ _ c.m_of-m.ensures c.m_of-n.ensures c.if-m-n-2.true c.p_of-else-m-n.ensures (c.after-i.ensures.along, c.after-i.ensures.turned) (c.after-j-then-m-n-2.ensures.along, c.after-j-then-m-n-2.ensures.turned) in
    turn_newer_out _ _ _ _ _ _ _ _ _ _ _ _ _ c.loop-scratch.invariant _ _ _ _ _ turn c.if-j-stop-2.true

pub read-requires-then-m-n-2 : goal.read-requires-then-m-n-2
read-requires-then-m-n-2 c =
    newer_next _ _ _ _ _ _ _ _ _ _ _ _ _ c.loop-scratch.invariant _ _ (c.after-j-then-m-n-2.ensures.along, c.after-j-then-m-n-2.ensures.turned) c.if-j-stop-2.false

pub overflow_add-y-then-m-n-2 : goal.overflow_add-y-then-m-n-2
overflow_add-y-then-m-n-2 c =
    let turn = turn_both _ _ _ _ _ _ _ _ _ _ _ c.m_of-m.ensures c.m_of-n.ensures c.if-m-n-2.true c.p_of-else-m-n.ensures (c.after-i.ensures.along, c.after-i.ensures.turned) (c.after-j-then-m-n-2.ensures.along, c.after-j-then-m-n-2.ensures.turned) in
    record { fits = next_fits _ _ _ _ _ _ _ _ _ _ _ _ _ c.loop-scratch.invariant _ _ _ _ _ turn _ c.if-j-stop-2.false (c.read-then-m-n-2.ensures.along, c.read-then-m-n-2.ensures.turned) }

pub loop-scratch-smaller-then-m-n-2 : goal.loop-scratch-smaller-then-m-n-2
loop-scratch-smaller-then-m-n-2 c =
    let turn = turn_both _ _ _ _ _ _ _ _ _ _ _ c.m_of-m.ensures c.m_of-n.ensures c.if-m-n-2.true c.p_of-else-m-n.ensures (c.after-i.ensures.along, c.after-i.ensures.turned) (c.after-j-then-m-n-2.ensures.along, c.after-j-then-m-n-2.ensures.turned) in
    turn_less _ _ _ _ _ _ _ _ _ _ _ _ _ c.loop-scratch.invariant _ _ _ _ _ turn

pub loop-scratch-preserved-then-m-n-2 : goal.loop-scratch-preserved-then-m-n-2
loop-scratch-preserved-then-m-n-2 c =
    let turn = turn_both _ _ _ _ _ _ _ _ _ _ _ c.m_of-m.ensures c.m_of-n.ensures c.if-m-n-2.true c.p_of-else-m-n.ensures (c.after-i.ensures.along, c.after-i.ensures.turned) (c.after-j-then-m-n-2.ensures.along, c.after-j-then-m-n-2.ensures.turned) in
    both_again _ _ _ _ _ _ _ _ _ _ _ _ _ c.loop-scratch.invariant _ _ _ _ _ turn c.if-i-end.false c.if-j-stop-2.false (c.read-x-else-m-n.ensures.along, c.read-x-else-m-n.ensures.turned) (c.read-then-m-n-2.ensures.along, c.read-then-m-n-2.ensures.turned)

pub loop-scratch-smaller : goal.loop-scratch-smaller
loop-scratch-smaller c =
    let turn = turn_older _ _ _ _ _ _ _ _ _ _ c.m_of-m.ensures c.m_of-n.ensures c.if-m-n.false c.if-m-n-2.false c.p_of-else-m-n.ensures (c.after-i.ensures.along, c.after-i.ensures.turned) in
    turn_less _ _ _ _ _ _ _ _ _ _ _ _ _ c.loop-scratch.invariant _ _ _ _ _ turn

pub loop-scratch-preserved : goal.loop-scratch-preserved
loop-scratch-preserved c =
    let turn = turn_older _ _ _ _ _ _ _ _ _ _ c.m_of-m.ensures c.m_of-n.ensures c.if-m-n.false c.if-m-n-2.false c.p_of-else-m-n.ensures (c.after-i.ensures.along, c.after-i.ensures.turned) in
    older_again _ _ _ _ _ _ _ _ _ _ _ _ _ c.loop-scratch.invariant _ _ _ turn c.if-i-end.false (c.read-x-else-m-n.ensures.along, c.read-x-else-m-n.ensures.turned)
