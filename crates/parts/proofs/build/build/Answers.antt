-- `parts::build::build` meets its contract.
-- The loop keeps `Standing`, that the parts of the stack stand in the arena.
use mathlib.Core.Path.{refl, ◌∙◌}
use native.Mathlib.Omega.{arith}
use Rattle.parts.proofs.Standing.{standing_long, file_headed, file_taken, standing_start, gauge_room, levels_left, gauge_bytes, gauge_in_order, gauge_loads, standing_gauge, join_parts, join_ready, standing_join, standing_whole}
use Rattle.parts.proofs.build.build.Goals as goal
use Rattle.parts.proofs.build.build.Goals.{then-known, else-known}

pub asks_order-known-requires : goal.asks_order-known-requires
asks_order-known-requires c = file_headed _ _ _ _ c.requires

pub of-entry-items-requires : goal.of-entry-items-requires
of-entry-items-requires c = file_taken _ _ _ _ c.requires

pub loop-entry-init : goal.loop-entry-init
loop-entry-init c =
    standing_start _ _ _ _ _ _ _ c.requires refl c.of-entry-items.ensures c.into_iter-entry-iterator.ensures.into_iter_gives

pub slice_bounds-own-end : goal.slice_bounds-own-end
slice_bounds-own-end c = levels_left _ _ _ _ _ _ _ _ _ _ c.loop-entry.invariant _ c.in-Some.ensures.steps _ c.in-Gauge.is _ c.size_count-count.ensures

pub in_order-named-requires : goal.in_order-named-requires
in_order-named-requires c =
    let bytes = gauge_bytes _ _ _ _ _ _ _ _ _ _ c.loop-entry.invariant _ c.in-Some.ensures.steps _ c.in-Gauge.is _ c.size_count-count.ensures in
    (bytes.some, bytes.few)

pub order-named-requires : goal.order-named-requires
order-named-requires c = gauge_bytes _ _ _ _ _ _ _ _ _ _ c.loop-entry.invariant _ c.in-Some.ensures.steps _ c.in-Gauge.is _ c.size_count-count.ensures

pub load-requires : goal.load-requires
load-requires c =
    let standing = c.loop-entry.invariant in
    let came = c.in-Some.ensures.steps in
    let is-gauge = c.in-Gauge.is in
    let counted = c.size_count-count.ensures in
    elim c.if-known.branch [
      | then-known w ↦
          gauge_loads _ _ _ _ _ _ _ _ _ _ standing _ came _ is-gauge _ counted _
          (gauge_in_order _ _ _ _ _ _ _ _ _ _ standing _ came _ is-gauge _ counted _ c.asks_order-known.ensures w.if-known.true _ (w.named-is ∙ w.in_order-named.ensures))
      | else-known w ↦ gauge_loads _ _ _ _ _ _ _ _ _ _ standing _ came _ is-gauge _ counted _ (w.named-is ∙ w.order-named.ensures)
    ]

pub bounds-kinds-parts : goal.bounds-kinds-parts
bounds-kinds-parts c = gauge_room _ _ _ _ _ _ _ _ _ _ c.loop-entry.invariant _ c.in-Some.ensures.steps _ c.in-Gauge.is _ c.size_count-count.ensures

pub loop-entry-preserved-in-Gauge : goal.loop-entry-preserved-in-Gauge
loop-entry-preserved-in-Gauge c =
    standing_gauge _ _ _ _ _ _ _ _ _ _ c.loop-entry.invariant _ c.in-Some.ensures.steps _ c.in-Gauge.is _ c.size_count-count.ensures _ c.load.ensures _ refl

pub overflow_sub-parts : goal.overflow_sub-parts
overflow_sub-parts c =
    let two = join_parts _ _ _ _ _ _ _ _ _ _ c.loop-entry.invariant _ c.in-Some.ensures.steps _ c.in-Join.is in omega arith

pub overflow_sub-older : goal.overflow_sub-older
overflow_sub-older c =
    let two = join_parts _ _ _ _ _ _ _ _ _ _ c.loop-entry.invariant _ c.in-Some.ensures.steps _ c.in-Join.is in omega arith

pub join-requires-clause-joinable : goal.join-requires-clause-joinable
join-requires-clause-joinable c =
    join_ready _ _ _ _ _ _ _ _ _ _ c.loop-entry.invariant _ c.in-Some.ensures.steps _ c.in-Join.is

pub loop-entry-preserved : goal.loop-entry-preserved
loop-entry-preserved c =
    standing_join _ _ _ _ _ _ _ _ _ _ c.loop-entry.invariant _ c.in-Some.ensures.steps _ c.in-Join.is _ c.join.ensures _ refl

pub copy_head-requires : goal.copy_head-requires
copy_head-requires c =
    let long = standing_long _ _ _ _ _ _ _ _ _ c.loop-entry.invariant in
    (omega arith, omega arith)

pub returns : goal.returns
returns c =
    standing_whole _ _ _ _ _ _ _ _ _ _ c.loop-entry.invariant _ c.in-None.is c.next.ensures.steps _ _ c.copy_head.ensures refl
