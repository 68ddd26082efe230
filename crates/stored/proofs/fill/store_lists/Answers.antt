-- `stored::fill::store_lists` meets its contract.
-- The loop keeps `Filling`, that the parts of the stack are stored.
use mathlib.Core.Path.{◌∙◌}
use native.Mathlib.Omega.{arith}
use Rattle.stored.proofs.FillLoop.{filling_head, filling_taken, filling_start, gauge_part, gauge_bytes, gauge_in_order, gauge_room, gauge_fits, filling_gauge, join_part, join_ready, join_fits, filling_join, filled_some, filled}
use Rattle.stored.proofs.fill.store_lists.Goals as goal
use Rattle.stored.proofs.fill.store_lists.Goals.{then-known, else-known}

pub asks_order-known-requires : goal.asks_order-known-requires
asks_order-known-requires c = filling_head _ _ _ c.requires

pub of-entry-items-requires : goal.of-entry-items-requires
of-entry-items-requires c = filling_taken _ _ _ c.requires

pub loop-entry-init : goal.loop-entry-init
loop-entry-init c =
    filling_start _ _ _ _ _ c.requires c.of-entry-items.ensures c.into_iter-entry-iterator.ensures.into_iter_gives

pub in_order-named-requires : goal.in_order-named-requires
in_order-named-requires c =
    let bytes = gauge_bytes _ _ _ _ _ _ _ _ c.loop-entry.invariant _ c.in-Some.ensures.steps _ c.in-Gauge.is _ c.size_count-count.ensures in
    (bytes.some, bytes.few)

pub order-named-requires : goal.order-named-requires
order-named-requires c = gauge_bytes _ _ _ _ _ _ _ _ c.loop-entry.invariant _ c.in-Some.ensures.steps _ c.in-Gauge.is _ c.size_count-count.ensures

pub store_gauge-requires : goal.store_gauge-requires
store_gauge-requires c =
    let filling = c.loop-entry.invariant in
    let came = c.in-Some.ensures.steps in
    let is-gauge = c.in-Gauge.is in
    let counted = c.size_count-count.ensures in (
      gauge_room _ _ _ _ _ _ _ _ filling _ came _ is-gauge _ counted,
      gauge_bytes _ _ _ _ _ _ _ _ filling _ came _ is-gauge _ counted,
      elim c.if-known.branch [
        | then-known w ↦ gauge_in_order _ _ _ _ _ _ _ _ filling _ came _ is-gauge _ counted _ c.asks_order-known.ensures w.if-known.true _ (w.named-is ∙ w.in_order-named.ensures)
        | else-known w ↦ w.named-is ∙ w.order-named.ensures
      ],
    )

pub overflow_add-to : goal.overflow_add-to
overflow_add-to c =
    let few = gauge_fits _ _ _ _ _ _ _ _ c.loop-entry.invariant _ c.in-Some.ensures.steps _ c.in-Gauge.is _ c.size_count-count.ensures in record { fits = omega arith }

pub overflow_add-to-in-Gauge : goal.overflow_add-to-in-Gauge
overflow_add-to-in-Gauge c =
    let few = gauge_fits _ _ _ _ _ _ _ _ c.loop-entry.invariant _ c.in-Some.ensures.steps _ c.in-Gauge.is _ c.size_count-count.ensures in record { fits = omega arith }

pub overflow_add-part : goal.overflow_add-part
overflow_add-part c =
    let few = gauge_part _ _ _ _ _ _ _ _ c.loop-entry.invariant _ c.in-Some.ensures.steps _ c.in-Gauge.is _ c.size_count-count.ensures in record { fits = omega arith }

pub loop-entry-preserved-in-Gauge : goal.loop-entry-preserved-in-Gauge
loop-entry-preserved-in-Gauge c =
    filling_gauge _ _ _ _ _ _ _ _ c.loop-entry.invariant _ c.in-Some.ensures.steps _ c.in-Gauge.is _ c.size_count-count.ensures _ c.store_gauge.ensures

pub store_join-to-requires : goal.store_join-to-requires
store_join-to-requires c = join_ready _ _ _ _ _ _ _ _ c.loop-entry.invariant _ c.in-Some.ensures.steps _ c.in-Join.is

pub overflow_add-to-in-Join : goal.overflow_add-to-in-Join
overflow_add-to-in-Join c =
    let few = join_fits _ _ _ _ _ _ _ _ c.loop-entry.invariant _ c.in-Some.ensures.steps _ c.in-Join.is _ _ c.store_join-to.ensures in
    record { fits = omega arith }

pub overflow_add-part-in-Join : goal.overflow_add-part-in-Join
overflow_add-part-in-Join c =
    let few = join_part _ _ _ _ _ _ _ _ c.loop-entry.invariant _ c.in-Some.ensures.steps _ c.in-Join.is in
    record { fits = omega arith }

pub loop-entry-preserved : goal.loop-entry-preserved
loop-entry-preserved c =
    filling_join _ _ _ _ _ _ _ _ c.loop-entry.invariant _ c.in-Some.ensures.steps _ c.in-Join.is _ _ c.store_join-to.ensures

pub overflow_sub-result : goal.overflow_sub-result
overflow_sub-result c = filled_some _ _ _ _ _ _ _ _ c.loop-entry.invariant _ c.in-None.is c.next.ensures.steps

pub returns : goal.returns
returns c = filled _ _ _ _ _ _ _ _ c.loop-entry.invariant _ c.in-None.is c.next.ensures.steps
