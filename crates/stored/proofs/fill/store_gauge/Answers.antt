-- `stored::fill::store_gauge` meets its contract.
-- The word is stored, the useful sizes are packed before it, and then the gauge's words stand in the table, by `gauge_added`.
use Rattle.stored.proofs.Packing.{gauge_packable, gauge_upward, gauge_fits, gauge_added}
use Rattle.stored.proofs.fill.store_gauge.Goals as goal

pub store_sizes-from-requires : goal.store_sizes-from-requires
store_sizes-from-requires c = gauge_packable _ _ _ _ _ _ c.requires.0 _ c.requires.1 c.requires.2

pub overflow_sub-gauge : goal.overflow_sub-gauge
overflow_sub-gauge c =
    let packed = c.store_sizes-from.ensures _ c.requires.1 c.requires.2 in
    gauge_upward _ _ _ _ _ _ c.requires.0 _ _ c.store_sizes-from.auto.scratch packed

pub store-requires : goal.store-requires
store-requires c =
    let packed = c.store_sizes-from.ensures _ c.requires.1 c.requires.2 in
    gauge_fits _ _ _ _ _ _ c.requires.0 _ _ c.store_sizes-from.auto.scratch packed

pub returns : goal.returns
returns c =
    let packed = c.store_sizes-from.ensures _ c.requires.1 c.requires.2 in
    gauge_added _ _ _ _ _ _ c.requires.0 _ _ c.store_sizes-from.auto.scratch packed _ c.store.ensures c.requires.2
