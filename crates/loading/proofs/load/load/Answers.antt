-- `loading::load::load` meets its contract.
-- The loop keeps `Loading`, that the sizes whose digits were taken off are the list of the head; the measure is the word that is left.
use borrow.Author.Rules.{rules}
use Prim.Native.Nat.{◌-◌, ◌%◌, ◌<◌}
use lib.ListN.{length}
use Rattle.loading.proofs.Loads.{loading_start, loading_low, loading_high, loading_some, loading_place, loading_after, loading_more, loading_done}
use Rattle.loading.proofs.load.load.Goals as goal

pub loop-left-init : goal.loop-left-init
loop-left-init c = search (rules, loading_start)

pub overflow_sub-k : goal.overflow_sub-k
overflow_sub-k c = search (rules, loading_some)

pub bounds-levels-k : goal.bounds-levels-k
bounds-levels-k c =
    let named : c.loop-left.left % 16 - 1 < length c.args.levels.now = loading_place _ _ _ _ _ _ _ _ _ _ c.loop-left.invariant c.loop-left-test.true in
    let low = named in search rules

pub size_in-size-requires : goal.size_in-size-requires
size_in-size-requires c =
    let named : c.loop-left.left % 16 - 1 < length c.args.levels.now = loading_place _ _ _ _ _ _ _ _ _ _ c.loop-left.invariant c.loop-left-test.true in
    (_, c.loop-left.invariant.can.bytes, named)

pub overflow_add-r : goal.overflow_add-r
overflow_add-r c =
    let named : c.loop-left.left % 16 - 1 < length c.args.levels.now = loading_place _ _ _ _ _ _ _ _ _ _ c.loop-left.invariant c.loop-left-test.true in
    let low = named in search rules

pub load_record-requires : goal.load_record-requires
load_record-requires c =
    let named : c.loop-left.left % 16 - 1 < length c.args.levels.now = loading_place _ _ _ _ _ _ _ _ _ _ c.loop-left.invariant c.loop-left-test.true in
    let can = c.loop-left.invariant.can in
    let place = named in
    let low = loading_low _ _ _ _ _ _ _ _ can place c.from-level.ensures in
    let high = loading_high _ _ _ _ _ _ _ _ can place c.from-level.ensures in
    let apart = can.apart _ place in
    search rules

pub overflow_cast-last : goal.overflow_cast-last
overflow_cast-last c =
    let named : c.loop-left.left % 16 - 1 < length c.args.levels.now = loading_place _ _ _ _ _ _ _ _ _ _ c.loop-left.invariant c.loop-left-test.true in
    let low = named in search rules

pub store-requires : goal.store-requires
store-requires c =
    let has = loading_after _ _ _ _ _ _ _ _ _ _ c.loop-left.invariant in
    search rules

pub loop-left-preserved : goal.loop-left-preserved
loop-left-preserved c =
    loading_more _ _ _ _ _ _ _ _ _ _ c.loop-left.invariant c.loop-left-test.true _ _ _ c.from-level.ensures c.size_in-size.ensures c.load_record.ensures _ c.store.ensures

pub store-requires-3 : goal.store-requires-3
store-requires-3 c =
    let has = loading_after _ _ _ _ _ _ _ _ _ _ c.loop-left.invariant in
    search rules

pub returns : goal.returns
returns c = search (rules, loading_done)
