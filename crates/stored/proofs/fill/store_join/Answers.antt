-- `stored::fill::store_join` meets its contract.
-- The two parts are found by the gauges of the newer one, and the merge of their lists, the longer one first, is the join's own list.
use Rattle.stored.proofs.JoinedLists.{join_merges, join_stores, join_done}
use Rattle.stored.proofs.fill.store_join.Goals as goal

pub merge_lists-count-requires : goal.merge_lists-count-requires
merge_lists-count-requires c =
    join_merges _ _ _ _ _ _ c.read-newer.ensures _ c.read-older.ensures _ _ c.longer_first.ensures _ _ c.stretch.ensures c.stretch-2.ensures c.requires

pub store-requires : goal.store-requires
store-requires c =
    join_stores _ _ _ _ _ _ c.read-newer.ensures _ c.read-older.ensures _ _ c.longer_first.ensures _ _ c.stretch.ensures c.stretch-2.ensures _ _ c.merge_lists-count.ensures c.requires

pub returns : goal.returns
returns c =
    join_done _ _ _ _ _ _ c.read-newer.ensures _ c.read-older.ensures _ _ c.longer_first.ensures _ _ c.stretch.ensures c.stretch-2.ensures _ _ c.merge_lists-count.ensures _ c.store.ensures
