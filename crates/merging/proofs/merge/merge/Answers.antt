-- `merging::merge::merge` meets its contract.
-- The cleared result and the two lists are a merge on its way, with no sum at their heads, and closing gives its result.
use borrow.Author.Rules.{rules}
use Rattle.merging.proofs.MergeLaws.{merge_ready, merge_kept, merge_closes, merge_end, merge_done}
use Rattle.merging.proofs.merge.merge.Goals as goal

pub merge_runs-requires : goal.merge_runs-requires
merge_runs-requires c =
    record {
      runs_ready = merge_ready _ _ _ _ _ c.clear_head.ensures c.requires;
      kept = merge_kept _ _ _ _ _ c.clear_head.ensures c.requires;
    }

pub close-requires : goal.close-requires
close-requires c = merge_closes _ _ _ _ _ c.clear_head.ensures _ _ c.merge_runs.ensures.runs_done c.requires

pub overflow_cast-beside : goal.overflow_cast-beside
overflow_cast-beside c =
    let fits = merge_end _ _ _ _ _ c.clear_head.ensures _ _ c.merge_runs.ensures.runs_done c.requires in
    search rules

pub returns : goal.returns
returns c =
    merge_done _ _ _ _ _ c.clear_head.ensures _ _ c.merge_runs.ensures.runs_done _ _ c.close.ensures c.store.ensures
