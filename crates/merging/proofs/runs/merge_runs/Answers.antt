-- `merging::runs::merge_runs` meets its contract.
-- The loop keeps `Goes` and that the sums kept are right; its measure is the number of records that wait.
use native.Mathlib.Omega.{arith}
use Rattle.merging.proofs.RunsLaws.{goes_start, goes_ready, goes_turn, goes_less, goes_done}
use Rattle.merging.proofs.runs.merge_runs.Goals as goal

pub loop-arena-init : goal.loop-arena-init
loop-arena-init c = (goes_start _ _ _ _ _, c.requires.kept)

pub both_wait-requires : goal.both_wait-requires
both_wait-requires c =
    let lists = c.requires.runs_ready.1.merging.runs.waits.lists in
    let older = lists.older.linked.has in
    let newer = lists.newer.linked.has in
    let long = c.loop-arena.auto.arena in
    (omega arith, omega arith)

pub step-requires : goal.step-requires
step-requires c =
    let inv = c.loop-arena.invariant in
    record {
      step_ready = goes_ready _ _ _ _ _ _ _ _ inv.0 c.both_wait.ensures c.loop-arena-test.true c.requires.runs_ready;
      kept = inv.1;
    }

pub loop-arena-smaller : goal.loop-arena-smaller
loop-arena-smaller c =
    goes_less _ _ _ _ _ _ _ _ c.loop-arena.invariant.0 c.both_wait.ensures c.loop-arena-test.true _ _ c.step.ensures.step_done c.requires.runs_ready

pub loop-arena-preserved : goal.loop-arena-preserved
loop-arena-preserved c =
    let step = c.step.ensures in
    (goes_turn _ _ _ _ _ _ _ _ c.loop-arena.invariant.0 c.both_wait.ensures c.loop-arena-test.true _ _ step.step_done, step.kept_after)

pub returns : goal.returns
returns c =
    let inv = c.loop-arena.invariant in
    record {
      runs_done = goes_done _ _ _ _ _ _ _ _ inv.0 c.both_wait.ensures c.loop-arena-test.false;
      kept_after = inv.1;
    }
