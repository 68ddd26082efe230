-- `merging::runs::step` meets its contract.
-- The words it compares are the m of the two first records, and each way out is the step that it calls.
use native.Mathlib.Omega.{arith}
use borrow.Author.Rules.{rules}
use Rattle.merging.proofs.Stepping.{step_older_has, step_newer_has, step_older, step_newer, step_older_done, step_newer_done}
use Rattle.merging.proofs.runs.step.Goals as goal

pub get-top-requires : goal.get-top-requires
get-top-requires c =
    (step_older_has _ _ _ _ _ _ _ c.get-r.ensures c.get-s.ensures c.requires.step_ready, search rules)

pub get-requires : goal.get-requires
get-requires c =
    (step_newer_has _ _ _ _ _ _ _ c.get-r.ensures c.get-s.ensures c.requires.step_ready, search rules)

pub older_step-requires : goal.older_step-requires
older_step-requires c =
    record {
      older_ready = step_older _ _ _ _ _ _ _ c.get-r.ensures c.get-s.ensures _ _ c.get-top.ensures c.get.ensures (let t = c.if-get-top.true in omega arith) c.requires.step_ready;
      kept = c.requires.kept;
    }

pub newer_step-requires : goal.newer_step-requires
newer_step-requires c =
    record {
      newer_ready = step_newer _ _ _ _ _ _ _ c.get-r.ensures c.get-s.ensures _ _ c.get-top.ensures c.get.ensures (let t = c.if-get-top.false in omega arith) c.requires.step_ready;
      kept = c.requires.kept;
    }

pub returns-then-get-top : goal.returns-then-get-top
returns-then-get-top c =
    record {
      step_done = step_older_done _ _ _ _ _ _ _ c.get-r.ensures c.get-s.ensures _ _ c.get-top.ensures c.get.ensures _ _ (let t = c.if-get-top.true in omega arith) c.older_step.ensures.older_done;
      kept_after = c.older_step.ensures.kept_after;
    }

pub returns-else-get-top : goal.returns-else-get-top
returns-else-get-top c =
    record {
      step_done = step_newer_done _ _ _ _ _ _ _ c.get-r.ensures c.get-s.ensures _ _ c.get-top.ensures c.get.ensures _ _ (let t = c.if-get-top.false in omega arith) c.newer_step.ensures.newer_done;
      kept_after = c.newer_step.ensures.kept_after;
    }
