-- `stepping::older_step::older_step` meets its contract: the merge is further on, by a run of the older list.
-- Its key is the m of the newer list's first record, so that the older records that are not below it move; `OlderStep` says what they do to the merge and to the sums kept, and that the first record leaves where the last of them has its m.
use mathlib.Core.Path.{◌≡◌, ap}
use Prim.Native.Nat.{ℕ, ◌+◌}
use borrow.Author.Rules.{rules}
use Rattle.arena.specs.Arena.{adjust}
use Rattle.arena.specs.inside.Chain.{p_under}
use Rattle.stepping.proofs.OlderStep.{older_has, older_summable, older_fits, older_movable, tied, older_done, tied_kept}
use Rattle.stepping.proofs.older_step.older_step.Goals as goal

pub get-key-requires : goal.get-key-requires
get-key-requires c = (older_has _ _ _ _ _ _ c.requires.older_ready c.get-s.ensures, search rules)

pub true_p-requires : goal.true_p-requires
true_p-requires c = older_summable _ _ _ _ _ _ c.requires.older_ready c.get-s.ensures _ _ _ c.requires.kept

pub overflow_add-q : goal.overflow_add-q
overflow_add-q c =
    let q-is : c.true_p.result ≡ p_under c.args.arena.now (adjust c.args.arena.now c.args.newer) c.get-s.result = c.true_p.ensures _ c.requires.kept.newer in
    record { fits = older_fits _ _ _ _ _ _ c.requires.older_ready c.get-s.ensures _ (q-is) }

pub move_run-requires : goal.move_run-requires
move_run-requires c =
    let kept = c.requires.kept in
    record {
      run_ready = (_, _, _, _, older_movable _ _ _ _ _ _ c.requires.older_ready c.get-s.ensures _ c.get-key.ensures);
      cached = record { head = kept.older; ends = kept.ends };
    }

pub drop_tied-requires : goal.drop_tied-requires
drop_tied-requires c =
    let q-is : c.true_p.result ≡ p_under c.args.arena.now (adjust c.args.arena.now c.args.newer) c.get-s.result = c.true_p.ensures _ c.requires.kept.newer in
    let run = c.move_run.ensures in
    tied _ _ _ _ _ _ c.requires.older_ready c.get-s.ensures _ c.get-key.ensures _ _ _ (ap (λ (x : ℕ). x + c.args.rib) (q-is)) run.run_moved _ _ _ _ _ c.requires.kept run.cached_after

pub returns : goal.returns
returns c =
    let q-is : c.true_p.result ≡ p_under c.args.arena.now (adjust c.args.arena.now c.args.newer) c.get-s.result = c.true_p.ensures _ c.requires.kept.newer in
    let run = c.move_run.ensures in
    record {
      older_done = older_done _ _ _ _ _ _ _ _ _ _ c.get-s.ensures c.get-key.ensures (ap (λ (x : ℕ). x + c.args.rib) (q-is)) run.run_moved _ _ _ c.drop_tied.ensures;
      kept_after = tied_kept _ _ _ _ _ _ _ _ _ _ c.get-s.ensures c.get-key.ensures (ap (λ (x : ℕ). x + c.args.rib) (q-is)) run.run_moved _ _ _ c.drop_tied.ensures c.requires.older_ready _ _ _ _ c.requires.kept run.cached_after;
    }
