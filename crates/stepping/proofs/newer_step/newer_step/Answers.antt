-- `stepping::newer_step::newer_step` meets its contract: the merge is further on, by a run of the newer list.
-- Its key is one above the m of the older list's first record, so that the newer records above that m move, and `NewerStep` says what they do to the merge and to the sums kept.
use mathlib.Core.Path.{◌≡◌, ap}
use Prim.Native.Nat.{ℕ, ◌+◌}
use borrow.Author.Rules.{rules}
use Rattle.arena.specs.Arena.{adjust}
use Rattle.arena.specs.inside.Chain.{p_under}
use Rattle.stepping.proofs.NewerStep.{newer_has, newer_room, newer_fits, newer_movable, newer_summable, newer_cached, newer_kept, newer_done}
use Rattle.stepping.proofs.newer_step.newer_step.Goals as goal

pub get-key-requires : goal.get-key-requires
get-key-requires c = (newer_has _ _ _ _ _ _ c.requires.newer_ready c.get-r.ensures, search rules)

pub overflow_add-key : goal.overflow_add-key
overflow_add-key c =
    record { fits = newer_room _ _ _ _ _ _ c.requires.newer_ready c.get-r.ensures _ c.get-key.ensures }

pub true_p-requires : goal.true_p-requires
true_p-requires c = newer_summable _ _ _ _ _ _ c.requires.newer_ready c.get-r.ensures _ _ _ c.requires.kept

pub overflow_add-q : goal.overflow_add-q
overflow_add-q c =
    let q-is : c.true_p.result ≡ p_under c.args.arena.now (adjust c.args.arena.now c.args.older) c.get-r.result = c.true_p.ensures _ c.requires.kept.older in
    record { fits = newer_fits _ _ _ _ _ _ c.requires.newer_ready c.get-r.ensures _ (q-is) }

pub move_run-requires : goal.move_run-requires
move_run-requires c =
    record {
      run_ready = (_, _, _, _, newer_movable _ _ _ _ _ _ c.requires.newer_ready c.get-r.ensures _ c.get-key.ensures);
      cached = newer_cached _ _ _ _ _ _ c.requires.newer_ready c.get-r.ensures _ _ _ c.requires.kept;
    }

pub returns : goal.returns
returns c =
    let q-is : c.true_p.result ≡ p_under c.args.arena.now (adjust c.args.arena.now c.args.older) c.get-r.result = c.true_p.ensures _ c.requires.kept.older in
    let run = c.move_run.ensures in
    record {
      newer_done = newer_done _ _ _ _ _ _ _ _ _ _ c.get-r.ensures c.get-key.ensures (ap (λ (x : ℕ). x + c.args.rib) (q-is)) run.run_moved;
      kept_after = newer_kept _ _ _ _ _ _ c.requires.newer_ready c.get-r.ensures _ _ _ c.requires.kept _ c.get-key.ensures _ _ _ run.run_moved _ _ run.cached_after;
    }
