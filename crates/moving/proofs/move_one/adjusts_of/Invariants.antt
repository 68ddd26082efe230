-- `moving::move_one::adjusts_of` meets its contract: word k is the record's adjust k.
-- The loop keeps that those below k are there.
use mathlib.Core.Path.{◌≡◌}
use Prim.Native.Nat.{ℕ, ◌<◌}
use lib.ListN.{length}
use Rattle.arena.specs.Arena.{adjust}
use Rattle.splicing.specs.inside.Open.{cut_sums}
use Rattle.moving.proofs.move_one.adjusts_of.Given as goal

abbrev pub invariant-loop-k : goal.invariant-loop-k
invariant-loop-k l = (8 ≡ length l.adjusts) × ((j : ℕ) → j < l.k → cut_sums l.adjusts j ≡ adjust l.arena l.r j)
