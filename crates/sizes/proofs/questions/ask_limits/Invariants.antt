-- `sizes::questions::ask_limits` meets its contract, for any version but 1.
-- The loop keeps `Checking`, that the sizes from i on answer what all of them do.
use mathlib.Core.Path.{◌≡◌}
use Prim.Native.Nat.{ℕ}
use Rattle.sizes.specs.GaugeSizes.{version_rules}
use Rattle.sizes.proofs.LimitedSizes.{Checking}
use Rattle.sizes.proofs.questions.ask_limits.Given as goal

abbrev pub invariant-loop-i : goal.invariant-loop-i
invariant-loop-i l = (v : ℕ) → (v ≡ 1 → ⊥) → Checking (version_rules v) l.file l.at l.count l.i
