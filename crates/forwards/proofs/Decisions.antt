-- What an answer that decides a fact tells, by the test of the answer that the code made.
-- The answer is yes or no, and the test rules one of the two out.
use Rattle.std.proofs.Common.{◌≡◌, ℕ, Bool, true, false, sym, arith}
use Rattle.forwards.specs.inside.Due.{Decides}

pub no_yes : {P : Type 0} → false ≡ true → P
no_yes e = absurd (let n : ◌≡◌ {A = ℕ} 0 1 = cc in omega arith)

pub decided : (b : Bool) (P : Type 0) → Decides b P → b ≡ true → P
decided true P d e = d
decided false P d e = no_yes e

pub refuted : (b : Bool) (P : Type 0) → Decides b P → b ≡ false → P → ⊥
refuted true P d e = no_yes (sym e)
refuted false P d e = d
