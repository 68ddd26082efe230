-- The times that 4 divides r are half the zero bits at r's low end, for every r from 1 to 2^32 - 1.
-- It is by induction on the number of divisions: each takes two of the zeros, and where 4 does not divide r there is at most one, whose half is 0.
use mathlib.Core.Path.{◌≡◌, refl, ap, ◌∙◌}
use Prim.Native.Nat.{ℕ, zero, suc, ◌+◌, ◌/◌, ◌%◌, ◌^◌, ◌≤◌, ◌<◌}
use native.Mathlib.Omega.{arith}
use lib.Count.{count_trailing_zeros}
use lib.Dec.{eqb}
use borrow.Author.Tests.{eqb-true, eqb-false}
use Rattle.checks.proofs.Cases.{by_test}
use Rattle.levels.specs.Levels.{times_four, uncut_level}

-- Where the lowest bit is a zero, the others are those of the half.
zero_bit : (bits r : ℕ) → r % 2 ≡ 0 → count_trailing_zeros (suc bits) r ≡ suc (count_trailing_zeros bits (r / 2))
unfolding count_trailing_zeros
zero_bit bits r e = rw e

one_bit : (bits r : ℕ) → r % 2 ≡ 1 → count_trailing_zeros bits r ≡ 0
unfolding count_trailing_zeros
one_bit zero r e = refl
one_bit (suc bits) r e = rw e

-- Where 4 divides r, its two lowest bits are zeros, and the others are those of the quarter.
two_zeros : (bits r : ℕ) → r % 4 ≡ 0 → count_trailing_zeros (suc (suc bits)) r ≡ suc (suc (count_trailing_zeros bits (r / 4)))
two_zeros bits r e =
    let quarter : r / 2 / 2 ≡ r / 4 = omega arith in
    zero_bit (suc bits) r (omega arith) ∙ ap suc (zero_bit bits (r / 2) (omega arith) ∙ rw quarter)

-- Where it does not, at most one of them is.
one_zero : (bits r : ℕ) → (r % 4 ≡ 0 → ⊥) → count_trailing_zeros (suc bits) r ≤ 1
one_zero bits r other =
    by_test (eqb (r % 2) 0)
    (λ e. let even = eqb-true (r % 2) 0 e in omega (arith, zero_bit bits r even, one_bit bits (r / 2) (omega arith)))
    (λ e. let odd = eqb-false (r % 2) 0 e in omega (arith, one_bit (suc bits) r (omega arith)))

times_zeros : (bound bits r : ℕ) → 1 ≤ r → r ≤ bound → r < 2 ^ bits → times_four bound r ≡ count_trailing_zeros bits r / 2
unfolding times_four
times_zeros zero bits r low fits few = omega arith
times_zeros (suc bound) zero r low fits few = omega arith
times_zeros (suc bound) (suc zero) r low fits few = let one : r ≡ 1 = omega arith in rw one (omega (arith, one_bit 1 1 refl))
times_zeros (suc bound) (suc (suc bits)) r low fits few =
    by_test (eqb (r % 4) 0)
    (λ e.
    let four = eqb-true (r % 4) 0 e in
    let rest = times_zeros bound bits (r / 4) (omega arith) (omega arith) (omega arith) in
    rw (e, times_four) (omega (arith, two_zeros bits r four)))
    (λ e. rw (e, times_four) (omega (arith, one_zero (suc bits) r (eqb-false (r % 4) 0 e))))

pub times_four_zeros : (r : ℕ) → 1 ≤ r → r < 2 ^ 32 → times_four r r ≡ count_trailing_zeros 32 r / 2
times_four_zeros r low few = times_zeros r 32 r low (omega arith) few

-- Document 02, Paper 4: "Take each level from the trailing zero bits of the size number instead." They are halved, and one is added.
pub uncut_zeros : (r : ℕ) → 1 ≤ r → r < 2 ^ 32 → count_trailing_zeros 32 r / 2 + 1 ≡ uncut_level r
unfolding uncut_level
uncut_zeros r low few = omega (arith, times_four_zeros r low few)
