-- How many bytes numbers, fields and named numbers take: a number below 10^k has at most k digits.
-- A number from ten on has one digit more than its tenth, and the parts of a field follow one another.
use mathlib.Core.Path.{◌≡◌, ap, ◌∙◌}
use mathlib.Core.List.{List, [], ◌∷◌}
use Prim.Native.Nat.{ℕ, zero, suc, ◌+◌, ◌/◌, ◌%◌, ◌^◌, ◌≤◌, ◌<◌}
use native.Mathlib.Nat.{pow-suc}
use native.Mathlib.Omega.{arith}
use lib.ListN.{length, length-append}
use Rattle.text.specs.Decimal.{digit, decimal}
use Rattle.text.specs.Fields.{field, named}
use Rattle.text.proofs.Decimals.{small_or_large, decimal_small, decimal_large}

pub decimal_short : (n : ℕ) → n < 10 → length (decimal n) ≡ 1
decimal_short n low = ap length (decimal_small n low)

pub decimal_longer : (n : ℕ) → 10 ≤ n → length (decimal n) ≡ length (decimal (n / 10)) + 1
decimal_longer n high = ap length (decimal_large n high) ∙ length-append (decimal (n / 10)) (digit (n % 10) ∷ [])

-- There is always one digit, so k is not 0.
pub decimal_few : (k n : ℕ) → 1 ≤ k → n < 10 ^ k → length (decimal n) ≤ k
decimal_few zero n some low = absurd (omega arith)
decimal_few (suc zero) n some low = omega (arith, decimal_short n low)
decimal_few (suc (suc k)) n some low =
    small_or_large n
    (λ small. omega (arith, decimal_short n small))
    (λ large.
    let ten = pow-suc 10 (suc k) in
    let tenth = decimal_few (suc k) (n / 10) (omega arith) (omega arith) in
    omega (arith, decimal_longer n large))

pub field_length : (n end : ℕ) → length (field n end) ≡ length (decimal n) + 1
unfolding field
field_length n end = length-append (decimal n) (end ∷ [])

pub field_few : (k n end : ℕ) → 1 ≤ k → n < 10 ^ k → length (field n end) ≤ k + 1
field_few k n end some low = omega (arith, field_length n end, decimal_few k n some low)

pub named_length : (words : List ℕ) (n end : ℕ) → length (named words n end) ≡ length words + length (field n end)
unfolding named
named_length words n end = length-append words (field n end)

pub named_few : (k : ℕ) (words : List ℕ) (n end : ℕ) → 1 ≤ k → n < 10 ^ k → length (named words n end) ≤ length words + (k + 1)
named_few k words n end some low = omega (arith, named_length words n end, field_few k n end some low)
