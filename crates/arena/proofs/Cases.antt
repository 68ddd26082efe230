-- Proofs by the cases of an order or an equality of two numbers.
-- The cases are functions, so that a proof that goes by them may call itself in each.
use Rattle.std.proofs.Common.{◌≡◌, ℕ, suc, ◌<◌, ◌≤◌, eqb, ltb, arith, ltb-false, ltb-true, eqb-true}
use borrow.Author.Tests.{eqb-false}
use Rattle.checks.proofs.Cases.{by_test}

module _ {C : Type 0} (m n : ℕ) where
  pub lt_or_ge : (m < n → C) → (n ≤ m → C) → C
  lt_or_ge less more = by_test (ltb m n) (λ e. less (ltb-true m n e)) (λ e. more (ltb-false m n e))

  pub eq_or_ne : (m ≡ n → C) → ((m ≡ n → ⊥) → C) → C
  eq_or_ne same other = by_test (eqb m n) (λ e. same (eqb-true m n e)) (λ e. other (eqb-false m n e))

  pub last_or_below : m < suc n → (m ≡ n → C) → (m < n → C) → C
  last_or_below h last below = lt_or_ge below (λ p. last (omega arith))
