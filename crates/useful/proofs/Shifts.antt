-- A word shifted by four bits loses its last digit, and shifted by four times as many bits it loses so many digits.
-- A shift by four bits divides by 16, and a word of digits divided by 16 is the word without the last digit.
use mathlib.Core.Path.{◌≡◌, sym, ap, ◌∙◌}
use Prim.Native.Nat.{ℕ, zero, suc, ◌+◌, ◌*◌, ◌/◌, ◌^◌, ◌≤◌, ◌<◌}
use native.Mathlib.Nat.{div-one, div-div-eq-div-mul}
use native.Mathlib.Omega.{arith}

-- The words of a series, up to the one of n digits, each of them the next without its last digit.
module _ (word : ℕ → ℕ) (n : ℕ) (before : (i : ℕ) → i < n → word (i + 1) / 16 ≡ word i) where
  pub shifted : (b i : ℕ) → i + b ≤ n → word (i + b) / 2 ^ (4 * b) ≡ word i
  shifted zero i inside =
      let same : i + 0 ≡ i = omega arith in
      ap (λ (k : ℕ). word k / 1) same ∙ div-one (word i)
  shifted (suc b) i inside =
      let longer : i + suc b ≡ i + b + 1 = omega arith in
      let bits : 4 * suc b ≡ suc (suc (suc (suc (4 * b)))) = omega arith in
      let four : 2 ^ suc (suc (suc (suc (4 * b)))) ≡ 16 * 2 ^ (4 * b) = omega arith in
      ap (λ (k : ℕ). word k / 2 ^ (4 * suc b)) longer
      ∙ ap (λ (k : ℕ). word (i + b + 1) / k) (ap (λ (k : ℕ). 2 ^ k) bits ∙ four)
      ∙ sym (div-div-eq-div-mul (word (i + b + 1)) 16 (2 ^ (4 * b)))
      ∙ ap (λ (k : ℕ). k / 2 ^ (4 * b)) (before (i + b) (omega arith))
      ∙ shifted b i (omega arith)
