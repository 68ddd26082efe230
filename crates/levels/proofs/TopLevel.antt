-- The top level of at most 512 sizes by comparisons: 1 where 2D is at least E, else 1 below 128 sizes, 2 below 512, and 3 at 512.
-- It holds because 8 times 4^k is 32, 128, 512 and 2,048 for k from 1 to 4, and the powers only rise, so no larger k comes in.
use mathlib.Core.Path.{◌≡◌, refl, sym}
use mathlib.Core.Bool.{Bool, true, false}
use mathlib.Core.Logic.{◌⊎◌, inl, inr, ⊎_elim}
use Prim.Native.Nat.{ℕ, zero, suc, ◌*◌, ◌^◌, ◌≤◌, ◌<◌}
use native.Mathlib.Nat.{pow-le-pow_right, eq-or-lt_of_le}
use native.Mathlib.Omega.{arith}
use lib.Dec.{ltb}
use borrow.Author.Tests.{ltb-true, ltb-false, le-leb, lt-leb, lt-ltb, le-ltb}
use Rattle.levels.specs.Levels.{largest_power, top_level}

pub below_or_not : (m n : ℕ) → (m < n) ⊎ (n ≤ m)
below_or_not m n = by (ltb m n) refl
  where
    by : (b : Bool) → ltb m n ≡ b → (m < n) ⊎ (n ≤ m)
    by true t = inl (ltb-true m n t)
    by false t = inr (ltb-false m n t)

-- Where k is the largest and the bound does not leave it out, it is found.
largest_is : (bound n k : ℕ) → k ≤ bound → 8 * 4 ^ k ≤ n → n < 8 * 4 ^ suc k → largest_power bound n ≡ k
unfolding largest_power
largest_is zero n k fits reached passed = omega arith
largest_is (suc bound) n k fits reached passed = by (eq-or-lt_of_le fits) (largest_is bound n k)
  where
    by : (k ≡ suc bound) ⊎ (k < suc bound) → (k ≤ bound → 8 * 4 ^ k ≤ n → n < 8 * 4 ^ suc k → largest_power bound n ≡ k) → largest_power (suc bound) n ≡ k
    by (inl e) below =
        let here : 8 * 4 ^ suc bound ≤ n = rw e at reached in
        simp (le-leb (8 * 4 ^ suc bound) n here) (sym e)
    by (inr h) below =
        let rises : 4 ^ suc k ≤ 4 ^ suc bound = pow-le-pow_right (omega arith) (omega arith) in
        simp (lt-leb (8 * 4 ^ suc bound) n (omega arith)) (below (omega arith) reached passed)

module _ (n d e : ℕ) where
  pub top_shallow : e ≤ 2 * d → 1 ≡ top_level n d e
  unfolding top_level
  top_shallow h = simp (le-leb e (2 * d) h)

  top_few : 2 * d < e → n < 32 → 1 ≡ top_level n d e
  unfolding top_level
  top_few h few = simp (lt-leb e (2 * d) h, lt-ltb n 32 few)

  -- From 32 sizes on, it is the k for which n has reached 8 times 4^k and not the next power.
  top_power : (k : ℕ) → 2 * d < e → 32 ≤ n → k ≤ n → 8 * 4 ^ k ≤ n → n < 8 * 4 ^ suc k → k ≡ top_level n d e
  unfolding top_level
  top_power k h many fits reached passed =
      simp (lt-leb e (2 * d) h, le-ltb n 32 many) (sym (largest_is n n k fits reached passed))

  pub top_one : 2 * d < e → n < 128 → 1 ≡ top_level n d e
  top_one h under = ⊎_elim (λ few. top_few h few) (λ many. top_power 1 h many (omega arith) many under) (below_or_not n 32)

  pub top_two : 2 * d < e → 128 ≤ n → n < 512 → 2 ≡ top_level n d e
  top_two h many under = top_power 2 h (omega arith) (omega arith) many under

  pub top_three : 2 * d < e → 512 ≤ n → n ≤ 512 → 3 ≡ top_level n d e
  top_three h many most = top_power 3 h (omega arith) (omega arith) many (omega arith)

pub ruleset by_comparisons = (top_shallow, top_one, top_two, top_three)
