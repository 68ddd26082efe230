-- A number below ten is one digit, any other is the digits of its tenth and then its last.
-- The count of divisions that the definition carries does not matter from the number on, since a tenth of a number is smaller.
use mathlib.Core.Path.{◌≡◌, refl, sym, ap, ◌∙◌}
use mathlib.Core.Bool.{Bool, true, false}
use mathlib.Core.List.{List, [], ◌∷◌, ◌++◌}
use Prim.Native.Nat.{ℕ, zero, suc, ◌/◌, ◌%◌, ◌≤◌, ◌<◌}
use native.Mathlib.Omega.{arith}
use lib.Dec.{ltb}
use borrow.Author.Tests.{ltb-true, ltb-false, lt-ltb, le-ltb}
use Rattle.text.specs.Decimal.{digit, decimal_by, decimal}

-- A proof by the two rules. The cases are functions, so that a proof that goes by them may call itself in each.
pub small_or_large : {C : Type 0} (n : ℕ) → (n < 10 → C) → (10 ≤ n → C) → C
small_or_large {C} n small large = by (ltb n 10) refl
  where
    by : (t : Bool) → ltb n 10 ≡ t → C
    by true e = small (ltb-true n 10 e)
    by false e = large (ltb-false n 10 e)

by_small : (k n : ℕ) → n < 10 → decimal_by k n ≡ digit n ∷ []
unfolding decimal_by
by_small zero n low = refl
by_small (suc k) n low = rw (lt-ltb n 10 low, decimal_by)

by_large : (k n : ℕ) → 10 ≤ n → decimal_by (suc k) n ≡ decimal_by k (n / 10) ++ (digit (n % 10) ∷ [])
unfolding decimal_by
by_large k n high = rw (le-ltb n 10 high, decimal_by)

by_same : (j k n : ℕ) → n ≤ j → n ≤ k → decimal_by j n ≡ decimal_by k n
by_same zero k n u v = by_small zero n (omega arith) ∙ sym (by_small k n (omega arith))
by_same (suc j) zero n u v = by_small (suc j) n (omega arith) ∙ sym (by_small zero n (omega arith))
by_same (suc j) (suc k) n u v =
    small_or_large n
    (λ low. by_small (suc j) n low ∙ sym (by_small (suc k) n low))
    (λ high. by_large j n high
    ∙ ap (λ (l : List ℕ). l ++ (digit (n % 10) ∷ [])) (by_same j k (n / 10) (omega arith) (omega arith))
    ∙ sym (by_large k n high))

pub decimal_small : (n : ℕ) → n < 10 → decimal n ≡ digit n ∷ []
unfolding decimal
decimal_small n low = by_small n n low

pub decimal_large : (n : ℕ) → 10 ≤ n → decimal n ≡ decimal (n / 10) ++ (digit (n % 10) ∷ [])
unfolding decimal
decimal_large zero high = absurd (omega arith)
decimal_large (suc k) high =
    by_large k (suc k) high
    ∙ ap (λ (l : List ℕ). l ++ (digit (suc k % 10) ∷ [])) (by_same k (suc k / 10) (suc k / 10) (omega arith) (omega arith))
