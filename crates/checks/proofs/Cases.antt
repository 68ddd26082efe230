-- Proofs by the two answers of a test.
-- Where the proof needs what an answer says of the test, each answer is a function of it, so that the proof may call itself in each.
use mathlib.Core.Path.{◌≡◌, refl}
use mathlib.Core.Bool.{Bool, true, false, cond}

pub by_test : {C : Type 0} (t : Bool) → (t ≡ true → C) → (t ≡ false → C) → C
by_test true f g = f refl
by_test false f g = g refl

-- What holds of two values holds of the one that a test chooses.
pub cond_holds : {A : Type 0} (P : A → Type 0) (t : Bool) (x y : A) → P x → P y → P (cond t x y)
cond_holds P true x y p q = p
cond_holds P false x y p q = q
