-- Heights that pass check 23 are at most 256 and fall, "tallest first".
-- Each height is held against the one before it, and the first against a number that no word is above.
use mathlib.Core.Path.{◌≡◌, refl}
use mathlib.Core.Bool.{true, ◌&&◌, and-true, and-eq-true_iff}
use mathlib.Core.List.{List, [], ◌∷◌}
use Prim.Native.Nat.{ℕ, ◌-◌, ◌^◌, ◌≤◌, ◌<◌}
use native.Mathlib.Omega.{arith}
use lib.ListN.{length, get_or}
use lib.Dec.{leb}
use borrow.Author.Tests.{leb-true, le-leb}
use Rattle.checks.specs.declared.Check.TheVariants.{Heights}
use Rattle.checks.specs.Limits.{most_heights}
use Rattle.checks.specs.Answer.{taken}
use Rattle.checks.proofs.Answers.{ask_taken}
use Rattle.walking.specs.Walk.{FallsFrom, Falls}
use Rattle.catalogue.specs.Heights.{fall_from, fall, heights_given}

-- The first has none before it, and no word is above this number.
pub fall_first : (heights : List ℕ) → get_or heights 0 0 < 2 ^ 32 → fall heights ≡ fall_from (2 ^ 32 - 1) heights
fall_first [] fits = refl
fall_first (h ∷ heights) fits = simp (le-leb h (2 ^ 32 - 1) (omega arith), and-true)

falls_from : (h : ℕ) (heights : List ℕ) → fall_from h heights ≡ true → FallsFrom h heights
falls_from h [] e = tt
falls_from h (k ∷ heights) e =
    let both = (and-eq-true_iff (leb 1 k && leb k h) (fall_from k heights)).0 e in
    let own = (and-eq-true_iff (leb 1 k) (leb k h)).0 both.0 in
    (leb-true k h own.1, falls_from k heights both.1)

falls_all : (heights : List ℕ) → fall heights ≡ true → Falls heights
falls_all [] e = tt
falls_all (h ∷ heights) e = falls_from h heights ((and-eq-true_iff (leb 1 h) (fall_from h heights)).0 e).1

pub heights_taken : (heights : List ℕ) → heights_given heights ≡ taken tt → (length heights ≤ most_heights) × Falls heights
unfolding heights_given
heights_taken heights e =
    let asked = (ask_taken (leb (length heights) most_heights && fall heights) Heights (taken tt) tt e).0 in
    let both = (and-eq-true_iff (leb (length heights) most_heights) (fall heights)).0 asked in
    (leb-true (length heights) most_heights both.0, falls_all heights both.1)
