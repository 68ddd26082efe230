-- How many unit squares pass a test: of two tests that none passes both of the sum, of a test and its opposite all squares, and of a rectangle its width times its height.
-- Each holds of one number more where it holds of the numbers below it, and of one column more where it holds of the columns before it.
use mathlib.Core.Path.{◌≡◌, refl, ap, ◌∙◌}
use mathlib.Core.Bool.{Bool, true, false, cond, not, ◌&&◌, ◌||◌}
use Prim.Native.Nat.{ℕ, zero, suc, ◌+◌, ◌*◌, ◌-◌, ◌≤◌, min}
use native.Mathlib.Omega.{arith}
use lib.Dec.{leb, ltb}
use borrow.Author.Tests.{leb-true, leb-false, ltb-true, ltb-false}
use Rattle.covering.specs.Covered.{count, squares}

-- No number passes a test that is never passed.
count_none : (n : ℕ) → count n (λ v. false) ≡ 0
unfolding count
count_none zero = refl
count_none (suc n) = let e = count_none n in omega arith

pub squares_none : (wide high : ℕ) → squares wide high (λ u v. false) ≡ 0
unfolding squares
squares_none zero high = refl
squares_none (suc wide) high = let e = squares_none wide high in let o = count_none high in omega arith

-- Either of two tests that nothing passes both of.
either_one : (a b : Bool) → (a ≡ true → b ≡ true → ⊥) → cond (a || b) 1 0 ≡ cond a 1 0 + cond b 1 0
either_one true true h = absurd (h refl refl)
either_one true false h = refl
either_one false true h = refl
either_one false false h = refl

count_either : (n : ℕ) (f g : ℕ → Bool) → ((v : ℕ) → f v ≡ true → g v ≡ true → ⊥) → count n (λ v. f v || g v) ≡ count n f + count n g
unfolding count
count_either zero f g h = refl
count_either (suc n) f g h = let e = count_either n f g h in let o = either_one (f n) (g n) (h n) in omega arith

pub squares_either : (wide high : ℕ) (f g : ℕ → ℕ → Bool) → ((u v : ℕ) → f u v ≡ true → g u v ≡ true → ⊥) → squares wide high (λ u v. f u v || g u v) ≡ squares wide high f + squares wide high g
unfolding squares
squares_either zero high f g h = refl
squares_either (suc wide) high f g h =
    let e = squares_either wide high f g h in let o = count_either high (f wide) (g wide) (h wide) in omega arith

-- A test or its opposite: each number passes one of them.
other_one : (a : Bool) → cond a 1 0 + cond (not a) 1 0 ≡ 1
other_one true = refl
other_one false = refl

count_other : (n : ℕ) (f : ℕ → Bool) → count n f + count n (λ v. not (f v)) ≡ n
unfolding count
count_other zero f = refl
count_other (suc n) f = let e = count_other n f in let o = other_one (f n) in omega arith

pub squares_other : (wide high : ℕ) (f : ℕ → ℕ → Bool) → squares wide high f + squares wide high (λ u v. not (f u v)) ≡ high * wide
unfolding squares
squares_other zero high f = omega arith
squares_other (suc wide) high f = let e = squares_other wide high f in let o = count_other high (f wide) in omega arith

-- The numbers from `from` on that are below `to`.
abbrev pub between : ℕ → ℕ → ℕ → Bool
between from to v = leb from v && ltb v to

between_one : (m from to c : ℕ) → from ≤ to → c + min m from ≡ min m to → (a b : Bool) → leb from m ≡ a → ltb m to ≡ b → c + cond (a && b) 1 0 + min (suc m) from ≡ min (suc m) to
between_one m from to c up h true true e f = let low = leb-true from m e in let high = ltb-true m to f in omega arith
between_one m from to c up h true false e f = let low = leb-true from m e in let high = ltb-false m to f in omega arith
between_one m from to c up h false b e f = let low = leb-false from m e in omega arith

count_min : (m from to : ℕ) → from ≤ to → count m (between from to) + min m from ≡ min m to
unfolding count
count_min zero from to up = omega arith
count_min (suc m) from to up =
    between_one m from to (count m (between from to)) up (count_min m from to up) (leb from m) (ltb m to) refl refl

count_between : (m from to : ℕ) → from ≤ to → to ≤ m → count m (between from to) ≡ to - from
count_between m from to up few = let e = count_min m from to up in omega arith

-- A column, and all columns, of squares that two tests say, of the place across and of the place upward.
column : (high : ℕ) (f : ℕ → Bool) (a : Bool) → count high (λ v. a && f v) ≡ cond a (count high f) 0
unfolding count
column zero f true = refl
column zero f false = refl
column (suc high) f true = refl
column (suc high) f false = let e = column high f false in omega arith

columns : (c : ℕ) (a : Bool) (k n : ℕ) → c ≡ k * n → c + cond a n 0 ≡ (k + cond a 1 0) * n
columns c true k n e = omega arith
columns c false k n e = omega arith

product : (wide high : ℕ) (f g : ℕ → Bool) → squares wide high (λ u v. f u && g v) ≡ count wide f * count high g
unfolding squares count
product zero high f g = omega arith
product (suc wide) high f g =
    ap (λ (c : ℕ). squares wide high (λ u v. f u && g v) + c) (column high g (f wide))
    ∙ columns (squares wide high (λ u v. f u && g v)) (f wide) (count wide f) (count high g) (product wide high f g)

-- A rectangle inside the face.
pub rectangle : (wide high left right lower upper : ℕ) → left ≤ right → right ≤ wide → lower ≤ upper → upper ≤ high → squares wide high (λ u v. between left right u && between lower upper v) ≡ (right - left) * (upper - lower)
rectangle wide high left right lower upper across fits_across upward fits_upward =
    product wide high (between left right) (between lower upper)
    ∙ ap (λ (c : ℕ). c * count high (between lower upper)) (count_between wide left right across fits_across)
    ∙ ap (λ (c : ℕ). (right - left) * c) (count_between high lower upper upward fits_upward)
