-- Laws of sums over links: a sum of no links, of one link more, of links parted in two, and of functions that agree.
-- Each goes by the number of links, and a link below the first adds nothing.
use Rattle.std.proofs.Common.{◌≡◌, ℕ, zero, suc, ◌+◌, ◌%◌, ◌^◌, ◌<◌, ◌≤◌, Bool, true, false, cond, leb, sym, refl, ap, ◌∙◌, ap₂, arith, le-leb}
use borrow.Author.Tests.{lt-leb}
use Rattle.arena.specs.Lazy.{sum_from}
use Rattle.arena.proofs.Cases.{lt_or_ge}

pub sum_none : (f : ℕ → ℕ) (l n : ℕ) → n ≤ l → sum_from f l n ≡ 0
unfolding sum_from
sum_none f l zero p = refl
sum_none f l (suc n) p =
    let below = sum_none f l n (omega arith) in
    ap (λ (t : Bool). sum_from f l n + cond t (f n) 0) (lt-leb l n p) ∙ omega arith

pub sum_more : (f : ℕ → ℕ) (l n : ℕ) → l ≤ n → sum_from f l (suc n) ≡ sum_from f l n + f n
unfolding sum_from
sum_more f l n p = ap (λ (t : Bool). sum_from f l n + cond t (f n) 0) (le-leb l n p)

-- A sum over the links from l up to n is that up to m and that from m on.
pub sum_split : (f : ℕ → ℕ) (l m n : ℕ) → l ≤ m → m ≤ n → sum_from f l n ≡ sum_from f l m + sum_from f m n
sum_split f l m zero low high = omega (arith, sum_none f l zero (omega arith), sum_none f m zero (omega arith), sum_none f l m (omega arith))
sum_split f l m (suc n) low high =
    lt_or_ge n m
    (λ p.
    let same : m ≡ suc n = omega arith in
    let none : sum_from f m (suc n) ≡ 0 = sum_none f m (suc n) (omega arith) in
    ap (sum_from f l) (sym same) ∙ omega arith)
    (λ p. omega (arith, sum_more f l n (omega arith), sum_more f m n p, sum_split f l m n low p))

-- The first of the links taken apart.
pub sum_first : (f : ℕ → ℕ) (l n : ℕ) → l < n → sum_from f l n ≡ f l + sum_from f (suc l) n
sum_first f l n p =
    omega (arith, sum_split f l (suc l) n (omega arith) p, sum_more f l l (omega arith), sum_none f l l (omega arith))

-- A sum over the links from l up to n reads its function there alone.
pub sum_agree : (f g : ℕ → ℕ) (l n : ℕ) → ((k : ℕ) → l ≤ k → k < n → g k ≡ f k) → sum_from g l n ≡ sum_from f l n
unfolding sum_from
sum_agree f g l zero e = refl
sum_agree f g l (suc n) e =
    lt_or_ge n l (λ p. ap₂ ◌+◌ (sum_agree f g l n (λ k low high. e k low (omega arith))) (simp (lt-leb l n p)))
    (λ p.
    ap₂ ◌+◌ (sum_agree f g l n (λ k low high. e k low (omega arith))) (ap (λ (x : ℕ). cond (leb l n) x 0) (e n p (omega arith))))

pub sum_frame : (f g : ℕ → ℕ) (l n : ℕ) → ((k : ℕ) → k < n → g k ≡ f k) → sum_from g l n ≡ sum_from f l n
sum_frame f g l n e = sum_agree f g l n (λ k low high. e k high)

pub sum_zero : (l n : ℕ) → sum_from (λ k. 0) l n ≡ 0
unfolding sum_from
sum_zero l zero = refl
sum_zero l (suc n) = ap₂ (λ (x : ℕ) (y : ℕ). x + y) (sum_zero l n) (none (leb l n))
  where
    none : (t : Bool) → ◌≡◌ {A = ℕ} (cond t 0 0) 0
    none true = refl
    none false = refl

-- What is equal modulo 2 ^ 32 is so with a number added.
pub add_both : (c x y : ℕ) → x % 2 ^ 32 ≡ y % 2 ^ 32 → (c + x) % 2 ^ 32 ≡ (c + y) % 2 ^ 32
add_both c x y e = omega arith
