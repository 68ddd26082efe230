-- Each level is at least 1 and at most the top level, and the top level is at least 1, and at most 8 for at most 512 sizes.
-- An uncut level counts from 1 and the cut is a minimum; the top level is 1, or from 32 sizes on the largest k, which is not below 1 since 8 times 4 is at most n.
use mathlib.Core.Bool.{cond}
use mathlib.Core.Logic.{◌⊎◌, inl, inr, ⊎_elim}
use Prim.Native.Nat.{ℕ, zero, suc, ◌+◌, ◌*◌, ◌^◌, ◌≤◌, ◌<◌}
use native.Mathlib.Omega.{arith}
use lib.Dec.{leb, ltb}
use lib.ListN.{get_or}
use borrow.Author.Tests.{le-leb, lt-ltb, le-ltb}
use Rattle.checks.proofs.Cases.{cond_holds}
use Rattle.levels.specs.Levels.{uncut_level, largest_power, top_level, levels_from}
use Rattle.levels.proofs.Sequence.{level_at}
use Rattle.levels.proofs.TopLevel.{below_or_not, top_shallow, top_one, top_two, top_three}

pub uncut_least : (r : ℕ) → 1 ≤ uncut_level r
unfolding uncut_level
uncut_least r = omega arith

-- Each of the levels, at its place.
pub level_range : (top r count i : ℕ) → 1 ≤ top → i < count → (1 ≤ get_or (levels_from top r count) i 0) × (get_or (levels_from top r count) i 0 ≤ top)
level_range top r count i h within = rw (level_at top r count i within) (omega (arith, uncut_least (r + i)), omega arith)

largest_least : (bound n : ℕ) → 1 ≤ bound → 32 ≤ n → 1 ≤ largest_power bound n
unfolding largest_power
largest_least zero n h many = h
largest_least (suc zero) n h many = simp (le-leb 32 n many) (omega arith)
largest_least (suc (suc bound)) n h many =
    cond_holds (λ (k : ℕ). 1 ≤ k) (leb (8 * 4 ^ suc (suc bound)) n) (suc (suc bound)) (largest_power (suc bound) n) (omega arith)
    (largest_least (suc bound) n (omega arith) many)

pub top_least : (n d e : ℕ) → 1 ≤ top_level n d e
unfolding top_level
top_least n d e =
    cond_holds (λ (k : ℕ). 1 ≤ k) (leb e (2 * d)) 1 (cond (ltb n 32) 1 (largest_power n n)) (omega arith)
    (⊎_elim
    (λ few. simp (lt-ltb n 32 few) (omega arith))
    (λ many. simp (le-ltb n 32 many) (largest_least n n (omega arith) many))
    (below_or_not n 32))

pub top_most : (n d e : ℕ) → n ≤ 512 → top_level n d e ≤ 8
top_most n d e h = by (below_or_not (2 * d) e) (below_or_not n 128) (below_or_not n 512)
  where
    by : (2 * d < e) ⊎ (e ≤ 2 * d) → (n < 128) ⊎ (128 ≤ n) → (n < 512) ⊎ (512 ≤ n) → top_level n d e ≤ 8
    by (inr shallow) n128 n512 = omega (arith, top_shallow n d e shallow)
    by (inl deep) (inl under) n512 = omega (arith, top_one n d e deep under)
    by (inl deep) (inr many) (inl under) = omega (arith, top_two n d e deep many under)
    by (inl deep) (inr many) (inr full) = omega (arith, top_three n d e deep full h)

-- So each level is one that a record can have, 1 to 8.
pub level_fits : (top r count i : ℕ) → 1 ≤ top → top ≤ 8 → i < count → (1 ≤ get_or (levels_from top r count) i 0) × (get_or (levels_from top r count) i 0 ≤ 8)
level_fits top r count i low high within =
    let both : (1 ≤ get_or (levels_from top r count) i 0) × (get_or (levels_from top r count) i 0 ≤ top) = level_range top r count i low within in
    (both.0, omega arith)
