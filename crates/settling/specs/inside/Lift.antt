-- What raising a stretch of a list by v at link k does: each record with link k has its p and its adjust k raised, so that with the sum of link k raised on entering, every true p of the stretch is raised by v. Link 0 counts for no true p, and its adjusts are not said. No public contract cites it.
use Rattle.std.specs.Prelude.{◌≡◌, ℕ, suc, ◌<◌, ◌≤◌, cond, List, [], ◌∷◌, length, ◌≢◌, nat_lt}
use Rattle.checks.specs.Limits.{most_sizes}
use Rattle.arena.specs.Arena.{level, p_word, forward, adjust}
use Rattle.arena.specs.inside.Chain.{Has, wrap, All, Away, Same, Shape}
use Rattle.arena.specs.inside.Backs.{BacksKept}

-- The first record of rs with link k, or stop.
unfoldable pub next_or : List ℕ → ℕ → ℕ → List ℕ → ℕ
next_or a k stop [] = stop
next_or a k stop (r ∷ rs) = cond (nat_lt k (level a r)) r (next_or a k stop rs)

-- A record of a stretch in which none has link k + 1, before the records rs and stop.
pub record Within (a : List ℕ) (k stop r : ℕ) (rs : List ℕ) : Type 0 where
  pub has : Has a r
  pub low : 1 ≤ level a r
  pub high : level a r ≤ suc k
  pub link : k < level a r → forward a r k ≡ next_or a k stop rs
  pub not_stop : r ≡ stop → ⊥
  pub away : Away r rs

abbrev pub Stretch : List ℕ → ℕ → ℕ → List ℕ → Type 0
Stretch a k stop [] = Unit {0}
Stretch a k stop (r ∷ rs) = Within a k stop r rs × Stretch a k stop rs

-- One record of the stretch, raised where it has link k and untouched where it has not.
pub record Lifted (a b : List ℕ) (k v r : ℕ) : Type 0 where
  pub p_up : k < level a r → p_word b r ≡ wrap (p_word a r) v
  pub adjust_up : 1 ≤ k → k < level a r → adjust b r k ≡ wrap (adjust a r k) v
  pub adjust_other : (j : ℕ) → j < 8 → (j ≢ k) → adjust b r j ≡ adjust a r j
  pub untouched : level a r ≤ k → Same a b r

pub record Lifting (a b : List ℕ) (k v : ℕ) (rs : List ℕ) : Type 0 where
  pub length_kept : length b ≡ length a
  pub shape : (x : ℕ) → Shape a b x
  pub backs_kept : BacksKept a b
  pub outside : (x : ℕ) → Away x rs → Same a b x
  pub each : All (Lifted a b k v) rs

-- The stretch rs, whose first record with link k is `first`, or stop.
pub record Chained (a : List ℕ) (k first stop : ℕ) (rs : List ℕ) : Type 0 where
  pub first_is : first ≡ next_or a k stop rs
  pub stretch : Stretch a k stop rs
  pub few : length rs ≤ most_sizes
