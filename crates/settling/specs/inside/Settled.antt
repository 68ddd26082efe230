-- What settling the front of a list does: the front is to be entered with the sums of another list's last records, and each of its true p is raised by q, while links, levels and m stay. No public contract cites it.
use Rattle.std.specs.Prelude.{◌≡◌, ℕ, ◌-◌, ◌≤◌, List, ◌++◌, map, length, slice_index_or}
use Rattle.checks.specs.Limits.{most_sizes}
use Rattle.arena.specs.Arena.{level, adjust}
use Rattle.arena.specs.Lazy.{last_with}
use Rattle.arena.specs.inside.Chain.{wrap, All, Away, Linked, trues, Same, Shape}
use Rattle.arena.specs.inside.Backs.{BacksKept}
use Rattle.splicing.specs.inside.Open.{last_sums}

-- The sums of a head.
abbrev pub head_sums : List ℕ → ℕ → ℕ → ℕ
head_sums a head k = adjust a head k

-- The front of a list can be settled: n is the most links that one of its records has, and `cut` has the last one with the highest link.
pub record Ready (a : List ℕ) (head n : ℕ) (cut front back : List ℕ) : Type 0 where
  pub linked : Linked a head (front ++ back)
  pub some : 1 ≤ n
  pub most : n ≤ 8
  pub lower : All (λ x. level a x ≤ n) front
  pub long : 8 ≤ length cut
  pub cut_at : slice_index_or cut (n - 1) 0 ≡ last_with a (n - 1) head front
  pub cut_in : slice_index_or cut (n - 1) 0 ≡ head → ⊥
  pub few : length (front ++ back) ≤ most_sizes

-- Settled with the sums of the records `ends`.
pub record Settled (a b : List ℕ) (head q : ℕ) (ends front : List ℕ) : Type 0 where
  pub length_kept : length b ≡ length a
  pub shape : (x : ℕ) → Shape a b x
  pub backs_kept : BacksKept a b
  pub outside : (x : ℕ) → Away x front → Same a b x
  pub values : trues b (last_sums a ends) front ≡ map (λ (t : ℕ). wrap t q) (trues a (head_sums a head) front)
