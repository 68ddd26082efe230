-- How a list is turned: m and p change places and the order reverses. No public contract cites it.
use Rattle.std.specs.Prelude.{◌≡◌, ℕ, ◌≤◌, List, map, reverse, length, ◌≢◌}
use Rattle.checks.specs.Limits.{most_sizes}
use Rattle.arena.specs.Arena.{level, m_word, p_word, adjust, m_at, p_at, forward_at}
use Rattle.arena.specs.inside.Chain.{Has, put, All, Away, Linked, p_under, trues, Same}
use Rattle.arena.specs.inside.Built.{Built}
use Rattle.arena.specs.inside.Backs.{Backed}
use Rattle.building.specs.inside.Building.{Hooked, Hookable}
use Rattle.arena.specs.inside.Sums.{Summable}

-- Record r with its true p as m and its m as p.
unfoldable pub swapped : List ℕ → (ℕ → ℕ) → ℕ → List ℕ
swapped a f r = put (put a r m_at (p_under a f r)) r p_at (m_word a r)

-- The arena b is a with record r, so swapped, before the list of the head h. The head's first forward stands beside the arena: it is `last` at a, and r at b.
abbrev pub TakenOver : List ℕ → (ℕ → ℕ) → ℕ → ℕ → ℕ → List ℕ → Type 0
TakenOver a f h r last b = Hooked 1 (level a r) (put (swapped a f r) r forward_at last) h r b

-- The arena has the head h, and record r, which the sums lead to, can be put before its list.
pub record Turnable1 (a : List ℕ) (h r : ℕ) (sums : List ℕ) : Type 0 where
  pub hookable : Hookable a h r
  pub summable : Summable a r sums

-- The records rs are the list of one head, and the other head is apart from them.
pub record Turnable (a : List ℕ) (from to : ℕ) (rs : List ℕ) : Type 0 where
  pub linked : Linked a from rs
  pub has : Has a to
  pub apart : to ≡ from → ⊥
  pub away : Away to rs
  pub few : length rs ≤ most_sizes

-- The arena b is a with the list rs of one head turned to the list of the other.
pub record Turned (a : List ℕ) (from to : ℕ) (rs b : List ℕ) : Type 0 where
  pub long : length b ≡ length a
  pub outside : (x : ℕ) → (x ≢ to) → Away x rs → Same a b x
  pub built : Built b to (reverse rs)
  pub backed : Backed b to (reverse rs)
  pub levels : All (λ x. level b x ≡ level a x) rs
  pub m_is : map (m_word b) rs ≡ trues a (adjust a from) rs
  pub p_is : map (p_word b) rs ≡ map (m_word a) rs
  pub true_ps : trues b (λ k. 0) (reverse rs) ≡ reverse (map (m_word a) rs)
