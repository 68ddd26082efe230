-- Where a list is cut for a key: the records of m at least the key, which are in front since m falls, and the last record with each link among them. No public contract cites it.
use Rattle.std.specs.Prelude.{◌≡◌, ℕ, ◌<◌, ◌≤◌, Bool, cond, ◌&&◌, List, [], ◌∷◌, length, nat_le, slice_index}
use Rattle.checks.specs.Limits.{most_sizes}
use Rattle.arena.specs.Arena.{level, m_word, adjust}
use Rattle.arena.specs.Lazy.{next_with, last_with}
use Rattle.arena.specs.inside.Chain.{Has, All, Linked}

-- The first records of rs, up to the first whose m is below the key.
unfoldable pub front : List ℕ → ℕ → List ℕ → List ℕ
front a key [] = []
front a key (r ∷ rs) = cond (nat_le key (m_word a r)) (r ∷ front a key rs) []

-- The records of rs from the first whose m is below the key on.
unfoldable pub behind : List ℕ → ℕ → List ℕ → List ℕ
behind a key [] = []
behind a key (r ∷ rs) = cond (nat_le key (m_word a r)) (behind a key rs) (r ∷ rs)

-- m falls strictly.
abbrev pub Falling : List ℕ → List ℕ → Type 0
Falling a [] = Unit {0}
Falling a (r ∷ rs) = All (λ x. m_word a x < m_word a r) rs × Falling a rs

-- A list that can be searched. The m of record 0, which is no record of a list, is 0: less than any key, so that a search stops where there is no next record.
pub record Searchable (a : List ℕ) (h : ℕ) (rs : List ℕ) : Type 0 where
  pub linked : Linked a h rs
  pub falling : Falling a rs
  pub few : length rs ≤ most_sizes
  pub floor : m_word a 0 ≡ 0

-- The records in front have n links: each link below n is on one of them, and none from n on.
pub record LinkCount (a : List ℕ) (key : ℕ) (rs : List ℕ) (n : ℕ) : Type 0 where
  pub some : 1 ≤ n
  pub few : n ≤ 8
  pub with_link : (k : ℕ) → k < n → 1 ≤ next_with a k (front a key rs)
  pub lower : All (λ x. level a x ≤ n) (front a key rs)

-- The cut of the list rs of the head h below link n: for each link k the last record with it in front, and its adjust.
pub record CutAt (a : List ℕ) (h key n : ℕ) (rs cut sums : List ℕ) : Type 0 where
  pub long : 8 ≤ length cut
  pub sums_long : 8 ≤ length sums
  pub at : (k : ℕ) → k < n → slice_index cut k ≡ last_with a k h (front a key rs)
  pub sums_at : (k : ℕ) → k < n → slice_index sums k ≡ adjust a (last_with a k h (front a key rs)) k

-- Whether r is a record, and its m is at least the key.
unfoldable pub passes : List ℕ → ℕ → ℕ → Bool
passes a r key = nat_le 1 r && nat_le key (m_word a r)

-- The arena has r, a record or 0 for none, and the m of record 0 is 0.
pub record Reachable (a : List ℕ) (r : ℕ) : Type 0 where
  pub has : Has a r
  pub floor : m_word a 0 ≡ 0
