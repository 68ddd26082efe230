-- How a list of records stands in an arena, for the contracts of the functions that change one. No public contract cites it.
use Rattle.std.specs.Prelude.{◌≡◌, ℕ, ◌+◌, ◌*◌, ◌%◌, ◌^◌, ◌<◌, ◌≤◌, cond, List, [], ◌∷◌, length, ◌≢◌, nat_lt, slice_set}
use Rattle.arena.specs.Arena.{stride, word, level, m_word, p_word, forward, adjust}
use Rattle.arena.specs.Lazy.{next_with, sum_from}

-- The arena has all words of record r.
abbrev pub Has : List ℕ → ℕ → Type 0
Has a r = stride * r + stride ≤ length a

-- The arena with word j of record r set to v.
unfoldable pub put : List ℕ → ℕ → ℕ → ℕ → List ℕ
put a r j v = slice_set a (stride * r + j) v

-- A sum of two words, modulo 4,294,967,296.
unfoldable pub wrap : ℕ → ℕ → ℕ
wrap x y = (x + y) % 2 ^ 32

abbrev pub All : (ℕ → Type 0) → List ℕ → Type 0
All P [] = Unit {0}
All P (r ∷ rs) = P r × All P rs

-- r is none of rs.
abbrev pub Away : ℕ → List ℕ → Type 0
Away r rs = All (λ x. x ≢ r) rs

-- A list is closed, or it is open and grows: the forward k of its last record with link k is not set yet.
pub data Ending : Type 0 where
  closed : Ending
  growing : Ending

-- A forward is right before the next record with its link, which is 0 where there is none.
abbrev pub Right : Ending → (forward next : ℕ) → Type 0
Right closed forward next = forward ≡ next
Right growing forward next = 1 ≤ next → forward ≡ next

-- The forwards of r, up to its level, are right before the records rs.
pub record LinksOf (e : Ending) (a : List ℕ) (r : ℕ) (rs : List ℕ) : Type 0 where
  pub at : (k : ℕ) → k < level a r → Right e (forward a r k) (next_with a k rs)

-- A record of a list, before the records rs.
pub record MemberOf (e : Ending) (a : List ℕ) (r : ℕ) (rs : List ℕ) : Type 0 where
  pub some : 1 ≤ r
  pub has : Has a r
  pub low : 1 ≤ level a r
  pub high : level a r ≤ 8
  pub links : LinksOf e a r rs
  pub away : Away r rs

abbrev pub ChainOf : Ending → List ℕ → List ℕ → Type 0
ChainOf e a [] = Unit {0}
ChainOf e a (r ∷ rs) = MemberOf e a r rs × ChainOf e a rs

-- The records rs are the list of the head h.
pub record LinkedOf (e : Ending) (a : List ℕ) (h : ℕ) (rs : List ℕ) : Type 0 where
  pub has : Has a h
  pub top : level a h ≡ 8
  pub links : LinksOf e a h rs
  pub away : Away h rs
  pub chain : ChainOf e a rs

-- The same of a closed list.
abbrev pub Links : List ℕ → ℕ → List ℕ → Type 0
Links = LinksOf closed

abbrev pub Member : List ℕ → ℕ → List ℕ → Type 0
Member = MemberOf closed

abbrev pub Chain : List ℕ → List ℕ → Type 0
Chain = ChainOf closed

abbrev pub Linked : List ℕ → ℕ → List ℕ → Type 0
Linked = LinkedOf closed

-- True p by running sums: acc k is adjust k of the last record with link k before r.
unfoldable pub p_under : List ℕ → (ℕ → ℕ) → ℕ → ℕ
p_under a acc r = (p_word a r + sum_from acc (level a r) 8) % 2 ^ 32

-- The sums after record r: its own adjusts up to its level.
unfoldable pub after : List ℕ → (ℕ → ℕ) → ℕ → ℕ → ℕ
after a acc r k = cond (nat_lt k (level a r)) (adjust a r k) (acc k)

-- The true p of each record of rs, entered with the sums acc.
unfoldable pub trues : List ℕ → (ℕ → ℕ) → List ℕ → List ℕ
trues a acc [] = []
trues a acc (r ∷ rs) = p_under a acc r ∷ trues a (after a acc r) rs

-- The sums that leave rs.
unfoldable pub leaving : List ℕ → (ℕ → ℕ) → List ℕ → ℕ → ℕ
leaving a acc [] = acc
leaving a acc (r ∷ rs) = leaving a (after a acc r) rs

-- What is left as it was: all words of record x; its level, m and forwards; its level, p and adjusts.
pub record Same (a b : List ℕ) (x : ℕ) : Type 0 where
  pub at : (j : ℕ) → j < stride → word b x j ≡ word a x j

pub record Shape (a b : List ℕ) (x : ℕ) : Type 0 where
  pub level_kept : level b x ≡ level a x
  pub m_kept : m_word b x ≡ m_word a x
  pub forward_kept : (k : ℕ) → k < 8 → forward b x k ≡ forward a x k

pub record Value (a b : List ℕ) (x : ℕ) : Type 0 where
  pub level_kept : level b x ≡ level a x
  pub p_kept : p_word b x ≡ p_word a x
  pub adjust_kept : (k : ℕ) → k < 8 → adjust b x k ≡ adjust a x k
