-- How a list of records is built at a head, from its last record to its first. No public contract cites it.
use Rattle.std.specs.Prelude.{◌≡◌, List, [], ◌∷◌, ℕ, ◌+◌, ◌%◌, ◌^◌, ◌≤◌, ◌<◌, length}
use Rattle.arena.specs.Arena.{word, level, m_word, p_word, forward, adjust, forward_at, adjust_at}
use Rattle.arena.specs.inside.Chain.{Has, put, Away, trues, Same}
use Rattle.arena.specs.inside.Built.{Built}
use Rattle.arena.specs.inside.Backs.{BacksKept}

-- Link k of record r before what follows the head h: r takes the head's forward, and the head's forward is r.
unfoldable pub hook1 : List ℕ → ℕ → ℕ → ℕ → List ℕ
hook1 a h r k = put (put (put a r (forward_at + k) (forward a h k)) r (adjust_at + k) 0) h (forward_at + k) r

-- The arena b is a with the links of record r from l up to n put before what follows the head h. The adjust of link 0 need not be 0, since it counts for no true p.
pub record Hooked (l n : ℕ) (a : List ℕ) (h r : ℕ) (b : List ℕ) : Type 0 where
  pub long : length b ≡ length a
  pub outside : (x : ℕ) → (x ≡ h → ⊥) → (x ≡ r → ⊥) → Same a b x
  pub low : (x j : ℕ) → j < forward_at → word b x j ≡ word a x j
  pub head_new : (k : ℕ) → l ≤ k → k < n → forward b h k ≡ r
  pub head_old : (k : ℕ) → (l ≤ k → k < n → ⊥) → k < 8 → forward b h k ≡ forward a h k
  pub head_adjust : (k : ℕ) → k < 8 → adjust b h k ≡ adjust a h k
  pub new_forward : (k : ℕ) → l ≤ k → k < n → forward b r k ≡ forward a h k
  pub new_adjust : (k : ℕ) → 1 ≤ k → l ≤ k → k < n → adjust b r k ≡ 0
  pub old_forward : (k : ℕ) → k < l → k < 8 → forward b r k ≡ forward a r k
  pub old_adjust : (k : ℕ) → k < l → k < 8 → adjust b r k ≡ adjust a r k
  pub backs_kept : BacksKept a b

-- The arena has the head h and another record r, whose number fits a word.
pub record Hookable (a : List ℕ) (h r : ℕ) : Type 0 where
  pub head_has : Has a h
  pub has : Has a r
  pub apart : r ≡ h → ⊥
  pub fits : r < 4_294_967_296

-- The record r can stand before the records rs of the head h.
pub record Fresh (a : List ℕ) (h r : ℕ) (rs : List ℕ) : Type 0 where
  pub some : 1 ≤ r
  pub has : Has a r
  pub low : 1 ≤ level a r
  pub high : level a r ≤ 8
  pub apart : r ≡ h → ⊥
  pub away : Away r rs

-- The arena b is a with record r put before the records rs, the list of the head h.
pub record Prepended (a : List ℕ) (h r : ℕ) (rs : List ℕ) (b : List ℕ) : Type 0 where
  pub long : length b ≡ length a
  pub outside : (x : ℕ) → (x ≡ h → ⊥) → (x ≡ r → ⊥) → Same a b x
  pub low : (x j : ℕ) → j < forward_at → word b x j ≡ word a x j
  pub built : Built b h (r ∷ rs)
  pub true_ps : trues b (λ k. 0) (r ∷ rs) ≡ (p_word a r % 2 ^ 32) ∷ trues a (λ k. 0) rs

-- The arena b is a with record h made the head of an empty list.
pub record Cleared (a : List ℕ) (h : ℕ) (b : List ℕ) : Type 0 where
  pub long : length b ≡ length a
  pub outside : (x : ℕ) → (x ≡ h → ⊥) → Same a b x
  pub floor : m_word b h ≡ 0
  pub built : Built b h []
