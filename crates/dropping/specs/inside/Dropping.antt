-- What the leaving of a list's first record does: the head takes over its forwards and its adjusts, up to its level. No public contract cites it.
use Rattle.std.specs.Prelude.{◌≡◌, List, ◌∷◌, ℕ, zero, suc, ◌+◌, ◌<◌, length}
use Rattle.arena.specs.Arena.{level, m_word, adjust, forward_at, adjust_at, forward}
use Rattle.arena.specs.inside.Chain.{Has, put, Linked, trues, after, Same}
use Rattle.arena.specs.inside.Sums.{Summable, Renewed}

-- Link k of the head h as that of r.
abbrev pub handed : List ℕ → ℕ → ℕ → ℕ → List ℕ
handed a h r k =
    let b = put a h (forward_at + k) (forward a r k) in
    put b h (adjust_at + k) (adjust b r k)

-- The first n links.
unfoldable pub handed_over : ℕ → List ℕ → ℕ → ℕ → List ℕ
handed_over zero a h r = a
handed_over (suc n) a h r = handed (handed_over n a h r) h r n

pub record Dropped (a b : List ℕ) (h r : ℕ) (rs : List ℕ) : Type 0 where
  pub length_kept : length b ≡ length a
  pub linked : Linked b h rs
  pub sums : (k : ℕ) → k < 8 → adjust b h k ≡ after a (adjust a h) r k
  pub values : trues b (adjust b h) rs ≡ trues a (after a (adjust a h) r) rs
  pub level_kept : (x : ℕ) → level b x ≡ level a x
  pub m_kept : (x : ℕ) → m_word b x ≡ m_word a x
  pub outside : (x : ℕ) → (x ≡ h → ⊥) → Same a b x

-- The first record of the head h can leave: r is its number, sums can be renewed by it, and the arena has the record last.
pub record Tied (a : List ℕ) (h r last : ℕ) (sums : List ℕ) : Type 0 where
  pub first : ℕ
  pub rest : List ℕ
  pub linked : Linked a h (first ∷ rest)
  pub summable : Summable a r sums
  pub has : Has a last

-- It has left where the m of last is the key, and the sums are those behind it; else all is as it was.
pub record DroppedTied (a b : List ℕ) (h r last key : ℕ) (sums sums' : List ℕ) : Type 0 where
  pub drops : m_word a last ≡ key → (x : ℕ) (rs : List ℕ) → Linked a h (x ∷ rs) → Dropped a b h x rs
  pub passes : m_word a last ≡ key → Renewed a r sums sums'
  pub stays : (m_word a last ≡ key → ⊥) → b ≡ a
  pub sums_stay : (m_word a last ≡ key → ⊥) → sums' ≡ sums
