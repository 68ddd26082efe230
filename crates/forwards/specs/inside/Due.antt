-- What the loops over the row of due links answer and leave. No public contract cites it.
use Rattle.std.specs.Prelude.{◌≡◌, ℕ, ◌<◌, ◌≤◌, Bool, true, false, List, length, slice_index}
use Rattle.arena.specs.Arena.{level, forward}

-- The answer b says whether P holds.
abbrev pub Decides : Bool → Type 0 → Type 0
Decides true P = P
Decides false P = P → ⊥

-- The words of l from link 1 up to link n are x.
unfoldable pub Are : List ℕ → ℕ → ℕ → Type 0
Are l n x = (k : ℕ) → 1 ≤ k → k < n → slice_index l k ≡ x

-- The forwards of record r from link 1 up, as far as it has links, stand in l, where before stood `first`.
pub record Passed (a : List ℕ) (r : ℕ) (first l : List ℕ) : Type 0 where
  pub long : length l ≡ length first
  pub here : (k : ℕ) → 1 ≤ k → k < level a r → slice_index l k ≡ forward a r k
  pub past : (k : ℕ) → level a r ≤ k → slice_index l k ≡ slice_index first k
