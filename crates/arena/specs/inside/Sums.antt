-- The running sums of a walk along a list, and how a record that is passed renews them. No public contract cites it.
use Rattle.std.specs.Prelude.{◌≡◌, ℕ, ◌%◌, ◌^◌, ◌≤◌, cond, List, length, nat_lt, slice_index, slice_index_or}
use Rattle.arena.specs.Arena.{level}
use Rattle.arena.specs.Lazy.{sum_from}
use Rattle.arena.specs.inside.Chain.{Has, p_under, after}

-- The running sums f as nine words: word l is the sum over the links from l up. Word 0 is not said, since a record has a level of 1 or more and its true p counts no link below it.
pub record Suffixes (f : ℕ → ℕ) (sums : List ℕ) : Type 0 where
  pub nine : length sums ≡ 9
  pub at : (l : ℕ) → 1 ≤ l → l ≤ 8 → slice_index sums l ≡ sum_from f l 8 % 2 ^ 32

-- v is the true p of record r, which the sums s lead to.
abbrev pub TrueP : List ℕ → ℕ → List ℕ → ℕ → Type 0
TrueP a r s v = (f : ℕ → ℕ) → Suffixes f s → v ≡ p_under a f r

-- The sums f with those below link n replaced by the sums g.
unfoldable pub renewed : (ℕ → ℕ) → ℕ → (ℕ → ℕ) → ℕ → ℕ
renewed g n f k = cond (nat_lt k n) (g k) (f k)

-- The sums t are the sums s, renewed so.
abbrev pub RenewedBelow : (ℕ → ℕ) → ℕ → List ℕ → List ℕ → Type 0
RenewedBelow g n s t = (f : ℕ → ℕ) → Suffixes f s → Suffixes (renewed g n f) t

-- The sums t are the sums s, renewed by the adjusts of record r.
abbrev pub Renewed : List ℕ → ℕ → List ℕ → List ℕ → Type 0
Renewed a r s t = (f : ℕ → ℕ) → Suffixes f s → Suffixes (after a f r) t

-- A record that has a level, and as many sums as are needed for it.
pub record Summable (a : List ℕ) (r : ℕ) (sums : List ℕ) : Type 0 where
  pub has : Has a r
  pub low : 1 ≤ level a r
  pub high : level a r ≤ 8
  pub nine : length sums ≡ 9

-- A head, and nine sums of which that over no link is 0.
pub record Enterable (a : List ℕ) (h : ℕ) (sums : List ℕ) : Type 0 where
  pub has : Has a h
  pub nine : length sums ≡ 9
  pub none : slice_index_or sums 8 0 ≡ 0
