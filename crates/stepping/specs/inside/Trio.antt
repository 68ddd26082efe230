-- The three lists of a merge while it runs: what is left of the older and of the newer list, and the open result. No public contract cites it.
use Rattle.std.specs.Prelude.{◌≡◌, List, ℕ, ◌+◌, ◌^◌, ◌≤◌, ◌<◌}
use Rattle.arena.specs.Arena.{m_word, adjust}
use Rattle.arena.specs.inside.Chain.{All, Away}
use Rattle.arena.specs.inside.Sums.{Suffixes}
use Rattle.searching.specs.inside.Cut.{Searchable}
use Rattle.splicing.specs.inside.Open.{OpenLinked, EndsOf, last_sums}
use Rattle.stepping.specs.declared.beside.Beside.{Beside}

-- The m of a record is 1 or more, and with 1 added it does not leave 32 bits.
pub record Roomy (a : List ℕ) (x : ℕ) : Type 0 where
  pub some : 1 ≤ m_word a x
  pub small : m_word a x + 1 < 2 ^ 32

-- The lists xs, ys and cs of the heads ho, hn and hc share no record, and no head is on one.
pub record Trio (a : List ℕ) (ho hn hc : ℕ) (xs ys cs ends : List ℕ) : Type 0 where
  pub older : Searchable a ho xs
  pub newer : Searchable a hn ys
  pub result : OpenLinked a hc cs
  pub result_ends : EndsOf a hc cs ends
  pub older_newer : ho ≡ hn → ⊥
  pub older_result : ho ≡ hc → ⊥
  pub newer_result : hn ≡ hc → ⊥
  pub older_off_newer : Away ho ys
  pub older_off_result : Away ho cs
  pub newer_off_older : Away hn xs
  pub newer_off_result : Away hn cs
  pub result_off_older : Away hc xs
  pub result_off_newer : Away hc ys
  pub lists_apart : All (λ x. Away x ys) xs
  pub result_older_apart : All (λ x. Away x xs) cs
  pub result_newer_apart : All (λ x. Away x ys) cs

-- The sums that are kept beside the arena: those of both heads, and those of the last records of the result.
pub record Kept (a : List ℕ) (ho hn : ℕ) (last olders newers lasts : List ℕ) : Type 0 where
  pub older : Suffixes (adjust a ho) olders
  pub newer : Suffixes (adjust a hn) newers
  pub ends : Suffixes (last_sums a last) lasts

-- Those that a merge has there.
abbrev pub KeptIn : List ℕ → ℕ → ℕ → Beside → Type 0
KeptIn a ho hn beside = Kept a ho hn beside.ends.lasts beside.olders beside.newers beside.ends.sums
