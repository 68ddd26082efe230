-- Sums that a merge keeps beside the arena, so that no head and no end is summed up anew: those of a head, and those of the last records of the open result. No public contract cites it.
use Rattle.std.specs.Prelude.{◌≡◌, ℕ, ◌+◌, ◌%◌, ◌^◌, List}
use Rattle.arena.specs.Arena.{adjust}
use Rattle.arena.specs.Lazy.{sum_from}
use Rattle.arena.specs.inside.Sums.{Suffixes}
use Rattle.splicing.specs.inside.Open.{last_sums}

-- The sums of the head h, and those of the last records.
pub record Cached (a : List ℕ) (h : ℕ) (last heads lasts : List ℕ) : Type 0 where
  pub head : Suffixes (adjust a h) heads
  pub ends : Suffixes (last_sums a last) lasts

-- A record of level l whose p is raised by v has a true p that is q more under the sums g than it was under f.
abbrev pub MakesUp : (ℕ → ℕ) → (ℕ → ℕ) → ℕ → ℕ → ℕ → Type 0
MakesUp f g l q v = (v + sum_from g l 8) % 2 ^ 32 ≡ (q + sum_from f l 8) % 2 ^ 32
