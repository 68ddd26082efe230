-- A list whose head adds nothing to a true p, as one that was built is. No public contract cites it.
use Rattle.std.specs.Prelude.{◌≡◌, ℕ, ◌<◌, List}
use Rattle.arena.specs.Arena.{adjust}
use Rattle.arena.specs.inside.Chain.{Linked}

-- The records rs are the list of the head h, whose adjusts are 0.
pub record Built (a : List ℕ) (h : ℕ) (rs : List ℕ) : Type 0 where
  pub linked : Linked a h rs
  pub still : (k : ℕ) → k < 8 → adjust a h k ≡ 0
