-- A head copied to another record, with its list. No public contract cites it.
use Rattle.std.specs.Prelude.{◌≡◌, List, ℕ, ◌<◌, length}
use Rattle.arena.specs.Arena.{stride, word}
use Rattle.arena.specs.inside.Chain.{Same}

pub record Copied (a : List ℕ) (from to : ℕ) (b : List ℕ) : Type 0 where
  pub length_kept : length b ≡ length a
  pub words : (j : ℕ) → j < stride → word b to j ≡ word a from j
  pub outside : (x : ℕ) → (x ≡ to → ⊥) → Same a b x
