-- A walk along the records in front of a list, which raises the p of each by v and ends at the last of them. No public contract cites it.
use Rattle.std.specs.Prelude.{◌≡◌, ℕ, ◌<◌, List, length}
use Rattle.arena.specs.Arena.{p_word, adjust}
use Rattle.arena.specs.Lazy.{last_with}
use Rattle.arena.specs.inside.Chain.{wrap, All, Away, Same, Shape}
use Rattle.arena.specs.inside.Backs.{BacksKept}
use Rattle.searching.specs.inside.Cut.{front}

pub record Walked (a b : List ℕ) (h key v : ℕ) (rs : List ℕ) (to : ℕ) : Type 0 where
  pub length_kept : length b ≡ length a
  pub shape : (x : ℕ) → Shape a b x
  pub backs_kept : BacksKept a b
  pub adjust_kept : (x k : ℕ) → k < 8 → adjust b x k ≡ adjust a x k
  pub outside : (x : ℕ) → Away x (front a key rs) → Same a b x
  pub raised : All (λ x. p_word b x ≡ wrap (p_word a x) v) (front a key rs)
  pub last : to ≡ last_with a 0 h (front a key rs)
