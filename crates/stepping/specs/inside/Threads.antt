-- The back words of a merge while it runs, beside the links of its three lists. No public contract cites it.
use Rattle.std.specs.Prelude.{List, ℕ, ◌<◌}
use Rattle.arena.specs.inside.Chain.{All}
use Rattle.arena.specs.inside.Backs.{Backs, Inner, last_of}

-- They are right inside the lists xs and ys that wait, where the first record's is free, and in the result cs of the head hc. The records that wait and the result's last one have numbers that fit a word.
pub record Threads (a : List ℕ) (hc : ℕ) (xs ys cs : List ℕ) : Type 0 where
  pub older : Inner a xs
  pub newer : Inner a ys
  pub result : Backs a hc cs
  pub older_fits : All (λ x. x < 4_294_967_296) xs
  pub newer_fits : All (λ x. x < 4_294_967_296) ys
  pub last_fits : last_of hc cs < 4_294_967_296
