-- What is left of a buffer into which values were written at a place. No public contract cites it.
use Rattle.std.specs.Prelude.{◌≡◌, List, ℕ, ◌+◌, length}
use lib.Seq.{sets}

-- Of the buffer `old` the values were stored one by one from the place `at`, which gives `new`: where they fit, `take at old ++ values ++ drop (at + length values) old`, by `sets-eq` of lib.Seq. `next` is the place after them.
pub record Appended {A : Type 0} (old : List A) (at : ℕ) (values new : List A) (next : ℕ) : Type 0 where
  pub place : next ≡ at + length values
  pub text : new ≡ sets old at values
