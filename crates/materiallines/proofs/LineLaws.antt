-- The fields of a gauge's line, appended in turn, are the line, and take as many bytes as it.
-- The line is its four fields joined.
use mathlib.Core.Path.{◌≡◌}
use mathlib.Core.List.{List, ◌++◌}
use Prim.Native.Nat.{ℕ, ◌+◌}
use native.Mathlib.Omega.{arith}
use lib.ListN.{length, length-append}
use Rattle.text.specs.Fields.{space, newline, field}
use Rattle.text.specs.inside.Appending.{Appended}
use Rattle.text.proofs.Appends.{joined}
use Rattle.materiallines.specs.Lines.{gauge_line}

pub gauge_length : (number wide high area : ℕ) → length (gauge_line number wide high area) ≡ length (field number space) + (length (field wide space) + (length (field high space) + length (field area newline)))
unfolding gauge_line
gauge_length number wide high area =
    let last = length-append (field high space) (field area newline) in
    let later = length-append (field wide space) (field high space ++ field area newline) in
    omega (arith, length-append (field number space) (field wide space ++ (field high space ++ field area newline)))

module _ (old l m n new : List ℕ) (at i j k r : ℕ) where
  pub gauge_line_written : (number wide high area : ℕ) → Appended old at (field number space) l i → Appended l i (field wide space) m j → Appended m j (field high space) n k → Appended n k (field area newline) new r → Appended old at (gauge_line number wide high area) new r
  unfolding gauge_line
  gauge_line_written number wide high area s t u v = joined s (joined t (joined u v))
