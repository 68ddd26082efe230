-- What is known of a text where its buffer is long enough, and where it is shorter.
-- A buffer is one or the other.
use mathlib.Core.Path.{◌≡◌}
use mathlib.Core.List.{List}
use Prim.Native.Nat.{ℕ, ◌≤◌, ◌<◌}
use native.Mathlib.Omega.{arith}
use lib.ListN.{length}
use Rattle.text.specs.Printing.{Printed, PrintedWithin}

module _ (most : ℕ) (text old new : List ℕ) (r : ℕ) where
  pub text_short : length old < most → r ≡ 0 → new ≡ old → PrintedWithin most text old new r
  text_short less e same = record { long = λ enough. absurd (omega arith); short = λ _. (e, same) }

  pub text_long : most ≤ length old → Printed text old new r → PrintedWithin most text old new r
  text_long enough p = record { long = λ _. p; short = λ less. absurd (omega arith) }
