-- One digit stored is a number below ten, and the last digit stored after the digits of the tenth of a number is that number.
-- It is the rule of the digits, with the law that what is appended in turn is appended together.
use mathlib.Core.Path.{sym}
use mathlib.Core.List.{List}
use Prim.Native.Nat.{ℕ, ◌+◌, ◌/◌, ◌%◌, ◌≤◌, ◌<◌}
use native.Mathlib.Omega.{arith}
use lib.ListN.{length, set}
use Rattle.text.specs.Decimal.{digit, decimal}
use Rattle.text.specs.inside.Appending.{Appended}
use Rattle.text.proofs.Decimals.{decimal_small, decimal_large}
use Rattle.text.proofs.Lengths.{decimal_short, decimal_longer}
use Rattle.text.proofs.Appends.{one, same_bytes, joined, appended_length}

module _ (old : List ℕ) (at n : ℕ) (low : n < 10) where
  -- There is room for it.
  pub one_room : at + length (decimal n) ≤ length old → at < length old
  one_room room = omega (arith, decimal_short n low)

  pub number_one : Appended old at (decimal n) (set old at (48 + n)) (at + 1)
  number_one = same_bytes (one old at (digit n)) (sym (decimal_small n low))

module _ (old : List ℕ) (at n : ℕ) (high : 10 ≤ n) where
  pub tenth_room : at + length (decimal n) ≤ length old → at + length (decimal (n / 10)) ≤ length old
  tenth_room room = omega (arith, decimal_longer n high)

  pub last_room : (mid : List ℕ) (last : ℕ) → at + length (decimal n) ≤ length old → Appended old at (decimal (n / 10)) mid last → last < length mid
  last_room mid last room s =
      let place = s.place in
      let same = appended_length s in
      omega (arith, decimal_longer n high)

  pub number_more : (mid : List ℕ) (last : ℕ) → Appended old at (decimal (n / 10)) mid last → Appended old at (decimal n) (set mid last (48 + n % 10)) (last + 1)
  number_more mid last s = same_bytes (joined s (one mid last (digit (n % 10)))) (sym (decimal_large n high))
