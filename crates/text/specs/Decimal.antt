-- A number as text, in base ten.
use Rattle.std.specs.Prelude.{true, false, List, [], ◌∷◌, ◌++◌, ℕ, zero, suc, ◌+◌, ◌/◌, ◌%◌, ltb}

-- The byte of a digit: byte 30 is "0".
abbrev pub digit : ℕ → ℕ
digit d = 0x30 + d

-- The digits of n in base ten by at most `times` divisions: those of n / 10, and then the last; where n is below 10, n itself.
unfoldable pub decimal_by : ℕ → ℕ → List ℕ
decimal_by zero n = digit n ∷ []
decimal_by (suc times) n =
    elim (ltb n 10) [
      | true ↦ digit n ∷ []
      | false ↦ decimal_by times (n / 10) ++ (digit (n % 10) ∷ [])
    ]

-- A number in base ten, without leading zeros. n divisions are enough: each makes a number from 10 on smaller. (`decimal_small` and `decimal_large` of proofs/Decimals.antt are the two rules of it without that count.)
unfoldable pub decimal : ℕ → List ℕ
unfolding decimal_by
decimal n = decimal_by n n
