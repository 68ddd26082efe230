-- The answers of the two calls that a length, a number of words or a check stands for. No public contract cites it.
use Rattle.std.specs.Prelude.{ℕ}
use Rattle.checks.specs.Check.{number_of}
use Rattle.checks.specs.Answer.{Answer, refused, taken}
use Rattle.saving.specs.declared.Saved.{Saved}
use Rattle.saving.specs.declared.Worded.{Worded}

abbrev pub saved_as : Answer ℕ → Saved
saved_as (refused c) = record { number = number_of c; length = 0 }
saved_as (taken n) = record { number = 0; length = n }

abbrev pub worded_as : Answer ℕ → Worded
worded_as (refused c) = record { number = number_of c; count = 0 }
worded_as (taken n) = record { number = 0; count = n }
