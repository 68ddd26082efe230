-- The answer of the catalogue call that a number of looks or a check stands for. No public contract cites it.
use Rattle.std.specs.Prelude.{ℕ}
use Rattle.checks.specs.Check.{number_of}
use Rattle.checks.specs.Answer.{Answer, refused, taken}
use Rattle.catalogue.specs.declared.Catalogued.{Catalogued}

abbrev pub catalogued_as : Answer ℕ → Catalogued
catalogued_as (refused c) = record { number = number_of c; looks = 0 }
catalogued_as (taken n) = record { number = 0; looks = n }
