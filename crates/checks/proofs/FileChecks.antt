-- The checks that a face file can fail by its own bytes: those of its header, its entries and its end.
-- What is lent with a file, and what is asked of it, has checks of its own, which are not among these.
use mathlib.Core.Path.{◌≡◌}
use native.Mathlib.Omega.{arith}
use Rattle.checks.specs.Check.{number_of}
use Rattle.checks.specs.declared.Check.{Check}
use Rattle.checks.specs.declared.Check.TheVariants.{Length, Mark, Version, Entries, Present, Kind, SizeCount, Limits, Order, Gauges, Join, OnePart, AtEnd, Fits}

pub data FileCheck : Check → Type 0 where
  of_length : FileCheck Length
  of_mark : FileCheck Mark
  of_version : FileCheck Version
  of_entries : FileCheck Entries
  of_present : FileCheck Present
  of_kind : FileCheck Kind
  of_size_count : FileCheck SizeCount
  of_limits : FileCheck Limits
  of_order : FileCheck Order
  of_gauges : FileCheck Gauges
  of_join : FileCheck Join
  of_one_part : FileCheck OnePart
  of_at_end : FileCheck AtEnd

-- None of them is 19's.
pub file_not_fits : (c : Check) → FileCheck c → number_of c ≡ number_of Fits → ⊥
file_not_fits c of_length e = omega arith
file_not_fits c of_mark e = omega arith
file_not_fits c of_version e = omega arith
file_not_fits c of_entries e = omega arith
file_not_fits c of_present e = omega arith
file_not_fits c of_kind e = omega arith
file_not_fits c of_size_count e = omega arith
file_not_fits c of_limits e = omega arith
file_not_fits c of_order e = omega arith
file_not_fits c of_gauges e = omega arith
file_not_fits c of_join e = omega arith
file_not_fits c of_one_part e = omega arith
file_not_fits c of_at_end e = omega arith
