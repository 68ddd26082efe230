-- The numbers of the checks. The questions themselves stand at their cases, in `src/lib.rt`.
use Rattle.std.specs.Prelude.{ℕ}
use Rattle.checks.specs.declared.Check.{Check}
use Rattle.checks.specs.declared.Check.TheVariants.{Length, Mark, Version, Entries, Present, Kind, SizeCount, Limits, Order, Gauges, Join, OnePart, AtEnd, LevelCount, LevelRange, Opening, Buffers, Output, Fits, LazyList, Place, Rib, Heights}

-- The number that a "no" answers with.
abbrev pub number_of : Check → ℕ
number_of Length = 1
number_of Mark = 2
number_of Version = 3
number_of Entries = 4
number_of Present = 5
number_of Kind = 6
number_of SizeCount = 7
number_of Limits = 8
number_of Order = 9
number_of Gauges = 10
number_of Join = 11
number_of OnePart = 12
number_of AtEnd = 13
number_of LevelCount = 14
number_of LevelRange = 15
number_of Opening = 16
number_of Buffers = 17
number_of Output = 18
number_of Fits = 19
number_of LazyList = 20
number_of Place = 21
number_of Rib = 22
number_of Heights = 23
