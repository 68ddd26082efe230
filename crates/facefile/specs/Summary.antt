-- What the reader answers of a face file: the number, and of a taken file its gauges and sizes. "Fields beside the number are then zero."
use Rattle.std.specs.Prelude.{ℕ}
use Rattle.checks.specs.Check.{number_of}
use Rattle.checks.specs.Answer.{Answer, refused, taken}
use Rattle.slicing.specs.Tree.{Tree, gauge_count, size_count}
use Rattle.facefile.specs.declared.Face.{Face}
use Rattle.facefile.specs.declared.Counts.{Counts}

-- What is counted in a taken file: its gauges and its sizes.
unfoldable pub counted : Answer Tree → Answer Counts
counted (refused c) = refused c
counted (taken t) = taken (record { gauges = gauge_count t; sizes = size_count t })

abbrev pub refused_face : ℕ → Face
refused_face n = record { number = n; gauges = 0; sizes = 0 }

-- The answer as a number with the counts beside it.
abbrev pub answered : Answer Counts → Face
answered (refused c) = refused_face (number_of c)
answered (taken k) = record { number = 0; gauges = k.gauges; sizes = k.sizes }

unfoldable pub summary : Answer Tree → Face
summary (refused c) = refused_face (number_of c)
summary (taken t) = record { number = 0; gauges = gauge_count t; sizes = size_count t }
