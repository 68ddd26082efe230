-- `facefile::size_bytes::find_sizes` meets its contract.
-- The loop keeps `Seeking`, that the gauges passed, the sought one and those to come before it are together the number sought.
use Rattle.facefile.specs.inside.Entries.Gives.{rest_of}
use Rattle.facefile.proofs.Seeking.{Seeking}
use Rattle.facefile.proofs.size_bytes.find_sizes.Given as goal

abbrev pub invariant-loop-entry : goal.invariant-loop-entry
invariant-loop-entry l = Seeking l.file l.gauge (rest_of l.entry-iterator) l.left
