-- `saving::read::put_entries` meets its contract: the words of the entries of a taken file are written.
-- The loop keeps `Putting`, what is left of the file and what is written so far.
use Rattle.facefile.specs.inside.Entries.Gives.{rest_of}
use Rattle.saving.proofs.FileEntries.{Putting}
use Rattle.saving.proofs.read.put_entries.Given as goal

abbrev pub invariant-loop-entry : goal.invariant-loop-entry
invariant-loop-entry l = Putting l.initial.page l.file (rest_of l.entry-iterator) l.page
