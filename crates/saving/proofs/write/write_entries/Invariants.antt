-- `saving::write::write_entries` meets its contract: the bytes of the entries of taken words are written.
-- The loop keeps `Writing`, what is left of the words and what is written so far.
use Rattle.facewords.specs.inside.Entries.Gives.{rest_of}
use Rattle.saving.proofs.WordEntries.{Writing}
use Rattle.saving.proofs.write.write_entries.Given as goal

abbrev pub invariant-loop-entry : goal.invariant-loop-entry
invariant-loop-entry l = Writing l.initial.page l.words (rest_of l.entry-iterator) l.page
