-- `facewords::entry::Entries::of` meets its contract.
-- All entries of taken words are left behind the first word.
use Rattle.facewords.proofs.EntryRun.{stands_start}
use Rattle.facewords.proofs.entry.Entries.of.Goals as goal

pub invariant_of-result : goal.invariant_of-result
invariant_of-result c = record { stands = ∣ stands_start _ c.requires ∣₁ }
