-- `facefile::entry::Entries::of` meets its contract.
-- All entries of a taken file are left behind its first seven bytes.
use Rattle.facefile.proofs.EntryWalk.{stands_start}
use Rattle.facefile.proofs.entry.Entries.of.Goals as goal

pub invariant_of-result : goal.invariant_of-result
invariant_of-result c = record { stands = ∣ stands_start _ c.requires ∣₁ }
