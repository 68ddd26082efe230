-- `entries::entry::read_join` meets its contract, for both kinds of join.
-- What it does hangs on the number of parts alone, and a join of either kind has the gauges and sizes of its two parts.
use Rattle.entries.specs.inside.Kinds.{cut_beside, cut_stacked}
use Rattle.entries.proofs.Entries.{join_lacks, join_taken}
use borrow.Author.Rules.{rules}
use Rattle.entries.proofs.entry.read_join.Goals as goal

pub returns-then-c-lt2 : goal.returns-then-c-lt2
returns-then-c-lt2 c =
    record {
      as_beside = λ l fair. join_lacks l _ _ (search rules);
      as_stacked = λ l fair. join_lacks l _ _ (search rules);
    }

pub returns : goal.returns
returns c =
    record {
      as_beside = λ l fair. join_taken l _ _ 0x02 cut_beside fair (search rules);
      as_stacked = λ l fair. join_taken l _ _ 0x03 cut_stacked fair (search rules);
    }
