-- `arena::sums::true_p` meets its contract.
-- The sum from the record's level up is all that its true p adds to what it stores.
use Rattle.std.proofs.Common.{rules}
use Rattle.arena.proofs.Summing.{suffix_p}
use Rattle.arena.proofs.sums.true_p.Goals as goal

pub returns : goal.returns
returns c = search (rules, suffix_p)
