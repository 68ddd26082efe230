-- `levels::fill_cut` meets its contract: the buffer holds the levels of sizes 1 to its length.
-- The loop keeps `Filled`, that the bytes before place i are the levels of sizes 1 to i.
use borrow.Author.Rules.{rules}
use Rattle.levels.proofs.Filling.{filled_more}
use Rattle.levels.proofs.fill_cut.Goals as goal

pub loop-i-preserved : goal.loop-i-preserved
loop-i-preserved c = search (rules, filled_more)
