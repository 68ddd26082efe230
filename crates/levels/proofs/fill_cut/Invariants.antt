-- `levels::fill_cut` meets its contract: the buffer holds the levels of sizes 1 to its length.
-- The loop keeps `Filled`, that the bytes before place i are the levels of sizes 1 to i.
use Rattle.levels.proofs.Filling.{Filled}
use Rattle.levels.proofs.fill_cut.Given as goal

abbrev pub invariant-loop-i : goal.invariant-loop-i
invariant-loop-i l = Filled l.levels l.top l.i
