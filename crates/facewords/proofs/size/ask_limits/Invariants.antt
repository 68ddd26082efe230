-- `facewords::size::ask_limits` meets its contract.
-- The loop keeps `Checking`, that the sizes from i on answer what all of them do.
use Rattle.sizes.proofs.LimitedSizes.{Checking}
use Rattle.facewords.specs.Words.{word_rules}
use Rattle.facewords.proofs.size.ask_limits.Given as goal

abbrev pub invariant-loop-i : goal.invariant-loop-i
invariant-loop-i l = Checking word_rules l.words l.at l.count l.i
