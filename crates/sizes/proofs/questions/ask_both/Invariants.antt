-- `sizes::questions::ask_both` meets its contract: the first of checks 8 and 9 that fails in a file of version 1.
-- The loop keeps `InTurn`, that check 8 of the size before and the sizes from i on answer what all of them do.
use Rattle.slicing.specs.Item.{size}
use Rattle.sizes.specs.GaugeSizes.{version_rules}
use Rattle.sizes.proofs.OrderedSizes.{InTurn}
use Rattle.sizes.proofs.questions.ask_both.Given as goal

abbrev pub invariant-loop-i : goal.invariant-loop-i
invariant-loop-i l = InTurn (version_rules 1) l.file l.at l.count (size l.before.height l.before.width) l.i
