-- `arena::sums::pass` meets its contract.
-- The loop keeps `Renewing`, that the sums from k up are those after the record.
use Rattle.std.proofs.Common.{refl, rules}
use Rattle.arena.proofs.Summing.{word_above, renewing_start, renewing_more, passing_done}
use Rattle.arena.proofs.sums.pass.Goals as goal

pub loop-k-init : goal.loop-k-init
loop-k-init c = renewing_start _ _ _ _ c.requires.nine c.get-level.ensures

pub loop-k-preserved : goal.loop-k-preserved
loop-k-preserved c =
    renewing_more _ _ _ _ _ c.requires.high c.loop-k.invariant c.loop-k-test.true _ _ _ (word_above _ _ c.loop-k-test.true) c.get.ensures refl

pub returns : goal.returns
returns c = search (rules, passing_done)
