-- `dropping::drop_tied::drop_tied` meets its contract.
-- The m that it reads decides which of the two ways is meant, and its calls promise what has to hold there.
use Rattle.dropping.proofs.DropLaws.{tied_drops, tied_stays}
use Rattle.dropping.proofs.drop_tied.drop_tied.Goals as goal

pub returns-then-get-key : goal.returns-then-get-key
returns-then-get-key c =
    tied_drops _ _ _ _ _ _ _ _ _ c.get.ensures c.if-get-key.true c.drop_first.ensures c.pass.ensures

pub returns-else-get-key : goal.returns-else-get-key
returns-else-get-key c = tied_stays _ _ _ _ _ _ _ c.get.ensures c.if-get-key.false
