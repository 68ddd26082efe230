-- `stored::fill::stretch` meets its contract.
-- The stretch of the part that its words say is that of the words, by `read_stretch`.
use Rattle.stored.proofs.JoinedLists.{read_stretch}
use Rattle.stored.proofs.fill.stretch.Goals as goal

pub returns : goal.returns
returns c = read_stretch c.args.scratch.now c.args.part _ _ _ c.read.ensures c.stretch.ensures
