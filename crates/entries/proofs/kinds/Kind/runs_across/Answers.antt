-- `entries::kinds::Kind::runs_across` meets its contract.
-- For each two kinds the two tests give what the definition does.
use Rattle.entries.proofs.KindLaws.{turned}
use Rattle.entries.proofs.kinds.Kind.runs_across.Goals as goal

pub returns : goal.returns
returns c = rw (c.eq.ensures, c.eq-2.ensures) (turned c.args.self c.args.join)
