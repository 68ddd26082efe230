-- `dropping::drop_first::hand_over` meets its contract.
-- Each store is what the contract says, one after the other.
use Rattle.dropping.proofs.drop_first.hand_over.Goals as goal

pub returns : goal.returns
returns c = cc
