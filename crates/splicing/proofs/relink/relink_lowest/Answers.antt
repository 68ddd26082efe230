-- `splicing::relink::relink_lowest` meets its contract: the stores of `relink_one`, and then that of the back word, are `relink_lowest`.
-- The first record is read before the links change, as the definition reads it.
use Rattle.splicing.specs.inside.Open.{relink_lowest}
use Rattle.splicing.proofs.relink.relink_lowest.Goals as goal

pub returns : goal.returns
unfolding relink_lowest
returns c = cc
