-- `splicing::relink::relink_one` meets its contract: the three stores are `relink_one`.
-- Each word that is stored is the one that the definition reads, from the arena as it is then.
use Rattle.splicing.specs.inside.Open.{pass_on, relink_one}
use Rattle.splicing.proofs.relink.relink_one.Goals as goal

pub returns : goal.returns
unfolding relink_one pass_on
returns c = cc
