-- `building::prepend::hook` meets its contract.
-- Its three stores are those of `hook1`, in the same order.
use Rattle.building.specs.inside.Building.{hook1}
use Rattle.building.proofs.prepend.hook.Goals as goal

pub returns : goal.returns
unfolding hook1
returns c = cc
