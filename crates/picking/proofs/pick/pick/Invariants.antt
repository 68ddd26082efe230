-- `picking::pick::pick` meets its contract.
-- The loop keeps `Looking`, that the place kept is that of the pick of the items passed.
use Rattle.picking.proofs.Looking.{Looking}
use Rattle.picking.proofs.pick.pick.Given as goal

abbrev pub invariant-loop-k : goal.invariant-loop-k
invariant-loop-k l = Looking l.scratch l.list l.opening.height l.opening.width l.k l.found l.best
