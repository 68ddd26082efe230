-- `useful::standing::stand_in_order` meets its contract.
-- The loop keeps `Standing`, that the sizes so far stand in order.
use Rattle.slicing.specs.Item.{size}
use Rattle.sizes.specs.inside.Sizes.{sizes_in}
use Rattle.useful.proofs.Neighbours.{Standing}
use Rattle.useful.proofs.standing.stand_in_order.Given as goal

abbrev pub invariant-loop-k : goal.invariant-loop-k
invariant-loop-k l = Standing (sizes_in l.count l.sizes) (size l.before.height l.before.width) l.k
