-- `useful::narrowest::narrowest_below` meets its contract: the next size of the list.
-- The loop keeps `Best`, the narrowest of the sizes that it has looked at.
use Rattle.sizes.specs.inside.Sizes.{sizes_in}
use Rattle.useful.proofs.NarrowestSeen.{Best, chosen}
use Rattle.useful.proofs.narrowest.narrowest_below.Given as goal

abbrev pub invariant-loop-k : goal.invariant-loop-k
invariant-loop-k l = Best (sizes_in l.count l.sizes) l.height (chosen l.place l.best) l.k
