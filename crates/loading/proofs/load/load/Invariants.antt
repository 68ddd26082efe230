-- `loading::load::load` meets its contract.
-- The loop keeps `Loading`, that the sizes whose digits were taken off are the list of the head; the measure is the word that is left.
use Rattle.loading.proofs.Loads.{Loading}
use Rattle.loading.proofs.load.load.Given as goal

abbrev pub invariant-loop-left : goal.invariant-loop-left
invariant-loop-left l = Loading l.initial.arena l.head l.first l.sizes l.levels l.order l.arena l.last l.after l.left

abbrev pub decreases-loop-left : goal.decreases-loop-left
decreases-loop-left l = l.left
