-- `walking::walk::pass_taller` meets its contract.
-- The loop keeps `Passed`, that the items passed are all taller and that each was one look; the measure is the number of the words after the place.
use borrow.Author.Rules.{rules}
use Rattle.walking.proofs.Passing.{passed_start, passed_more}
use Rattle.walking.proofs.walk.pass_taller.Goals as goal

pub loop-item-init : goal.loop-item-init
loop-item-init c = search (rules, passed_start)

pub loop-item-preserved : goal.loop-item-preserved
loop-item-preserved c = search (rules, passed_more)
