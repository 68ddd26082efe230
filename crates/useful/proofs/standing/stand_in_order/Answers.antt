-- `useful::standing::stand_in_order` meets its contract.
-- The loop keeps `Standing`, that the sizes so far stand in order.
use borrow.Author.Rules.{rules}
use mathlib.Core.Bool.{false≢true}
use Rattle.useful.proofs.Neighbours.{first_stands, next_stands, all_stand}
use Rattle.useful.proofs.standing.stand_in_order.Goals as goal

pub loop-k-init : goal.loop-k-init
loop-k-init c = search (rules, first_stands)

pub returns-then-before-z : goal.returns-then-before-z
returns-then-before-z c = λ e. absurd (false≢true e)

pub loop-k-preserved : goal.loop-k-preserved
loop-k-preserved c = search (rules, next_stands)

pub returns : goal.returns
returns c = search (rules, all_stand)
