-- `walking::walk::close` meets its contract.
-- The word is after those of the items.
use borrow.Author.Rules.{rules}
use Rattle.walking.proofs.ListItems.{closed_over}
use Rattle.walking.proofs.walk.close.Goals as goal

pub returns : goal.returns
returns c = search (rules, closed_over)
