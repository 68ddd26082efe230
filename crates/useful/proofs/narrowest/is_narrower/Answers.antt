-- `useful::narrowest::is_narrower` meets its contract.
-- Each way through the test is one of narrower, as wide, or wider.
use borrow.Author.Rules.{rules}
use Rattle.useful.proofs.NoWorse.{narrower_yes, narrower_same, narrower_no}
use Rattle.useful.proofs.narrowest.is_narrower.Goals as goal

pub returns-then-z-than : goal.returns-then-z-than
returns-then-z-than c = search (rules, narrower_yes)

pub returns-then-z-than-2 : goal.returns-then-z-than-2
returns-then-z-than-2 c = search (rules, narrower_same)

pub returns-else-z-than-2 : goal.returns-else-z-than-2
returns-else-z-than-2 c = search (rules, narrower_no)
