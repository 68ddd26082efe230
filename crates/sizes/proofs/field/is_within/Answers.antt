-- `sizes::field::is_within` meets its contract.
-- The second test decides where the first holds, and the first where it does not.
use borrow.Author.Rules.{rules}
use Rattle.sizes.proofs.SizeChecks.{within_yes, within_no}
use Rattle.sizes.proofs.field.is_within.Goals as goal

pub returns-then-low-x : goal.returns-then-low-x
returns-then-low-x c = search (rules, within_yes)

pub returns-else-low-x : goal.returns-else-low-x
returns-else-low-x c = search (rules, within_no)
