-- `useful::order::in_order` meets its contract.
-- The word of eight sizes in order, shifted, is that of as many as are asked for.
use borrow.Author.Rules.{rules}
use Rattle.useful.proofs.FirstDigits.{first_digits_are}
use Rattle.useful.proofs.order.in_order.Goals as goal

pub returns : goal.returns
returns c = search (rules, first_digits_are)
