-- `useful::order::order` meets its contract: the word of the gauge's list.
-- Sizes that stand in order have the first numbers; of others the list is looked for.
use Rattle.useful.proofs.FirstDigits.{first_word_is}
use Rattle.useful.proofs.order.order.Goals as goal

pub returns-then-stand_in_order : goal.returns-then-stand_in_order
returns-then-stand_in_order c =
    let standing = c.stand_in_order.ensures c.if-stand_in_order.true in
    first_word_is _ _ _ standing c.in_order.ensures
