-- `maxplus::read_list::item_at` meets its contract.
-- What `items_of` refuses is refused so, and else the place decides, and the item at its index of the row is the one that the definition takes.
use Rattle.std.proofs.Common.{arith, rules}
use Rattle.std.proofs.lemmas.Grind.{common_steps}
use Rattle.maxplus.proofs.Places.{refused_end, place_out, place_top, place_low}
use Rattle.maxplus.proofs.read_list.item_at.Goals as goal

pub returns-in_err-count : goal.returns-in_err-count
returns-in_err-count c = refused_end _ _ _ c.items_of.ensures _ _ _ _ c.in_err-count.was (search rules)

pub returns-then-not-contains : goal.returns-then-not-contains
returns-then-not-contains c =
    place_out _ _ _ c.items_of.ensures _ _ c.in_ok-count.was _ (λ low high. grind (arith, common_steps))

pub returns-in-Top : goal.returns-in-Top
returns-in-Top c =
    place_top _ _ _ c.items_of.ensures _ _ c.in_ok-count.was _ (search rules) (search rules) _ c.in-Top.is

pub returns-in-Low : goal.returns-in-Low
returns-in-Low c =
    place_low _ _ _ c.items_of.ensures _ _ c.in_ok-count.was _ (search rules) (search rules) _ c.in-Low.is
