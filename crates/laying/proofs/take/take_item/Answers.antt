-- `laying::take::take_item` meets its contract.
-- The first item of the list searched is the one taken, whichever way the list is stored.
use Prim.Native.Nat.{◌<◌}
use borrow.Author.Rules.{rules}
use Rattle.laying.proofs.TakeLaws.{side_ready, can_search, found_inside, can_read_found, takes_along, takes_upward}
use Rattle.laying.proofs.take.take_item.Goals as goal

pub stretch-list-requires : goal.stretch-list-requires
stretch-list-requires c = side_ready _ _ _ _ c.requires

pub first_no_larger-k-requires : goal.first_no_larger-k-requires
first_no_larger-k-requires c = can_search _ _ _ _ _ c.stretch-list.ensures c.requires

pub item-requires : goal.item-requires
item-requires c =
    can_read_found _ _ _ _ _ c.stretch-list.ensures _ c.first_no_larger-k.ensures c.requires

pub overflow_sub-result : goal.overflow_sub-result
overflow_sub-result c =
    let in_list : c.first_no_larger-k.result < c.stretch-list.result.count = found_inside _ _ _ _ _ c.stretch-list.ensures _ c.first_no_larger-k.ensures c.requires in
    let inside = in_list in search rules

pub overflow_sub-result-in-Stacked : goal.overflow_sub-result-in-Stacked
overflow_sub-result-in-Stacked c =
    let in_list : c.first_no_larger-k.result < c.stretch-list.result.count = found_inside _ _ _ _ _ c.stretch-list.ensures _ c.first_no_larger-k.ensures c.requires in
    let inside = in_list in search rules

pub returns-in-Stacked : goal.returns-in-Stacked
returns-in-Stacked c =
    takes_upward _ _ _ _ _ c.stretch-list.ensures _ c.first_no_larger-k.ensures _ _ c.item.ensures c.p_of-extent.ensures c.in-Stacked.is

pub returns-in_default : goal.returns-in_default
returns-in_default c =
    takes_along _ _ _ _ _ c.stretch-list.ensures _ c.first_no_larger-k.ensures _ _ c.item.ensures c.p_of-extent.ensures c.in_default.not-Stacked
