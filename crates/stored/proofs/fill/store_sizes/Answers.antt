-- `stored::fill::store_sizes` meets its contract.
-- The loop keeps `Packing`, that the sizes of the digits taken off stand before the end; the measure is the word that is left.
use borrow.Author.Rules.{rules}
use Rattle.stored.proofs.Packing.{packing_start, packing_digit, packing_size, packing_some, packing_room, packing_more, packing_done}
use Rattle.stored.proofs.fill.store_sizes.Goals as goal

pub loop-left-init : goal.loop-left-init
loop-left-init c = search (rules, packing_start)

pub overflow_sub-k : goal.overflow_sub-k
overflow_sub-k c = search (rules, packing_digit)

pub size_in-z-requires : goal.size_in-z-requires
size_in-z-requires c = packing_size _ _ _ _ _ _ c.loop-left.invariant c.loop-left-test.true

pub overflow_sub-at : goal.overflow_sub-at
overflow_sub-at c = search (rules, packing_some)

pub bounds-scratch-at : goal.bounds-scratch-at
bounds-scratch-at c = search (rules, packing_room)

pub loop-left-preserved : goal.loop-left-preserved
loop-left-preserved c = search (rules, packing_more)

pub returns : goal.returns
returns c = search (rules, packing_done)
