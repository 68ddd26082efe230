-- `picking::pick::pick` meets its contract.
-- The loop keeps `Looking`, that the place kept is that of the pick of the items passed.
use mathlib.Core.Logic.{inl, inr}
use borrow.Author.Rules.{rules}
use Rattle.picking.proofs.Looking.{can_read, halves_low, looking_start, looking_past, looking_worse, looking_taken, looking_done}
use Rattle.picking.proofs.pick.pick.Goals as goal
use Rattle.picking.proofs.pick.pick.Goals.{else-h-opening-via-then-h-opening+else-w-opening, else-h-opening-via-else-h-opening}

pub loop-k-init : goal.loop-k-init
loop-k-init c = search (rules, looking_start)

pub item-z-requires : goal.item-z-requires
item-z-requires c = can_read _ _ _ _ _ _ _ c.requires c.loop-k.invariant c.loop-k-test.true

pub rank_of-rank-requires : goal.rank_of-rank-requires
rank_of-rank-requires c = search (rules, halves_low)

pub loop-k-preserved-then-rank-best : goal.loop-k-preserved-then-rank-best
loop-k-preserved-then-rank-best c = search (rules, looking_taken)

pub loop-k-preserved-else-rank-best : goal.loop-k-preserved-else-rank-best
loop-k-preserved-else-rank-best c = search (rules, looking_worse)

pub loop-k-preserved : goal.loop-k-preserved
loop-k-preserved c =
    looking_past _ _ _ _ _ _ _ _ _ _ c.loop-k.invariant c.loop-k-test.true c.item-z.ensures c.m_of-h.ensures c.p_of-w.ensures
    (elim c.else-h-opening.branch [
      | else-h-opening-via-then-h-opening+else-w-opening w ↦ inr (w.if-h-opening.true, w.if-w-opening.false)
      | else-h-opening-via-else-h-opening w ↦ inl w.if-h-opening.false
    ])

pub returns : goal.returns
returns c = looking_done _ _ _ _ _ _ _ c.loop-k.invariant c.loop-k-test.false
