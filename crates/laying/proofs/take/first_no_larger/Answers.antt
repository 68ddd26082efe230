-- `laying::take::first_no_larger` meets its contract.
-- The loop keeps `Searching`, that the item looked for stands from the low place to the high one; the measure is how far they are apart.
use mathlib.Core.Path.{refl}
use native.Mathlib.Omega.{arith}
use borrow.Author.Rules.{rules}
use Rattle.laying.proofs.Searching.{search_filled, search_start, can_read_middle, search_lower, search_upper, search_done}
use Rattle.laying.proofs.take.first_no_larger.Goals as goal

pub overflow_sub-high : goal.overflow_sub-high
overflow_sub-high c = let some = search_filled _ _ _ c.requires in search rules

pub loop-low-init : goal.loop-low-init
loop-low-init c = search (rules, search_start)

pub item-requires : goal.item-requires
item-requires c = can_read_middle _ _ _ _ _ c.requires c.loop-low.invariant c.loop-low-test.true

pub loop-low-preserved-then-m-limit : goal.loop-low-preserved-then-m-limit
loop-low-preserved-then-m-limit c =
    search_lower _ _ _ _ _ _ _ _ c.loop-low.invariant c.loop-low-test.true refl c.item.ensures c.m_of-m.ensures (let t = c.if-m-limit.true in omega arith)

pub loop-low-preserved : goal.loop-low-preserved
loop-low-preserved c =
    search_upper _ _ _ _ _ _ _ _ c.loop-low.invariant c.loop-low-test.true refl c.item.ensures c.m_of-m.ensures (let t = c.if-m-limit.false in omega arith)

pub returns : goal.returns
returns c = search_done _ _ _ _ _ c.loop-low.invariant c.loop-low-test.false
