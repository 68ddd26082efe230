-- `depths::depths_of` meets its contract.
-- The loop keeps `Measured`, that the array holds the depths of the parts on the stack.
use mathlib.Core.Path.{refl}
use native.Mathlib.Omega.{arith}
use Rattle.depths.proofs.DepthStack.{measured_start, gauge_room, measured_gauge, join_two, join_shallow, measured_join, measured_end}
use Rattle.depths.proofs.depths_of.Goals as goal

pub loop-entry-init : goal.loop-entry-init
loop-entry-init c = measured_start _ _ _ _ c.requires c.of-entry-items.ensures c.into_iter-entry-iterator.ensures.into_iter_gives refl

pub bounds-stack-parts : goal.bounds-stack-parts
bounds-stack-parts c =
    let room = gauge_room _ _ _ _ _ c.loop-entry.invariant _ c.in-Some.ensures.steps _ c.in-Gauge.is in
    let long = c.loop-entry.invariant.held.long in
    omega arith

pub loop-entry-preserved-in-Gauge : goal.loop-entry-preserved-in-Gauge
loop-entry-preserved-in-Gauge c =
    measured_gauge _ _ _ _ _ c.loop-entry.invariant _ c.in-Some.ensures.steps _ c.in-Gauge.is _ refl

pub overflow_sub-parts : goal.overflow_sub-parts
overflow_sub-parts c =
    let two = join_two _ _ _ _ _ c.loop-entry.invariant _ c.in-Some.ensures.steps _ c.in-Join.is in omega arith

pub overflow_sub-parts-in-Join : goal.overflow_sub-parts-in-Join
overflow_sub-parts-in-Join c =
    let two = join_two _ _ _ _ _ c.loop-entry.invariant _ c.in-Some.ensures.steps _ c.in-Join.is in omega arith

pub under_join-requires : goal.under_join-requires
under_join-requires c = join_shallow _ _ _ _ _ c.loop-entry.invariant _ c.in-Some.ensures.steps _ c.in-Join.is

pub overflow_sub-stack : goal.overflow_sub-stack
overflow_sub-stack c =
    let two = join_two _ _ _ _ _ c.loop-entry.invariant _ c.in-Some.ensures.steps _ c.in-Join.is in omega arith

pub loop-entry-preserved : goal.loop-entry-preserved
loop-entry-preserved c =
    measured_join _ _ _ _ _ c.loop-entry.invariant _ c.in-Some.ensures.steps _ c.in-Join.is _ _ c.under_join.ensures refl

pub returns : goal.returns
returns c = measured_end _ _ _ _ _ c.loop-entry.invariant _ c.in-None.is c.next.ensures.steps
