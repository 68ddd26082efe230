-- `materiallines::areas::total_area` meets its contract.
-- The loop keeps `AreasDue`, that the areas of the gauges left complete the sum of all.
use borrow.Author.Rules.{rules}
use native.Mathlib.Omega.{arith}
use Rattle.materiallines.proofs.AreaSums.{areas_start, areas_area, areas_used, areas_more, areas_done}
use Rattle.materiallines.proofs.areas.total_area.Goals as goal

pub loop-words-init : goal.loop-words-init
loop-words-init c = search (rules, areas_start)

pub overflow_mul-used : goal.overflow_mul-used
overflow_mul-used c =
    let step = c.in-Some.ensures.steps in
    record { fits = areas_area _ _ _ c.loop-words.invariant.2 _ c.next.new.self step.0 step.1.0 step.1.1 }

pub overflow_add-used : goal.overflow_add-used
overflow_add-used c =
    let step = c.in-Some.ensures.steps in
    record { fits = areas_used _ _ _ c.loop-words.invariant.2 _ c.next.new.self step.0 step.1.0 step.1.1 }

pub loop-words-preserved : goal.loop-words-preserved
loop-words-preserved c =
    let step = c.in-Some.ensures.steps in
    let more = areas_more _ _ _ c.loop-words.invariant.2 _ c.next.new.self step.0 step.1.0 step.1.1 in
    let five = more.five in
    (omega arith, tt, more)

pub returns : goal.returns
returns c = areas_done _ _ _ c.loop-words.invariant.2 c.in-None.ensures.steps.1.0
