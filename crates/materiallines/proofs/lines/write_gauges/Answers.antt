-- `materiallines::lines::write_gauges` meets its contract.
-- The loop keeps `GaugesDue`, that the lines of the gauges left complete the lines of all.
use borrow.Author.Rules.{rules}
use native.Mathlib.Omega.{arith}
use Rattle.materiallines.proofs.GaugeLines.{gauges_start, gauges_area, gauges_fit, gauges_more, gauges_done}
use Rattle.materiallines.proofs.lines.write_gauges.Goals as goal

pub loop-number-init : goal.loop-number-init
loop-number-init c = search (rules, gauges_start)

pub overflow_mul-height : goal.overflow_mul-height
overflow_mul-height c =
    let step = c.in-Some.ensures.steps in
    record { fits = gauges_area _ _ _ _ _ c.loop-number.invariant.2 _ step.0.0 _ c.next.new.self.b step.1.0 step.1.1.0 step.1.1.1 }

pub write_gauge-requires : goal.write_gauge-requires
write_gauge-requires c =
    let step = c.in-Some.ensures.steps in
    gauges_fit _ _ _ _ _ c.loop-number.invariant.2 _ step.0.0 _ c.next.new.self.b step.1.0 step.1.1.0 step.1.1.1

pub loop-number-preserved : goal.loop-number-preserved
loop-number-preserved c =
    let step = c.in-Some.ensures.steps in
    let more = gauges_more _ _ _ _ _ c.loop-number.invariant.2 _ step.0.0 _ c.next.new.self.b step.1.0 step.1.1.0 step.1.1.1 _ step.0.1 _ c.write_gauge.ensures in
    let five = more.five in
    (omega arith, tt, more)

pub returns : goal.returns
returns c = gauges_done _ _ _ c.loop-number.number-iterator.a _ c.loop-number.invariant.2 c.in-None.ensures.steps
