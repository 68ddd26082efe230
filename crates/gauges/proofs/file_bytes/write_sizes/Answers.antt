-- `gauges::file_bytes::write_sizes` meets its contract.
-- The loop keeps `SizesDue`, that the fields of the sizes left complete those of all.
use borrow.Author.Rules.{rules}
use native.Mathlib.Omega.{arith}
use Rattle.gauges.proofs.FileBytes.{sizes_start, word_fits, first_room, second_room, sizes_more, sizes_done}
use Rattle.gauges.proofs.file_bytes.write_sizes.Goals as goal

pub loop-size-init : goal.loop-size-init
loop-size-init c = search (rules, sizes_start)

pub write_field-requires : goal.write_field-requires
write_field-requires c =
    let step = c.in-Some.ensures.steps in (
      word_fits _ _ _ _ c.loop-size.invariant.2 _ c.next.new.self step.0 step.1.0 step.1.1 _ (omega arith),
      first_room _ _ _ _ c.loop-size.invariant.2 _ c.next.new.self step.0 step.1.0 step.1.1 _,
    )

pub write_field-requires-in-loop-size : goal.write_field-requires-in-loop-size
write_field-requires-in-loop-size c =
    let step = c.in-Some.ensures.steps in (
      word_fits _ _ _ _ c.loop-size.invariant.2 _ c.next.new.self step.0 step.1.0 step.1.1 _ (omega arith),
      second_room _ _ _ _ c.loop-size.invariant.2 _ c.next.new.self step.0 step.1.0 step.1.1 _ _ c.write_field.ensures _,
    )

pub loop-size-preserved : goal.loop-size-preserved
loop-size-preserved c =
    let step = c.in-Some.ensures.steps in
    let more = sizes_more _ _ _ _ c.loop-size.invariant.2 _ c.next.new.self step.0 step.1.0 step.1.1 _ c.write_field.ensures _ c.write_field-in-loop-size.ensures in
    let pairs = more.pairs in
    (omega arith, tt, more)

pub returns : goal.returns
returns c = sizes_done _ _ _ _ c.loop-size.invariant.2 c.in-None.ensures.steps.1.0
