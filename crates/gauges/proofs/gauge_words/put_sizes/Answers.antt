-- `gauges::gauge_words::put_sizes` meets its contract: the words of the sizes are written.
-- The loop keeps `Sizing`, that the words of the sizes left complete those of all.
use native.Mathlib.Omega.{arith}
use Rattle.gauges.proofs.Sizing.{sizing_start, height_room, width_room, sizing_more, sizing_done}
use Rattle.gauges.proofs.gauge_words.put_sizes.Goals as goal

pub loop-k-init : goal.loop-k-init
loop-k-init c = sizing_start _ _ _ c.requires.1

pub put-requires : goal.put-requires
put-requires c = height_room _ _ _ _ _ c.loop-k.invariant (omega arith) _ c.size_in-z.ensures

pub put-requires-in-loop-k : goal.put-requires-in-loop-k
put-requires-in-loop-k c = width_room _ _ _ _ _ c.loop-k.invariant (omega arith) _ c.size_in-z.ensures _ c.put.ensures

pub loop-k-preserved : goal.loop-k-preserved
loop-k-preserved c =
    sizing_more _ _ _ _ _ c.loop-k.invariant (omega arith) _ c.size_in-z.ensures _ c.put.ensures _ c.put-in-loop-k.ensures

pub returns : goal.returns
returns c = sizing_done _ _ _ _ _ c.loop-k.invariant (omega arith)
