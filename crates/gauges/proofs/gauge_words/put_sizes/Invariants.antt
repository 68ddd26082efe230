-- `gauges::gauge_words::put_sizes` meets its contract: the words of the sizes are written.
-- The loop keeps `Sizing`, that the words of the sizes left complete those of all.
use Rattle.gauges.proofs.Sizing.{Sizing}
use Rattle.gauges.proofs.gauge_words.put_sizes.Given as goal

abbrev pub invariant-loop-k : goal.invariant-loop-k
invariant-loop-k l = Sizing l.initial.page l.sizes l.count l.k l.page
