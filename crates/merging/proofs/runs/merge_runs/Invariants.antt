-- `merging::runs::merge_runs` meets its contract.
-- The loop keeps `Goes` and that the sums kept are right; its measure is the number of records that wait.
use Rattle.stepping.specs.inside.Trio.{KeptIn}
use Rattle.merging.proofs.RunsLaws.{Goes, waiting}
use Rattle.merging.proofs.runs.merge_runs.Given as goal

abbrev pub invariant-loop-arena : goal.invariant-loop-arena
invariant-loop-arena l =
    Goes l.rib l.initial.arena l.arena l.older l.newer l.initial.beside.ends.lasts l.beside.ends.lasts × KeptIn l.arena l.older l.newer l.beside

abbrev pub decreases-loop-arena : goal.decreases-loop-arena
decreases-loop-arena l = waiting l.arena l.older l.newer
