-- `searching::walk::walk` meets its contract: the front is raised, and its last record found.
-- The loop keeps `Onward`, that the records passed are in front and raised, and where the next one starts; the measure is the number of records left, counted along the first link.
use Rattle.arena.proofs.Walking.{count}
use Rattle.searching.proofs.Passing.{Onward}
use Rattle.searching.proofs.walk.walk.Given as goal

abbrev pub invariant-loop-arena : goal.invariant-loop-arena
invariant-loop-arena l = Onward l.initial.arena l.head l.key l.v l.initial.cur l.initial.next l.arena l.cur l.next l.at

abbrev pub decreases-loop-arena : goal.decreases-loop-arena
decreases-loop-arena l = count 512 l.initial.arena l.next
