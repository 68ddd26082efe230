-- `entries::entry::read_entries` meets its contract.
-- The loop keeps `Reading`, a state that the cursor stands for and from which the entries left give what all give.
use Rattle.entries.specs.inside.Tracking.{begun}
use Rattle.entries.proofs.Reading.{Reading}
use Rattle.entries.proofs.entry.read_entries.Given as goal

abbrev pub invariant-loop : goal.invariant-loop
invariant-loop g l =
    let u = g.U.Units in
    Reading (u.rules l.units) (u.numbers l.units) (begun (u.numbers l.units) l.from) l.count l.c l.counter
