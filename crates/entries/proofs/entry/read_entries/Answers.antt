-- `entries::entry::read_entries` meets its contract.
-- The loop keeps `Reading`, a state that the cursor stands for and from which the entries left give what all give.
use native.Mathlib.Omega.{arith}
use Rattle.sizes.proofs.SizeChecks.{passed_on}
use Rattle.entries.proofs.Reading.{reading_start, reading_stop, reading_next, reading_done}
use borrow.Author.Rules.{rules}
use Rattle.entries.proofs.entry.read_entries.Goals as goal

pub loop-init : goal.loop-init
loop-init g c = search (rules, reading_start)

pub returns-in_err-c : goal.returns-in_err-c
returns-in_err-c g c =
    rw (passed_on c.from_residual.result c.in_err-c.field-0.0 c.from_residual.ensures.1)
    (reading_stop _ _ _ _ _ _ _ c.loop.invariant (omega arith) c.read_entry.ensures _ c.in_err-c.was)

pub loop-preserved : goal.loop-preserved
loop-preserved g c =
    reading_next _ _ _ _ _ _ _ c.loop.invariant (omega arith) c.read_entry.ensures _ c.in_ok-c.was

pub returns : goal.returns
returns g c = reading_done _ _ _ _ _ _ c.loop.invariant (omega arith)
