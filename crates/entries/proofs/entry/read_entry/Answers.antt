-- `entries::entry::read_entry` meets its contract.
-- For each way out a law of `Entries` takes the tests that lead to it.
use Rattle.sizes.proofs.SizeChecks.{passed_on}
use Rattle.entries.proofs.Entries.{unit_read, fair_next, entry_cut, entry_gauge, entry_join, entry_unknown}
use Rattle.entries.proofs.entry.read_entry.Goals as goal

pub returns-in_err-kind : goal.returns-in_err-kind
returns-in_err-kind g c =
    let u = g.U.Units in
    rw (passed_on c.from_residual.result c.in_err-kind.field-0.0 c.from_residual.ensures.1)
    (entry_cut (u.rules c.args.units) (u.numbers c.args.units) c.args.c _ c.in_err-kind.ensures)

pub returns-in_err-try_from : goal.returns-in_err-try_from
returns-in_err-try_from g c =
    let u = g.U.Units in
    rw (passed_on c.from_residual-in_err-try_from.result c.in_err-try_from.field-0.0 c.from_residual-in_err-try_from.ensures.1)
    (entry_unknown (u.rules c.args.units) (u.numbers c.args.units) c.args.c _ _
    (unit_read (u.numbers c.args.units) c.args.c _ _ c.in_ok-kind.ensures) _ c.in_err-try_from.ensures)

pub read_gauge-requires : goal.read_gauge-requires
read_gauge-requires g c =
    fair_next _ _ _ _ c.requires (unit_read (g.U.Units.numbers c.args.units) c.args.c _ _ c.in_ok-kind.ensures)

pub returns-in-Gauge : goal.returns-in-Gauge
returns-in-Gauge g c =
    let u = g.U.Units in
    entry_gauge (u.rules c.args.units) (u.numbers c.args.units) c.args.c _ _
    (unit_read (u.numbers c.args.units) c.args.c _ _ c.in_ok-kind.ensures) _ _ c.in_ok-try_from.ensures c.in-Gauge.is c.read_gauge.ensures

pub returns-in-Beside : goal.returns-in-Beside
returns-in-Beside g c =
    let u = g.U.Units in
    entry_join (u.rules c.args.units) (u.numbers c.args.units) c.args.c _ _
    (unit_read (u.numbers c.args.units) c.args.c _ _ c.in_ok-kind.ensures) _ _ c.in_ok-try_from.ensures c.in-Beside.is c.requires
    (c.read_join.ensures.as_beside _) (c.read_join.ensures.as_stacked _)
