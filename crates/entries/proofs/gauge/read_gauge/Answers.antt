-- `entries::gauge::read_gauge` meets its contract.
-- For each way out a law of `Entries` takes the tests that lead to it.
use Rattle.sizes.proofs.SizeChecks.{passed_on}
use Rattle.entries.proofs.Entries.{unit_read, fair_next, few_next, gauge_many, gauge_cut, gauge_read}
use borrow.Author.Rules.{rules}
use Rattle.entries.proofs.gauge.read_gauge.Goals as goal

pub returns-then-c-ge64 : goal.returns-then-c-ge64
returns-then-c-ge64 g c = search (rules, gauge_many)

pub returns-in_err-count : goal.returns-in_err-count
returns-in_err-count g c =
    let u = g.U.Units in
    rw (passed_on c.from_residual.result c.in_err-count.field-0.0 c.from_residual.ensures.1)
    (gauge_cut (u.rules c.args.units) (u.numbers c.args.units) c.args.c (search rules) _ c.in_err-count.ensures)

pub read_sizes-requires : goal.read_sizes-requires
read_sizes-requires g c =
    let u = g.U.Units in
    let read = unit_read (u.numbers c.args.units) c.args.c _ _ c.in_ok-count.ensures in
    (fair_next _ _ _ _ (search rules) read, few_next _ _ _ _ (search rules) read)

pub returns : goal.returns
returns g c =
    let u = g.U.Units in
    gauge_read (u.rules c.args.units) (u.numbers c.args.units) c.args.c (search rules) _ _ _
    (unit_read (u.numbers c.args.units) c.args.c _ _ c.in_ok-count.ensures) c.read_sizes.ensures
