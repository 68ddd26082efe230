-- `entries::gauge_sizes::read_sizes` meets its contract.
-- For each way out a law of `Entries` takes the tests that lead to it.
use native.Mathlib.Omega.{arith}
use Rattle.sizes.proofs.SizeChecks.{passed_on}
use Rattle.entries.proofs.Entries.{sizes_count, step_short, step_bad, step_taken}
use borrow.Author.Rules.{rules}
use Rattle.entries.proofs.gauge_sizes.read_sizes.Goals as goal

pub returns-then-not-is_within : goal.returns-then-not-is_within
returns-then-not-is_within g c = search (rules, sizes_count)

pub returns-then-len-c : goal.returns-then-len-c
returns-then-len-c g c =
    step_short _ _ c.args.c c.args.count _ c.step.ensures.0 _ c.is_within.ensures (search rules)
    (omega (arith, c.len.ensures, c.if-len-c.true))

pub returns-in_err-ask_sizes : goal.returns-in_err-ask_sizes
returns-in_err-ask_sizes g c =
    rw (passed_on c.from_residual.result c.in_err-ask_sizes.field-0.0 c.from_residual.ensures.1)
    (step_bad _ _ c.args.c c.args.count _ c.step.ensures.0 _ c.is_within.ensures (search rules)
    (omega (arith, c.len.ensures, c.if-len-c.false)) _ c.ask_sizes.ensures _ c.in_err-ask_sizes.was)

pub returns : goal.returns
returns g c =
    step_taken _ _ c.args.c c.args.count _ c.step.ensures.0 _ c.is_within.ensures (search rules)
    (omega (arith, c.len.ensures, c.if-len-c.false)) _ c.ask_sizes.ensures (search rules) (search rules) _ c.in_ok-ask_sizes.was
