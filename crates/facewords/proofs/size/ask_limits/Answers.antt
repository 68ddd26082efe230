-- `facewords::size::ask_limits` meets its contract.
-- The loop keeps `Checking`, that the sizes from i on answer what all of them do.
use mathlib.Core.Path.{refl}
use native.Mathlib.Omega.{arith}
use borrow.Author.Rules.{rules}
use Rattle.sizes.proofs.SizeChecks.{passed_on}
use Rattle.sizes.proofs.LimitedSizes.{checking_start, checking_stop, checking_more, checking_done}
use Rattle.facewords.proofs.size.ask_limits.Goals as goal

pub loop-i-init : goal.loop-i-init
loop-i-init c = search (rules, checking_start)

pub returns-in_err-limits : goal.returns-in_err-limits
returns-in_err-limits c =
    rw (passed_on c.from_residual.result c.in_err-limits.field-0.0 c.from_residual.ensures.1)
    (checking_stop _ _ _ _ _ c.loop-i.invariant (omega arith) _ c.size_at.ensures c.limits.result c.limits.ensures _ c.in_err-limits.was)

pub loop-i-preserved : goal.loop-i-preserved
loop-i-preserved c =
    checking_more _ _ _ _ _ c.loop-i.invariant (omega arith) _ c.size_at.ensures c.limits.result c.limits.ensures refl _ c.in_ok-limits.was

pub returns : goal.returns
returns c = checking_done _ _ _ _ _ c.loop-i.invariant (omega arith)
