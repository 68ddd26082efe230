-- `sizes::questions::ask_limits` meets its contract, for any version but 1.
-- The loop keeps `Checking`, that the sizes from i on answer what all of them do.
use mathlib.Core.Path.{◌∙◌}
use native.Mathlib.Omega.{arith}
use borrow.Author.Tests.{ne_eqb}
use Rattle.sizes.proofs.SizeChecks.{passed_on}
use Rattle.sizes.proofs.LimitedSizes.{checking_start, checking_stop, checking_more, checking_done}
use Rattle.sizes.proofs.questions.ask_limits.Goals as goal

pub loop-i-init : goal.loop-i-init
loop-i-init c = λ v other. checking_start _ _ _ _

pub returns-in_err-limits : goal.returns-in_err-limits
returns-in_err-limits c =
    λ v other.
    passed_on c.from_residual.result c.in_err-limits.field-0.0 c.from_residual.ensures.1
    ∙ checking_stop _ _ _ _ _ (c.loop-i.invariant v other) (omega arith) _ c.size_at.ensures.size_value c.limits.result c.limits.ensures _ c.in_err-limits.was

pub loop-i-preserved : goal.loop-i-preserved
loop-i-preserved c =
    λ v other.
    checking_more _ _ _ _ _ (c.loop-i.invariant v other) (omega arith) _ c.size_at.ensures.size_value c.limits.result
    c.limits.ensures (ne_eqb v 1 other) _ c.in_ok-limits.was

pub returns : goal.returns
returns c = λ v other. checking_done _ _ _ _ _ (c.loop-i.invariant v other) (omega arith)
