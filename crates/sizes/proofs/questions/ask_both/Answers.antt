-- `sizes::questions::ask_both` meets its contract: the first of checks 8 and 9 that fails in a file of version 1.
-- The loop keeps `InTurn`, that check 8 of the size before and the sizes from i on answer what all of them do.
use borrow.Author.Rules.{rules}
use mathlib.Core.Path.{◌∙◌}
use Rattle.sizes.specs.GaugeSizes.{version_rules}
use Rattle.sizes.proofs.SizeChecks.{passed_on}
use Rattle.sizes.proofs.OrderedSizes.{first_out, first_in_turn, turn_stops, turn_more, turn_done}
use Rattle.sizes.proofs.questions.ask_both.Goals as goal

pub returns-in_err-limits : goal.returns-in_err-limits
returns-in_err-limits c =
    let a = c.args in
    passed_on c.from_residual.result c.in_err-limits.field-0.0 c.from_residual.ensures.1
    ∙ first_out (version_rules 1) a.file.now a.at a.count (search rules) _ c.size_at-first.ensures.size_value c.limits.result c.limits.ensures _ c.in_err-limits.was

pub loop-i-init : goal.loop-i-init
loop-i-init c =
    let a = c.args in
    first_in_turn (version_rules 1) a.file.now a.at a.count (search rules) _ c.size_at-first.ensures.size_value c.limits.result c.limits.ensures _ c.in_ok-limits.was

pub returns-then-not-is_after : goal.returns-then-not-is_after
returns-then-not-is_after c = search (rules, turn_stops)

pub loop-i-preserved : goal.loop-i-preserved
loop-i-preserved c = search (rules, turn_more)

pub returns : goal.returns
returns c = search (rules, turn_done)
