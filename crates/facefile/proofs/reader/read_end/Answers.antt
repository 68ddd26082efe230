-- `facefile::reader::read_end` meets its contract.
-- For each way out a law of `Reading` takes the tests that lead to it.
use Rattle.facefile.proofs.Reading.{end_parts, end_left, end_taken}
use mathlib.Core.Path.{◌∙◌}
use borrow.Author.Rules.{rules}
use Rattle.facefile.proofs.reader.read_end.Goals as goal

pub returns-then-c-ne1 : goal.returns-then-c-ne1
returns-then-c-ne1 c = λ l total fair. end_parts l _ (search rules)

pub returns-then-c-total : goal.returns-then-c-total
returns-then-c-total c = λ l total fair. end_left l _ fair (search rules) (λ e. c.if-c-total.true (e ∙ total))

pub returns : goal.returns
returns c = λ l total fair. end_taken l _ (search rules) (search rules)
