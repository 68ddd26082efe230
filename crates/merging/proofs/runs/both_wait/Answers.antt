-- `merging::runs::both_wait` meets its contract.
-- It tests the first forward of each head, as `both_wait` does, and the second one only where the first is not 0.
use mathlib.Core.Path.{refl, ◌∙◌}
use borrow.Author.Tests.{lt-leb}
use Rattle.merging.proofs.RunsLaws.{none_waits, newer_waits}
use Rattle.merging.proofs.runs.both_wait.Goals as goal

pub returns-then-get-ge1 : goal.returns-then-get-ge1
returns-then-get-ge1 c = newer_waits _ _ _ _ _ _ c.get.ensures c.if-get-ge1.true c.get-then-get-ge1.ensures refl

pub returns-else-get-ge1 : goal.returns-else-get-ge1
returns-else-get-ge1 c = lt-leb _ _ c.if-get-ge1.false ∙ none_waits _ _ _ _ c.get.ensures c.if-get-ge1.false
