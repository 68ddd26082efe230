-- `lent::level_checks::levels_in_range` meets its contract.
-- The levels passed so far and those left after them decide together as all do.
use mathlib.Core.Path.{◌≡◌}
use mathlib.Core.Bool.{◌&&◌}
use lib.ListN.{drop}
use Rattle.lent.specs.Questions.{levels_in_range}
use Rattle.lent.proofs.level_checks.levels_in_range.Given as goal

abbrev pub invariant-loop-level : goal.invariant-loop-level
invariant-loop-level l = (l.fine && levels_in_range (drop l.level-index l.levels)) ≡ levels_in_range l.levels
