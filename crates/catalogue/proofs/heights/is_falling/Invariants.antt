-- `catalogue::heights::is_falling` meets its contract.
-- The heights left decide, after the one before them.
use mathlib.Core.Path.{◌≡◌}
use lib.ListN.{drop}
use Rattle.catalogue.specs.Heights.{fall_from, fall}
use Rattle.catalogue.proofs.heights.is_falling.Given as goal

abbrev pub invariant-loop-height : goal.invariant-loop-height
invariant-loop-height l = fall l.heights ≡ fall_from l.before (drop l.height-index l.heights)
