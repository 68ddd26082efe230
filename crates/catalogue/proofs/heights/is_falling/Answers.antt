-- `catalogue::heights::is_falling` meets its contract.
-- The heights left decide, after the one before them.
use Rattle.catalogue.proofs.HeightLaws.{fall_first}
use Rattle.catalogue.proofs.heights.is_falling.Goals as goal

pub loop-height-init : goal.loop-height-init
loop-height-init c = fall_first c.args.heights.now (c.type_inv.heights 0).fits
