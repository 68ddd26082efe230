-- `laying::lay::item_at` meets its contract.
-- A part's list, read as for a row, is its shape list by height.
use Rattle.laying.proofs.ShapeReading.{place_ready, can_read_shape, shape_read}
use Rattle.laying.proofs.lay.item_at.Goals as goal

pub stretch-requires : goal.stretch-requires
stretch-requires c = place_ready _ _ _ c.requires

pub item-requires : goal.item-requires
item-requires c = can_read_shape _ _ _ _ c.stretch.ensures c.requires

pub returns : goal.returns
returns c = shape_read _ _ _ _ c.stretch.ensures _ c.item.ensures
