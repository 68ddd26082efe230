-- `levels::fill_taken` meets its contract.
-- The depths are those of the tree that the file means, so the top level and the levels are the face's own.
use Rattle.levels.proofs.Call.{room_few, least_few, own_levels}
use Rattle.levels.proofs.fill_taken.Goals as goal

pub top_level-top-requires : goal.top_level-top-requires
top_level-top-requires c = (room_few _ _ c.requires, least_few _ _ c.requires _ c.depths_of.ensures)

pub fill_cut-requires : goal.fill_cut-requires
fill_cut-requires c = room_few _ _ c.requires

pub returns : goal.returns
returns c =
    own_levels _ _ c.requires _ _ _ c.depths_of.ensures c.top_level-top.ensures c.fill_cut.ensures
