-- `parts::join::join` meets its contract.
-- Each call leaves what the next one needs, and the last one puts the merge in the older part's place.
use Rattle.parts.proofs.JoinedPart.{join_older, join_newer, join_merges, join_done}
use Rattle.parts.proofs.join.join.Goals as goal

pub facing-first-requires : goal.facing-first-requires
facing-first-requires c = join_older _ c.requires.rib_small _ _ _ _ c.requires.joinable

pub facing-second-requires : goal.facing-second-requires
facing-second-requires c = join_newer _ c.requires.rib_small _ _ _ _ _ _ c.facing-first.ensures c.requires.joinable

pub merge-requires : goal.merge-requires
merge-requires c =
    join_merges _ c.requires.rib_small _ _ _ _ _ _ c.facing-first.ensures _ _ c.facing-second.ensures c.requires.joinable

pub returns : goal.returns
returns c =
    join_done _ c.requires.rib_small _ _ _ _ _ _ c.facing-first.ensures _ _ c.facing-second.ensures _ c.merge.ensures _ c.copy_head.ensures
