-- `shapes::listing::write_list` meets its contract.
-- The built list is the root's, and each way of writing gives the face's outer sizes.
use native.Mathlib.Omega.{arith}
use Rattle.shapes.proofs.RootLaws.{writes_ready, writes_few, writes_height, writes_width}
use Rattle.shapes.proofs.listing.write_list.Goals as goal

pub build-kind-requires : goal.build-kind-requires
build-kind-requires c = c.requires.ready

pub write_by_width-requires : goal.write_by_width-requires
write_by_width-requires c = writes_ready _ _ _ _ _ _ _ c.build-kind.ensures c.requires

pub overflow_cast-result : goal.overflow_cast-result
overflow_cast-result c =
    record { fits = let few = writes_few _ _ _ _ _ _ _ c.build-kind.ensures c.requires _ (λ rs l. (c.write_by_width.ensures rs l).0) in omega arith }

pub returns-in-Stacked : goal.returns-in-Stacked
returns-in-Stacked c = writes_width _ _ _ _ _ _ _ c.build-kind.ensures c.requires _ _ c.in-Stacked.is c.write_by_width.ensures

pub write_by_height-requires : goal.write_by_height-requires
write_by_height-requires c = writes_ready _ _ _ _ _ _ _ c.build-kind.ensures c.requires

pub overflow_cast-result-in_default : goal.overflow_cast-result-in_default
overflow_cast-result-in_default c =
    record { fits = let few = writes_few _ _ _ _ _ _ _ c.build-kind.ensures c.requires _ (λ rs l. (c.write_by_height.ensures rs l).0) in omega arith }

pub returns-in_default : goal.returns-in_default
returns-in_default c =
    writes_height _ _ _ _ _ _ _ c.build-kind.ensures c.requires _ _ c.in_default.not-Stacked c.write_by_height.ensures
