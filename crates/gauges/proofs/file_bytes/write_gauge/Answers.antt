-- `gauges::file_bytes::write_gauge` meets its contract.
-- The kind, the number of sizes and the sizes are written in turn.
use mathlib.Core.Path.{sym}
use mathlib.Core.List.{[], ◌∷◌}
use Rattle.text.proofs.Pages.{same_fit, same_wrote, first_fits, rest_fits, both_wrote}
use Rattle.gauges.proofs.FileBytes.{gauge_few, gauge_same}
use Rattle.gauges.proofs.file_bytes.write_gauge.Goals as goal

pub put-requires : goal.put-requires
put-requires c = let k = c.requires in first_fits _ (0x01 ∷ []) _ k.2

pub overflow_cast-sizes : goal.overflow_cast-sizes
overflow_cast-sizes c = let k = c.requires in record { fits = gauge_few _ k.0 k.1 }

pub put-requires-2 : goal.put-requires-2
put-requires-2 c =
    let k = c.requires in
    first_fits _ (_ ∷ []) _ (rest_fits _ (0x01 ∷ []) _ _ c.put.ensures (same_fit _ _ _ (gauge_same _ k.0 k.1) k.2))

pub write_sizes-requires : goal.write_sizes-requires
write_sizes-requires c =
    let k = c.requires in (
      k.0,
      k.1,
      rest_fits _ (_ ∷ []) _ _ c.put-2.ensures
          (rest_fits _ (0x01 ∷ []) _ _ c.put.ensures (same_fit _ _ _ (gauge_same _ k.0 k.1) k.2)),
    )

pub returns : goal.returns
returns c = λ z g.
    same_wrote _ _ _ _ (sym (gauge_same _ z g))
    (both_wrote _ _ _ _ c.put.ensures _ (both_wrote _ _ _ _ c.put-2.ensures _ (c.write_sizes.ensures z g)))
