-- `gauges::gauge_words::put_gauge` meets its contract: the words of the gauge are written.
-- Its kind, its number of sizes and its sizes are written in turn.
use mathlib.Core.Path.{sym}
use mathlib.Core.List.{[], ◌∷◌}
use Rattle.text.proofs.Pages.{same_fit, same_wrote, first_fits, rest_fits, both_wrote}
use Rattle.gauges.proofs.Sizing.{gauge_same}
use Rattle.gauges.proofs.gauge_words.put_gauge.Goals as goal

pub put-requires : goal.put-requires
put-requires c = first_fits _ (0x01 ∷ []) _ c.requires.2

pub put-requires-2 : goal.put-requires-2
put-requires-2 c =
    first_fits _ (_ ∷ []) _
    (rest_fits _ (0x01 ∷ []) _ _ c.put.ensures (same_fit _ _ _ (gauge_same _ _) c.requires.2))

pub put_sizes-requires : goal.put_sizes-requires
put_sizes-requires c = (
  c.requires.1,
  rest_fits _ (_ ∷ []) _ _ c.put-2.ensures
      (rest_fits _ (0x01 ∷ []) _ _ c.put.ensures (same_fit _ _ _ (gauge_same _ _) c.requires.2)),
)

pub returns : goal.returns
returns c =
    same_wrote _ _ _ _ (sym (gauge_same _ _))
    (both_wrote _ _ _ _ c.put.ensures _ (both_wrote _ _ _ _ c.put-2.ensures _ c.put_sizes.ensures))
