-- `report::face::told` meets its contract.
-- A refused file has the line of its check, and the levels that are filled in of a taken one are in range, by `levelled`.
use mathlib.Core.Path.{refl}
use Rattle.std.proofs.lemmas.Result.{err_from_is_err_and}
use Rattle.lent.proofs.Calling.{counts_few}
use Rattle.rendering.specs.Room.{text_bytes}
use Rattle.report.proofs.Levelling.{levelled, fillable}
use Rattle.report.proofs.Telling.{told_refused, tallied_part, part_counted}
use Rattle.report.proofs.face.told.Goals as goal

pub returns-in_err-counted : goal.returns-in_err-counted
returns-in_err-counted c =
    let p = err_from_is_err_and c.from_residual.result c.from_residual.ensures.1 in
    rw (p.1, p.2) (told_refused _ _ c.in_err-counted.ensures text_bytes _)

pub slice_bounds-room-end : goal.slice_bounds-room-end
slice_bounds-room-end c = (counts_few _ _ c.in_ok-counted.ensures).sizes

pub slice_bounds-levels-end : goal.slice_bounds-levels-end
slice_bounds-levels-end c = part_counted _ _ (counts_few _ _ c.in_ok-counted.ensures).sizes

pub fill_taken-requires : goal.fill_taken-requires
fill_taken-requires c =
    fillable _ _ _ (tallied_part _ _ c.in_ok-counted.ensures _ (part_counted _ _ (counts_few _ _ c.in_ok-counted.ensures).sizes))

pub placed_text-requires-clause-levelled : goal.placed_text-requires-clause-levelled
placed_text-requires-clause-levelled c =
    levelled _ _ _ (tallied_part _ _ c.in_ok-counted.ensures c.in_ok-counted.counted.sizes refl) _ c.fill_taken.ensures
