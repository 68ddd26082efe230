-- `materialsheet::face::print_face` meets its contract.
-- The placing says whether a face is inside the opening, and what is written of one that is is its sheet, by the laws of PlacedSheet.
use mathlib.Core.Path.{refl, sym}
use native.Mathlib.Omega.{arith}
use borrow.Author.Rules.{rules}
use lib.Seq.{length-take-le}
use Rattle.std.proofs.lemmas.Result.{err_from_is_err_and}
use Rattle.materialsheet.proofs.PlacedSheet.{sheet_places, words_fit, sheet_none, sheet_renderable, sheet_short, sheet_done}
use Rattle.materialsheet.proofs.face.print_face.Goals as goal

pub place_face-requires : goal.place_face-requires
place_face-requires c =
    sheet_places _ _ _ _ _ c.requires _ (omega (arith, c.requires.narrow)) _ (search rules)

pub returns-in_err-face : goal.returns-in_err-face
returns-in_err-face c =
    let p = err_from_is_err_and c.from_residual.result c.from_residual.ensures.1 in
    rw (p.1, p.2) (sheet_none _ _ _ _ _ c.requires _ _ _ _ c.in_err-face.ensures _ refl)

pub slice_bounds-layout-end : goal.slice_bounds-layout-end
slice_bounds-layout-end c = omega (arith, words_fit _ _ _ _ _ c.requires)

pub slice_bounds-write_sheet-end : goal.slice_bounds-write_sheet-end
slice_bounds-write_sheet-end c = sym (length-take-le _ _ (omega (arith, words_fit _ _ _ _ _ c.requires)))

pub write_sheet-length-requires : goal.write_sheet-length-requires
write_sheet-length-requires c =
    sheet_renderable _ _ _ _ _ c.requires _ _ _ _ c.in_ok-face.ensures refl

pub overflow_cast-result : goal.overflow_cast-result
overflow_cast-result c =
    record { fits = sheet_short _ _ _ _ _ c.requires _ _ _ _ c.in_ok-face.ensures refl _ _ c.write_sheet-length.ensures (search rules) }

pub returns : goal.returns
returns c =
    sheet_done _ _ _ _ _ c.requires _ _ _ _ c.in_ok-face.ensures refl _ _ c.write_sheet-length.ensures _ refl
