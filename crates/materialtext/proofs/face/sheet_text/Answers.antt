-- `materialtext::face::sheet_text` meets its contract.
-- The sheet's answer says whether the line of a refusal or the sheet is due, by `told_none` and `told_sheet`.
use native.Mathlib.Omega.{arith}
use borrow.Author.Rules.{rules}
use Rattle.std.proofs.lemmas.Result.{err_from_is_err_and}
use Rattle.materialtext.specs.Material.{material_bytes}
use Rattle.materialtext.proofs.Telling.{told_asked, told_none, told_sheet}
use Rattle.materialtext.proofs.face.sheet_text.Goals as goal

pub print_face-requires : goal.print_face-requires
print_face-requires c = told_asked _ _ c.requires.gauged _ _ (omega arith) c.requires.text_long

pub returns-in_err-length : goal.returns-in_err-length
returns-in_err-length c =
    let p = err_from_is_err_and c.from_residual.result c.from_residual.ensures.1 in
    rw (p.1, p.2) (told_none _ _ c.requires.gauged _ _ _ c.in_err-length.ensures material_bytes)

pub returns : goal.returns
returns c =
    told_sheet _ _ c.requires.gauged _ _ _ c.requires.text_long c.in_ok-length.ensures (search rules)
