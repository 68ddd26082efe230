-- `materialtext::face::told` meets its contract.
-- A refused file has the line of its check, and a taken one what `sheet_text` says of it.
use Rattle.std.proofs.lemmas.Result.{err_from_is_err_and}
use Rattle.materialtext.specs.Material.{material_bytes}
use Rattle.materialtext.proofs.Telling.{told_refused, gauged}
use Rattle.materialtext.proofs.face.told.Goals as goal

pub returns-in_err-counted : goal.returns-in_err-counted
returns-in_err-counted c =
    let p = err_from_is_err_and c.from_residual.result c.from_residual.ensures.1 in
    rw (p.1, p.2) (told_refused _ _ c.in_err-counted.ensures material_bytes _)

pub sheet_text-requires : goal.sheet_text-requires
sheet_text-requires c = record { gauged = gauged _ _ c.in_ok-counted.ensures; text_long = c.requires }
