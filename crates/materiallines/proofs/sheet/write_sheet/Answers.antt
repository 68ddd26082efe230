-- `materiallines::sheet::write_sheet` meets its contract.
-- The whole text fits, so each part of it does, and written in turn on a new page they are the sheet, by `sheet_is_printed`.
use native.Mathlib.Omega.{arith}
use borrow.Author.Rules.{rules}
use Rattle.materiallines.proofs.SheetParts.{listable, used_inside, used_fits, blank_line_fits, face_fits, sheet_is_printed}
use Rattle.materiallines.proofs.sheet.write_sheet.Goals as goal

pub write_gauges-requires : goal.write_gauges-requires
write_gauges-requires c = listable _ c.args.face (omega arith) _ c.requires _ c.new-page.ensures

pub named-requires : goal.named-requires
named-requires c =
    used_fits _ c.args.face (omega arith) _ c.requires _ c.new-page.ensures _ c.total_area-used.ensures _ c.write_gauges.ensures

pub overflow_sub-face : goal.overflow_sub-face
overflow_sub-face c =
    used_inside _ c.args.face (omega arith) _ c.requires _ c.new-page.ensures _ c.total_area-used.ensures

pub named-requires-2 : goal.named-requires-2
named-requires-2 c =
    blank_line_fits _ c.args.face (omega arith) _ c.requires _ c.new-page.ensures _ c.total_area-used.ensures _ c.write_gauges.ensures _ c.named.ensures

pub named-requires-3 : goal.named-requires-3
named-requires-3 c =
    face_fits _ c.args.face (omega arith) _ c.requires _ c.new-page.ensures _ c.total_area-used.ensures _ c.write_gauges.ensures _ c.named.ensures _ c.named-2.ensures

pub returns : goal.returns
returns c =
    sheet_is_printed _ c.args.face (omega arith) _ c.requires _ c.new-page.ensures _ c.total_area-used.ensures _ c.write_gauges.ensures _ c.named.ensures _ c.named-2.ensures _ c.named-3.ensures _ (search rules)
