-- `report::face::placed_text` meets its contract.
-- The face is taken and has its levels, so its list is written and it is placed; what that leaves is what `render` asks, by the laws of `Ran`.
use mathlib.Core.Path.{refl}
use Prim.Native.Nat.{◌*◌}
use native.Mathlib.Omega.{arith}
use borrow.Author.Rules.{rules}
use Rattle.std.proofs.lemmas.Result.{err_from_is_err_and}
use Rattle.rendering.specs.Room.{text_bytes}
use Rattle.report.proofs.Levelling.{writable, placeable}
use Rattle.report.proofs.Telling.{placed_none, told_asked, told_yes, placed_text, part_counted, part_few}
use Rattle.report.proofs.face.placed_text.Goals as goal

pub write_list-count-requires : goal.write_list-count-requires
write_list-count-requires c = writable _ _ _ c.requires.levelled _ _ (omega arith) (omega arith)

pub place_face-requires : goal.place_face-requires
place_face-requires c =
    let same = c.write_list-count.auto in
    placeable _ _ _ c.requires.levelled _ _ (omega arith) (omega arith)

pub returns-in_err-face : goal.returns-in_err-face
returns-in_err-face c =
    let p = err_from_is_err_and c.from_residual.result c.from_residual.ensures.1 in
    rw (p.1, p.2) (placed_none _ _ _ c.requires.levelled _ _ _ c.in_err-face.ensures text_bytes _)

pub overflow_mul-placed : goal.overflow_mul-placed
overflow_mul-placed c =
    let asked = told_asked c.args.file.now _ _ _ _ _ _ _ _ _ (record { ready = c.requires.levelled; wrote = c.write_list-count.ensures; placed_in = c.in_ok-face.ensures }) c.args.text.now (search rules) (search rules) c.requires.text_long in
    record { fits = omega arith }

pub slice_bounds-items-end : goal.slice_bounds-items-end
slice_bounds-items-end c = let asked = told_asked c.args.file.now _ _ _ _ _ _ _ _ _ (record { ready = c.requires.levelled; wrote = c.write_list-count.ensures; placed_in = c.in_ok-face.ensures }) c.args.text.now (search rules) (search rules) c.requires.text_long in asked.0.0

pub slice_bounds-layout-end : goal.slice_bounds-layout-end
slice_bounds-layout-end c = let asked = told_asked c.args.file.now _ _ _ _ _ _ _ _ _ (record { ready = c.requires.levelled; wrote = c.write_list-count.ensures; placed_in = c.in_ok-face.ensures }) c.args.text.now (search rules) (search rules) c.requires.text_long in asked.1.0

pub slice_bounds-render-end : goal.slice_bounds-render-end
slice_bounds-render-end c =
    let asked = told_asked c.args.file.now _ _ _ _ _ _ _ _ _ (record { ready = c.requires.levelled; wrote = c.write_list-count.ensures; placed_in = c.in_ok-face.ensures }) c.args.text.now (search rules) (search rules) c.requires.text_long in
    part_counted (2 * c.write_list-count.result) c.write_list-count.new.output asked.0.0

pub slice_bounds-render-end-2 : goal.slice_bounds-render-end-2
slice_bounds-render-end-2 c =
    let asked = told_asked c.args.file.now _ _ _ _ _ _ _ _ _ (record { ready = c.requires.levelled; wrote = c.write_list-count.ensures; placed_in = c.in_ok-face.ensures }) c.args.text.now (search rules) (search rules) c.requires.text_long in
    part_counted (5 * c.args.gauges) c.place_face.new.output asked.1.0

pub render-requires : goal.render-requires
render-requires c =
    let asked = told_asked c.args.file.now _ _ _ _ _ _ _ _ _ (record { ready = c.requires.levelled; wrote = c.write_list-count.ensures; placed_in = c.in_ok-face.ensures }) c.args.text.now (search rules) (search rules) c.requires.text_long in (
      part_few (2 * c.write_list-count.result) 898 c.write_list-count.new.output asked.0.1,
      part_few (5 * c.args.gauges) 320 c.place_face.new.output asked.1.1,
      c.requires.text_long,
    )

pub returns : goal.returns
returns c = (
  placed_text c.args.file.now _ _ _ _ _ _ _ _ _ (record { ready = c.requires.levelled; wrote = c.write_list-count.ensures; placed_in = c.in_ok-face.ensures }) _ _ _
      (told_yes _ _ _ _ _ _ _ _ refl c.render.ensures.printed),
  c.render.ensures.counted,
)
