-- `materialsheet::printing::printed` meets its contract: what its answer stands for, the output, the arena and the scratch are as defined, refusals included.
-- Each way out is one of the definition: a check of the file, a check of what was lent, or the face printed.
use native.Mathlib.Omega.{arith}
use Rattle.std.proofs.lemmas.Result.{err_from_is_err_and}
use Rattle.lent.proofs.Calling.{counts_few}
use Rattle.materialsheet.proofs.SheetCall.{sheet_file, sheet_asked, sheet_builds, sheet_prints, sheet_left}
use Rattle.materialsheet.proofs.printing.printed.Goals as goal

pub returns-in_err-counts : goal.returns-in_err-counts
returns-in_err-counts c =
    let p = err_from_is_err_and c.from_residual.result c.from_residual.ensures.1 in
    rw (p.1, p.2) (sheet_file _ _ _ _ _ _ _ _ _ c.in_err-counts.ensures)

pub overflow_mul-room : goal.overflow_mul-room
overflow_mul-room c = let few = (counts_few _ _ c.in_ok-counts.ensures).gauges in omega arith

pub overflow_add-room : goal.overflow_add-room
overflow_add-room c = let few = (counts_few _ _ c.in_ok-counts.ensures).gauges in omega arith

pub returns-in_err-asked : goal.returns-in_err-asked
returns-in_err-asked c =
    let p = err_from_is_err_and c.from_residual-in_err-asked.result c.from_residual-in_err-asked.ensures.1 in
    rw (p.1, p.2) (sheet_asked _ _ _ _ _ _ _ _ _ c.in_ok-counts.ensures _ c.in_err-asked.ensures)

pub build-requires : goal.build-requires
build-requires c =
    sheet_builds _ _ _ _ _ _ c.args.scratch.now c.args.output.now _ c.in_ok-counts.ensures c.in_ok-asked.ensures

pub print_face-requires : goal.print_face-requires
print_face-requires c =
    sheet_prints _ c.args.levels.now _ _ _ c.args.arena.now _ _ _ c.in_ok-counts.ensures c.in_ok-asked.ensures

pub returns : goal.returns
returns c =
    sheet_left _ _ _ _ _ _ _ _ _ c.in_ok-counts.ensures c.in_ok-asked.ensures _ _ _ _ _ c.build.ensures c.print_face.ensures
