-- `catalogue::cataloguing::catalogued` meets its contract: the answer, the output, the arena and the scratch are as defined, refusals included.
-- Each way out is one of the definition: a check of the file, a check of what was given and lent, or the list written and walked.
use native.Mathlib.Omega.{arith}
use Rattle.std.proofs.lemmas.Result.{err_from_is_err_and}
use Rattle.catalogue.proofs.WidthCall.{width_no_file, width_no_asked, width_writable, width_walkable, width_looks_fit, width_done}
use Rattle.catalogue.proofs.cataloguing.catalogued.Goals as goal

pub returns-in_err-counts : goal.returns-in_err-counts
returns-in_err-counts c =
    let p = err_from_is_err_and c.from_residual.result c.from_residual.ensures.1 in
    rw (p.1, p.2) (width_no_file _ _ _ _ _ _ _ _ c.in_err-counts.ensures)

pub returns-in_err-asked : goal.returns-in_err-asked
returns-in_err-asked c =
    let p = err_from_is_err_and c.from_residual-in_err-asked.result c.from_residual-in_err-asked.ensures.1 in
    rw (p.1, p.2) (width_no_asked _ _ _ _ _ _ _ _ c.in_ok-counts.ensures _ c.in_err-asked.ensures)

pub write_list-items-requires : goal.write_list-items-requires
write_list-items-requires c =
    width_writable _ _ _ _ _ _ c.args.output.now _ c.in_ok-counts.ensures c.in_ok-asked.ensures

pub walk-requires : goal.walk-requires
walk-requires c =
    width_walkable _ _ _ _ c.args.arena.now _ _ _ c.in_ok-counts.ensures c.in_ok-asked.ensures _ _ _ c.write_list-items.ensures

pub overflow_cast-result : goal.overflow_cast-result
overflow_cast-result c =
    let few = width_looks_fit _ _ _ _ c.args.arena.now _ _ _ c.in_ok-counts.ensures c.in_ok-asked.ensures _ _ _ c.write_list-items.ensures _ _ c.walk.ensures in
    record { fits = omega arith }

pub returns : goal.returns
returns c =
    width_done _ _ _ _ _ _ _ _ c.in_ok-counts.ensures c.in_ok-asked.ensures _ _ _ c.write_list-items.ensures _ _ c.walk.ensures _
