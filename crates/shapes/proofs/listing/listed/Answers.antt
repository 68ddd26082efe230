-- `shapes::listing::listed` meets its contract: the answer, the output, the arena and the scratch are as defined, refusals included.
-- Each way out is one of the definition: a check of the file, a check of what was lent, or the list written.
use Rattle.std.proofs.lemmas.Result.{err_from_is_err_and}
use Rattle.lent.proofs.Calling.{counts_few}
use Rattle.shapes.proofs.ListCall.{list_no_file, list_no_asked, list_writable, list_done}
use Rattle.shapes.proofs.listing.listed.Goals as goal

pub returns-in_err-counts : goal.returns-in_err-counts
returns-in_err-counts c =
    let p = err_from_is_err_and c.from_residual.result c.from_residual.ensures.1 in
    rw (p.1, p.2) (list_no_file _ _ _ _ _ _ _ c.in_err-counts.ensures)

pub asked-requires : goal.asked-requires
asked-requires c = let few = counts_few _ _ c.in_ok-counts.ensures in (few.one_each, few.sizes)

pub returns-in_err-asked : goal.returns-in_err-asked
returns-in_err-asked c =
    let p = err_from_is_err_and c.from_residual-in_err-asked.result c.from_residual-in_err-asked.ensures.1 in
    rw (p.1, p.2) (list_no_asked _ _ _ _ _ _ _ c.in_ok-counts.ensures _ c.in_err-asked.ensures)

pub write_list-requires : goal.write_list-requires
write_list-requires c =
    list_writable _ _ _ _ c.args.scratch.now _ _ c.in_ok-counts.ensures c.in_ok-asked.ensures

pub returns : goal.returns
returns c = list_done _ _ _ _ _ _ _ c.in_ok-counts.ensures c.in_ok-asked.ensures _ _ _ _ c.write_list.ensures
