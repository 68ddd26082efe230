-- `saving::write::saved` meets its contract: the answer and the output are as defined, refusals included.
-- Each way out is one of the definition: a check of the words, the output's, or the file written, its header first.
use mathlib.Core.Path.{refl}
use borrow.Author.Rules.{rules}
use native.Mathlib.Omega.{arith}
use Rattle.std.proofs.lemmas.Result.{err_from_is_err_and}
use Rattle.saving.proofs.WriteCall.{words_counts, file_no_words, file_no_room, file_taken, header_room, entries_room, file_few, file_done}
use Rattle.saving.proofs.write.saved.Goals as goal

pub returns-in_err-counts : goal.returns-in_err-counts
returns-in_err-counts c =
    let p = err_from_is_err_and c.from_residual.result c.from_residual.ensures.1 in
    rw (p.1, p.2) (file_no_words _ _ _ c.in_err-counts.ensures)

pub file_length-requires : goal.file_length-requires
file_length-requires c = words_counts _ _ c.in_ok-counts.ensures

pub returns-in_err-output : goal.returns-in_err-output
returns-in_err-output c =
    let p = err_from_is_err_and c.from_residual-in_err-output.result c.from_residual-in_err-output.ensures.1 in
    rw (p.1, p.2) (file_no_room _ _ _ c.in_ok-counts.ensures _ c.file_length.ensures _ c.in_err-output.ensures)

pub overflow_sub-counts : goal.overflow_sub-counts
overflow_sub-counts c =
    let k = file_taken _ c.args.output.now _ c.in_ok-counts.ensures _ c.file_length.ensures c.in_ok-output.ensures in
    let some = k.some in
    omega arith

pub overflow_cast-counts : goal.overflow_cast-counts
overflow_cast-counts c =
    let k = file_taken _ c.args.output.now _ c.in_ok-counts.ensures _ c.file_length.ensures c.in_ok-output.ensures in
    let few = k.few in
    let gauges = k.gauges in
    search rules

pub write_header-requires : goal.write_header-requires
write_header-requires c =
    header_room _ _ _ (file_taken _ c.args.output.now _ c.in_ok-counts.ensures _ c.file_length.ensures c.in_ok-output.ensures) _ c.new-page.ensures

pub write_entries-requires : goal.write_entries-requires
write_entries-requires c =
    let k = file_taken _ c.args.output.now _ c.in_ok-counts.ensures _ c.file_length.ensures c.in_ok-output.ensures in
    entries_room _ _ _ k _ c.new-page.ensures _ c.write_header.ensures

pub overflow_cast-result : goal.overflow_cast-result
overflow_cast-result c =
    let k = file_taken _ c.args.output.now _ c.in_ok-counts.ensures _ c.file_length.ensures c.in_ok-output.ensures in
    let few = file_few _ _ _ k _ c.new-page.ensures _ c.write_header.ensures _ c.write_entries.ensures _ refl in
    search rules

pub returns : goal.returns
returns c =
    let k = file_taken _ c.args.output.now _ c.in_ok-counts.ensures _ c.file_length.ensures c.in_ok-output.ensures in
    file_done _ _ _ k _ c.new-page.ensures _ c.write_header.ensures _ c.write_entries.ensures _ (search rules)
