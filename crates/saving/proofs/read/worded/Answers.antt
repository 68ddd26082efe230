-- `saving::read::worded` meets its contract: the answer and the output are as defined, refusals included.
-- Each way out is one of the definition: a check of the file, the output's, or the words written, the number of entries first.
use native.Mathlib.Omega.{arith}
use mathlib.Core.Path.{refl}
use borrow.Author.Rules.{rules}
use Rattle.std.proofs.lemmas.Result.{err_from_is_err_and}
use Rattle.saving.proofs.ReadCall.{file_counts, words_no_file, words_no_room, words_taken, first_word_room, entries_room, words_few, words_done}
use Rattle.saving.proofs.read.worded.Goals as goal

pub returns-in_err-counts : goal.returns-in_err-counts
returns-in_err-counts c =
    let p = err_from_is_err_and c.from_residual.result c.from_residual.ensures.1 in
    rw (p.1, p.2) (words_no_file _ _ _ c.in_err-counts.ensures)

pub word_count-requires : goal.word_count-requires
word_count-requires c = file_counts _ _ c.in_ok-counts.ensures

pub returns-in_err-output : goal.returns-in_err-output
returns-in_err-output c =
    let p = err_from_is_err_and c.from_residual-in_err-output.result c.from_residual-in_err-output.ensures.1 in
    rw (p.1, p.2) (words_no_room _ _ _ c.in_ok-counts.ensures _ c.word_count.ensures _ c.in_err-output.ensures)

pub overflow_sub-counts : goal.overflow_sub-counts
overflow_sub-counts c =
    let k = words_taken _ c.args.output.now _ c.in_ok-counts.ensures _ c.word_count.ensures c.in_ok-output.ensures in
    let some = k.some in
    omega arith

pub overflow_cast-counts : goal.overflow_cast-counts
overflow_cast-counts c =
    let k = words_taken _ c.args.output.now _ c.in_ok-counts.ensures _ c.word_count.ensures c.in_ok-output.ensures in
    let few = k.few in
    let gauges = k.gauges in
    search rules

pub put-requires : goal.put-requires
put-requires c =
    first_word_room _ _ _ (words_taken _ c.args.output.now _ c.in_ok-counts.ensures _ c.word_count.ensures c.in_ok-output.ensures) _ c.new-page.ensures

pub put_entries-requires : goal.put_entries-requires
put_entries-requires c =
    let k = words_taken _ c.args.output.now _ c.in_ok-counts.ensures _ c.word_count.ensures c.in_ok-output.ensures in
    entries_room _ _ _ k _ c.new-page.ensures _ c.put.ensures

pub overflow_cast-result : goal.overflow_cast-result
overflow_cast-result c =
    let k = words_taken _ c.args.output.now _ c.in_ok-counts.ensures _ c.word_count.ensures c.in_ok-output.ensures in
    let few = words_few _ _ _ k _ c.new-page.ensures _ c.put.ensures _ c.put_entries.ensures _ refl in
    search rules

pub returns : goal.returns
returns c =
    let k = words_taken _ c.args.output.now _ c.in_ok-counts.ensures _ c.word_count.ensures c.in_ok-output.ensures in
    let same = (c.put_entries.ensures k.tree k.face_is).same in
    words_done _ _ _ k _ c.new-page.ensures _ c.put.ensures _ c.put_entries.ensures _ (search rules)
