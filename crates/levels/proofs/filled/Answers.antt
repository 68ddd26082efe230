-- `levels::filled` meets its contract: the answer and the buffer are those of the definition, at every way out.
-- For each way out a law of `Call` takes what the file's counts and the question answered.
use Rattle.std.proofs.lemmas.Result.{err_from_is_err_and}
use Rattle.levels.proofs.Call.{fill_no_file, fill_no_count, fill_fits, fill_done}
use Rattle.levels.proofs.filled.Goals as goal

pub returns-in_err-counts : goal.returns-in_err-counts
returns-in_err-counts c =
    let p = err_from_is_err_and c.from_residual.result c.from_residual.ensures.1 in
    let both = fill_no_file _ c.args.levels.now _ c.in_err-counts.ensures in
    rw (p.1, p.2) (record { value = both.0; levels_after = both.1 })

pub returns-in_err-level_count : goal.returns-in_err-level_count
returns-in_err-level_count c =
    let p = err_from_is_err_and c.from_residual-in_err-level_count.result c.from_residual-in_err-level_count.ensures.1 in
    let both = fill_no_count _ c.args.levels.now _ c.in_ok-counts.ensures _ c.in_err-level_count.ensures in
    rw (p.1, p.2) (record { value = both.0; levels_after = both.1 })

pub fill_taken-requires : goal.fill_taken-requires
fill_taken-requires c = fill_fits _ _ _ c.in_ok-counts.ensures c.in_ok-level_count.ensures

pub returns : goal.returns
returns c =
    let both = fill_done _ c.args.levels.now _ c.in_ok-counts.ensures c.in_ok-level_count.ensures _ c.fill_taken.ensures in
    record { value = both.0; levels_after = both.1 }
