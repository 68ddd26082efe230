-- `facewords::reader::counts` meets its contract.
-- For each way out a law takes what the first word, the entries and the end answered.
use mathlib.Core.Path.{refl}
use borrow.Author.Rules.{rules}
use Rattle.sizes.proofs.SizeChecks.{passed_on}
use Rattle.facefile.proofs.Reading.{read_stop, read_fair, read_next}
use Rattle.facewords.proofs.FirstWord.{read_first, first_there, by_count}
use Rattle.facewords.proofs.reader.counts.Goals as goal

pub returns-in_err-count : goal.returns-in_err-count
returns-in_err-count c =
    rw (passed_on c.from_residual.result c.in_err-count.field-0.0 c.from_residual.ensures.1) (read_first _ _ c.in_err-count.ensures)

pub read_entries-requires : goal.read_entries-requires
read_entries-requires c = first_there _ _ c.in_ok-count.ensures

pub returns-in_err-end : goal.returns-in_err-end
returns-in_err-end c =
    rw (passed_on c.from_residual-in_err-end.result c.in_err-end.field-0.0 c.from_residual-in_err-end.ensures.1)
    (read_stop _ _ _ _ _ c.read_entries.ensures _ (by_count c.args.words.now _ c.in_ok-count.ensures _ refl) _ c.in_err-end.was)

pub returns : goal.returns
returns c =
    read_next _ _ _ _ _ c.read_entries.ensures _ (by_count c.args.words.now _ c.in_ok-count.ensures _ refl) _ _ c.in_ok-end.was
    (c.read_end.ensures c.args.words.now (search rules) (read_fair _ _ _ _ _ c.read_entries.ensures _ c.in_ok-end.was))
