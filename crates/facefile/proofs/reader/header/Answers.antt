-- `facefile::reader::header` meets its contract.
-- For each way out a law of `Reading` takes the tests that lead to it.
use Rattle.facefile.proofs.Reading.{header_short, header_unmarked, header_version, header_count, header_good}
use borrow.Author.Rules.{rules}
use Rattle.facefile.proofs.reader.header.Goals as goal

pub returns-then-file-lt7 : goal.returns-then-file-lt7
returns-then-file-lt7 c = search (rules, header_short)

pub returns-then-not-starts_with : goal.returns-then-not-starts_with
returns-then-not-starts_with c = search (rules, header_unmarked)

pub returns-then-not-is_within : goal.returns-then-not-is_within
returns-then-not-is_within c = search (rules, header_version)

pub returns-then-not-is_within-2 : goal.returns-then-not-is_within-2
returns-then-not-is_within-2 c = search (rules, header_count)

pub returns : goal.returns
returns c = search (rules, header_good)
