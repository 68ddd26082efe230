-- `facewords::reader::first_word` meets its contract.
-- For each way out a law of `FirstWord` takes the tests that lead to it.
use borrow.Author.Rules.{rules}
use Rattle.facewords.proofs.FirstWord.{first_missing, first_out, first_fine}
use Rattle.facewords.proofs.reader.first_word.Goals as goal

pub returns-in_default : goal.returns-in_default
returns-in_default c = search (rules, first_missing, c.in_default.ensures.item)

pub returns-then-not-is_within : goal.returns-then-not-is_within
returns-then-not-is_within c = search (rules, first_out, c.in-Some.ensures.item)

pub returns : goal.returns
returns c = search (rules, first_fine, c.in-Some.ensures.item)
