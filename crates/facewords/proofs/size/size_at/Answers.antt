-- `facewords::size::size_at` meets its contract.
-- The words that are left at a place begin with those that stand there.
use borrow.Author.Rules.{rules}
use Rattle.facewords.proofs.WordSizes.{size_in_words_at}
use Rattle.facewords.proofs.size.size_at.Goals as goal

pub returns : goal.returns
returns c = search (rules, size_in_words_at)
