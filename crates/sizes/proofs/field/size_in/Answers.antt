-- `sizes::field::size_in` meets its contract.
-- Size k stands four bytes after the size before it.
use borrow.Author.Rules.{rules}
use Rattle.sizes.proofs.SizesIn.{size_in}
use Rattle.sizes.proofs.field.size_in.Goals as goal

pub returns : goal.returns
returns c = search (rules, size_in)
