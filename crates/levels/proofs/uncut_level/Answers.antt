-- `levels::uncut_level` meets its contract: the trailing zeros of r, halved, plus one are the uncut level of size r.
-- A size number is at least 1 and at most 512, so the law on trailing zeros has it; there are at most 32 of them, so the sum fits.
use borrow.Author.Rules.{rules}
use lib.Count.{trailing_le}
use Rattle.levels.proofs.TrailingZeros.{uncut_zeros}
use Rattle.levels.proofs.uncut_level.Goals as goal

pub overflow_add-result : goal.overflow_add-result
overflow_add-result c = search (rules, trailing_le 32 c.args.r)

pub returns : goal.returns
returns c = uncut_zeros c.args.r (search rules) (search rules)
