-- `writing::write::write_item` meets its contract.
-- Both places are inside, and the two stores are the definition.
use borrow.Author.Rules.{rules}
use native.Mathlib.Omega.{arith}
use lib.ListN.{length-set}
use Rattle.writing.specs.inside.Writing.{item_at}
use Rattle.writing.proofs.write.write_item.Goals as goal

pub bounds-output-at-2 : goal.bounds-output-at-2
bounds-output-at-2 c = simp length-set (omega arith)

pub returns : goal.returns
unfolding item_at
returns c = search rules
