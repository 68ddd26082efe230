-- `parts::heads::copy_head` meets its contract.
-- The loop keeps `Copying`, that the first j words are copied.
use borrow.Author.Rules.{rules}
use Rattle.parts.proofs.CopyLaws.{copying_start, copying_more, copying_has, copying_done}
use Rattle.parts.proofs.heads.copy_head.Goals as goal

pub loop-j-init : goal.loop-j-init
loop-j-init c = copying_start _ _ _

pub get-v-requires : goal.get-v-requires
get-v-requires c = search (rules, copying_has)

pub store-requires : goal.store-requires
store-requires c = search (rules, copying_has)

pub loop-j-preserved : goal.loop-j-preserved
loop-j-preserved c = search (rules, copying_more)

pub returns : goal.returns
returns c = search (rules, copying_done)
