-- `parts::heads::copy_head` meets its contract.
-- The loop keeps `Copying`, that the first j words are copied.
use Rattle.parts.proofs.CopyLaws.{Copying}
use Rattle.parts.proofs.heads.copy_head.Given as goal

abbrev pub invariant-loop-j : goal.invariant-loop-j
invariant-loop-j l = Copying l.initial.arena l.from l.to l.arena l.j
