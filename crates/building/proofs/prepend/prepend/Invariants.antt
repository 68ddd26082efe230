-- `building::prepend::prepend` meets its contract.
-- The loop keeps `Prepending`, that the links from k up are hooked.
use Rattle.building.proofs.HookLaws.{Prepending}
use Rattle.building.proofs.prepend.prepend.Given as goal

abbrev pub invariant-loop-k : goal.invariant-loop-k
invariant-loop-k l = Prepending l.initial.arena l.head l.r l.arena l.k
