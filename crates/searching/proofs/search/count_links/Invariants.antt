-- `searching::search::count_links` meets its contract.
-- The loop keeps `Counting`, that the links below n are on records in front.
use Rattle.searching.proofs.CountLaws.{Counting}
use Rattle.searching.proofs.search.count_links.Given as goal

abbrev pub invariant-loop-n : goal.invariant-loop-n
invariant-loop-n l = Counting l.arena l.head l.key l.n
