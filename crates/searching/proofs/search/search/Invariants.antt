-- `searching::search::search` meets its contract: the cut of the list for the key, with its adjusts.
-- The loop keeps `Going`, and its measure is the present link and the records left together.
use mathlib.Core.Path.{◌≡◌}
use Rattle.std.proofs.Common.{◌+◌}
use Rattle.arena.specs.Arena.{forward}
use Rattle.arena.proofs.Walking.{count}
use Rattle.searching.proofs.SearchLaws.{Going}
use Rattle.searching.proofs.search.search.Given as goal

abbrev pub invariant-loop-i : goal.invariant-loop-i
invariant-loop-i l =
    Going l.arena l.head l.key l.links l.initial.cut.lasts l.initial.cut.adjusts l.cut.lasts l.cut.adjusts l.cur l.i × (l.cut.links ≡ l.links)

abbrev pub decreases-loop-i : goal.decreases-loop-i
decreases-loop-i l = l.i + count 512 l.arena (forward l.arena l.cur 0)
