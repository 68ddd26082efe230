-- `arena::words::raise` meets its contract.
-- What it writes is `put` of a wrapping sum by the definitions; the index is inside since the arena has the whole record.
use Rattle.arena.specs.Arena.{word}
use Rattle.arena.specs.inside.Chain.{put, wrap}
use Rattle.arena.proofs.words.raise.Goals as goal

pub returns : goal.returns
unfolding put word wrap
returns c = cc
