-- `arena::words::store` meets its contract.
-- What it writes is `put` by its definition; the index is inside since the arena has the whole record.
use Rattle.std.proofs.Common.{refl}
use Rattle.arena.specs.inside.Chain.{put}
use Rattle.arena.proofs.words.store.Goals as goal

pub returns : goal.returns
unfolding put
returns c = refl
