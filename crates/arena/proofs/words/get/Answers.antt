-- `arena::words::get` meets its contract.
-- What it reads is `word` by its definition; the index is inside since the arena has the whole record.
use Rattle.std.proofs.Common.{refl}
use Rattle.arena.specs.Arena.{word}
use Rattle.arena.proofs.words.get.Goals as goal

pub returns : goal.returns
unfolding word
returns c = refl
