-- What the loop that fills a buffer keeps: the bytes before place i are the levels of sizes 1 to i.
-- A turn stores the level of size i + 1 at place i, which is the one that the list of levels has there.
use mathlib.Core.Path.{◌≡◌}
use mathlib.Core.List.{List}
use Prim.Native.Nat.{ℕ, ◌+◌, ◌<◌, min}
use native.Mathlib.Numerals.{add-one}
use native.Mathlib.Omega.{arith}
use lib.ListN.{length, take, set}
use lib.Seq.{take-suc-set}
use Rattle.levels.specs.Levels.{uncut_level, levels_from}
use Rattle.levels.proofs.Sequence.{one_more}

abbrev pub Filled : List ℕ → ℕ → ℕ → Type 0
Filled l top i = take i l ≡ levels_from top 1 i

pub filled_more : (l : List ℕ) (top i level : ℕ) → Filled l top i → i < length l → level ≡ min (uncut_level (i + 1)) top → Filled (set l i level) top (i + 1)
filled_more l top i level f h e =
    let place : i + 1 ≡ 1 + i = omega arith in
    cc (take-suc-set l i level h, one_more top 1 i, add-one i)
