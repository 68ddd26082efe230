-- What was written over a buffer's start stands there.
-- It is the beginning of the buffer, as long as it is.
use mathlib.Core.Path.{◌≡◌, sym, ap, ◌∙◌}
use mathlib.Core.List.{List}
use Prim.Native.Nat.{ℕ}
use lib.ListN.{length, take, drop}
use lib.Seq.{take_at}
use Rattle.lent.specs.Lent.{written_over}

pub starts : (k : ℕ) (words old new : List ℕ) → new ≡ written_over words old → k ≡ length words → take k new ≡ words
unfolding written_over
starts k words old new e n = ap (λ (l : List ℕ). take k l) e ∙ take_at words (drop (length words) old) k (sym n)
