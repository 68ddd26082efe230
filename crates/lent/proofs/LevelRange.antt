-- Each level is from 1 to 8 where they all are.
-- It is the first of them or one of the rest.
use mathlib.Core.Path.{◌≡◌}
use mathlib.Core.Bool.{true, ◌&&◌, and-eq-true_iff}
use mathlib.Core.List.{List, [], ◌∷◌}
use Prim.Native.Nat.{ℕ, zero, suc, ◌≤◌, ◌<◌}
use native.Mathlib.Omega.{arith}
use lib.Dec.{leb}
use lib.ListN.{length, get_or}
use borrow.Author.Tests.{leb-true}
use Rattle.lent.specs.Questions.{levels_in_range}

pub level_in : (levels : List ℕ) (i : ℕ) → i < length levels → levels_in_range levels ≡ true → (1 ≤ get_or levels i 0) × (get_or levels i 0 ≤ 8)
level_in [] i less e = absurd (omega arith)
level_in (l ∷ levels) zero less e =
    let both = (and-eq-true_iff (leb 1 l && leb l 8) (levels_in_range levels)).0 e in
    let own = (and-eq-true_iff (leb 1 l) (leb l 8)).0 both.0 in
    (leb-true 1 l own.0, leb-true l 8 own.1)
level_in (l ∷ levels) (suc i) less e =
    level_in levels i (omega arith) ((and-eq-true_iff (leb 1 l && leb l 8) (levels_in_range levels)).0 e).1
