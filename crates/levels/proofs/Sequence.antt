-- The list of levels as a sequence: how long it is, what stands at a place, and what one size more adds to its end.
-- Each holds by induction on the number of sizes, since the definition gives the first size and then the rest.
use mathlib.Core.Path.{◌≡◌, refl, ap, ◌∙◌}
use mathlib.Core.List.{List, [], ◌∷◌, ◌++◌}
use Prim.Native.Nat.{ℕ, zero, suc, ◌+◌, ◌<◌, min}
use native.Mathlib.Nat.{add-zero, add-suc, suc-add, le_of_suc-le-suc, not-suc-le-zero}
use lib.ListN.{length, get_or}
use Rattle.levels.specs.Levels.{uncut_level, levels_from}

pub length_levels : (top r count : ℕ) → length (levels_from top r count) ≡ count
unfolding levels_from
length_levels top r zero = refl
length_levels top r (suc count) = ap suc (length_levels top (suc r) count)

pub level_at : (top r count i : ℕ) → i < count → get_or (levels_from top r count) i 0 ≡ min (uncut_level (r + i)) top
unfolding levels_from
level_at top r zero i h = absurd (not-suc-le-zero h)
level_at top r (suc count) zero h = rw add-zero
level_at top r (suc count) (suc i) h = level_at top (suc r) count i (le_of_suc-le-suc h) ∙ rw (suc-add, add-suc)

pub one_more : (top r count : ℕ) → levels_from top r (suc count) ≡ levels_from top r count ++ (min (uncut_level (r + count)) top ∷ [])
unfolding levels_from
one_more top r zero = rw add-zero
one_more top r (suc count) =
    ap (λ (l : List ℕ). min (uncut_level r) top ∷ l) (one_more top (suc r) count ∙ rw (suc-add, add-suc))
