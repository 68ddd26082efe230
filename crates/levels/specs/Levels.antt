-- Document 01, "Levels and the rest": the level of each size, and the levels call.
use Rattle.std.specs.Prelude.{true, false, cond, List, [], ◌∷◌, ℕ, zero, suc, ◌+◌, ◌*◌, ◌/◌, ◌%◌, ◌^◌, min, leb, ltb, eqb}
use Rattle.checks.specs.Answer.{Answer, outcome}
use Rattle.slicing.specs.Tree.{Tree, size_count, least_depth, most_depth}
use Rattle.lent.specs.Questions.{level_count}
use Rattle.lent.specs.Call.{call_on}

-- The times that 4 divides r, at most `bound`.
unfoldable pub times_four : ℕ → ℕ → ℕ
times_four zero r = 0
times_four (suc bound) r = elim (eqb (r % 4) 0) [ true ↦ suc (times_four bound (r / 4)) | false ↦ 0 ]

-- Size r has level 1 plus the times that 4 divides r. (4 divides no r above 0 as often as r times.)
unfoldable pub uncut_level : ℕ → ℕ
uncut_level r = 1 + times_four r r

-- The largest k with 8 times 4^k at most n, of those up to `bound`, and 0 where there is none.
unfoldable pub largest_power : ℕ → ℕ → ℕ
largest_power zero n = 0
largest_power (suc bound) n = cond (leb (8 * 4 ^ suc bound) n) (suc bound) (largest_power bound n)

-- The top level is 1 if 2D is at least E. Else it is the largest k with 8 times 4^k at most n, and 1 for n under 32. (8 times 4^n is above n, so n bounds k.)
unfoldable pub top_level : ℕ → ℕ → ℕ → ℕ
top_level n d e = cond (leb e (2 * d)) 1 (cond (ltb n 32) 1 (largest_power n n))

-- The levels of `count` sizes from size r on, each cut to the top level.
unfoldable pub levels_from : ℕ → ℕ → ℕ → List ℕ
levels_from top r zero = []
levels_from top r (suc count) = min (uncut_level r) top ∷ levels_from top (suc r) count

-- The levels of a face's sizes 1 to n.
unfoldable pub levels_of : Tree → List ℕ
levels_of t = levels_from (top_level (size_count t) (least_depth t) (most_depth t)) 1 (size_count t)

-- The levels call makes checks 1 to 14, for a buffer of `room` bytes. What is taken is the face.
unfoldable pub levels_call : Answer Tree → ℕ → Answer Tree
levels_call face room = call_on face (λ t. level_count (size_count t) room)

-- "The call fills a levels buffer of n bytes": it is as it was where the call is not taken.
abbrev pub levels_filled : Answer Tree → List ℕ → List ℕ
levels_filled r old = outcome r old levels_of
