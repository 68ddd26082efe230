-- Each question of what is given and lent: what was answered "yes" is so, and a refusal is by the question's own check.
-- A question has one test, and where it has two both were answered "yes".
use mathlib.Core.Path.{◌≡◌}
use mathlib.Core.Bool.{◌&&◌, and-eq-true_iff}
use mathlib.Core.List.{List}
use Prim.Native.Nat.{ℕ, ◌≤◌, ◌<◌}
use lib.Dec.{leb, eqb}
use lib.ListN.{length, get_or}
use borrow.Author.Tests.{leb-true, eqb-true}
use Rattle.checks.specs.declared.Check.{Check}
use Rattle.checks.specs.declared.Check.TheVariants.{LevelCount, LevelRange, Rib, Opening, Buffers, Output}
use Rattle.checks.specs.Limits.{most_rib, most_opening}
use Rattle.checks.specs.Answer.{taken}
use Rattle.checks.proofs.Answers.{ask_taken, also_taken, RefusedBy, ask_refused, also_refused}
use Rattle.slicing.specs.Layout.{outline}
use Rattle.sizes.specs.GaugeSizes.{within}
use Rattle.lent.specs.Questions.{level_count, levels_in_range, level_range, levels_lent, rib_given, opening_given, buffers_lent, output_lent}
use Rattle.lent.proofs.LevelRange.{level_in}

-- 14.
pub count_taken : (n levels : ℕ) → level_count n levels ≡ taken tt → levels ≡ n
unfolding level_count
count_taken n levels e = eqb-true levels n (ask_taken (eqb levels n) LevelCount (taken tt) tt e).0

-- 14 and 15: there is a level from 1 to 8 for each of n sizes.
pub record Levelled (n : ℕ) (levels : List ℕ) : Type 0 where
  pub as_many : length levels ≡ n
  pub low : (i : ℕ) → i < length levels → 1 ≤ get_or levels i 0
  pub high : (i : ℕ) → i < length levels → get_or levels i 0 ≤ 8

pub levels_taken : (n : ℕ) (levels : List ℕ) → levels_lent n levels ≡ taken tt → Levelled n levels
unfolding levels_lent level_range
levels_taken n levels e =
    let both = also_taken (level_count n (length levels)) (level_range levels) tt e in
    let range = (ask_taken (levels_in_range levels) LevelRange (taken tt) tt both.1).0 in
    record {
      as_many = count_taken n (length levels) both.0;
      low = λ i less. (level_in levels i less range).0;
      high = λ i less. (level_in levels i less range).1;
    }

-- 22.
pub rib_taken : (rib : ℕ) → rib_given rib ≡ taken tt → rib ≤ most_rib
unfolding rib_given
rib_taken rib e = leb-true rib most_rib (ask_taken (leb rib most_rib) Rib (taken tt) tt e).0

-- 17.
pub buffers_taken : (need arena scratch : ℕ) → buffers_lent need arena scratch ≡ taken tt → (need ≤ arena) × (need ≤ scratch)
unfolding buffers_lent
buffers_taken need arena scratch e =
    let all = (ask_taken (leb need arena && leb need scratch) Buffers (taken tt) tt e).0 in
    let both = (and-eq-true_iff (leb need arena) (leb need scratch)).0 all in
    (leb-true need arena both.0, leb-true need scratch both.1)

-- 18.
pub output_taken : (need output : ℕ) → output_lent need output ≡ taken tt → need ≤ output
unfolding output_lent
output_taken need output e = leb-true need output (ask_taken (leb need output) Output (taken tt) tt e).0

-- Each is refused only by a check of its own.
module _ (P : Check → Type 0) where
  pub levels_refused : (n : ℕ) (levels : List ℕ) → P LevelCount → P LevelRange → RefusedBy P (levels_lent n levels)
  unfolding levels_lent level_count level_range
  levels_refused n levels count range =
      also_refused P (level_count n (length levels)) (level_range levels)
      (ask_refused P (eqb (length levels) n) LevelCount (taken tt) count tt)
      (ask_refused P (levels_in_range levels) LevelRange (taken tt) range tt)

  pub rib_refused : (rib : ℕ) → P Rib → RefusedBy P (rib_given rib)
  unfolding rib_given
  rib_refused rib wide = ask_refused P (leb rib most_rib) Rib (taken tt) wide tt

  pub opening_refused : (height width : ℕ) → P Opening → RefusedBy P (opening_given (outline height width))
  unfolding opening_given
  opening_refused height width opening =
      ask_refused P (within 1 most_opening height && within 1 most_opening width) Opening (taken tt) opening tt

  pub buffers_refused : (need arena scratch : ℕ) → P Buffers → RefusedBy P (buffers_lent need arena scratch)
  unfolding buffers_lent
  buffers_refused need arena scratch buffers =
      ask_refused P (leb need arena && leb need scratch) Buffers (taken tt) buffers tt

  pub output_refused : (need output : ℕ) → P Output → RefusedBy P (output_lent need output)
  unfolding output_lent
  output_refused need output short = ask_refused P (leb need output) Output (taken tt) short tt
