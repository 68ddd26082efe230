-- What the loop that adds up the areas keeps: the areas of the gauges left complete the sum of all.
-- A turn adds the area of the first gauge left, and at the end no gauge is left.
use mathlib.Core.Path.{◌≡◌, sym, ap, subst, ◌∙◌}
use mathlib.Core.List.{List, [], ◌++◌}
use Prim.Native.Nat.{ℕ, ◌+◌, ◌*◌, ◌^◌, ◌≤◌, ◌<◌}
use native.Mathlib.Omega.{arith}
use lib.ListN.{length, get_or}
use Rattle.std.specs.declared.slice.ChunksExact.{ChunksExact}
use Rattle.std.specs.Slice.Iter.{chunks_exact_rest, chunks_exact_size}
use Rattle.checks.specs.Limits.{most_gauges}
use Rattle.slicing.specs.Item.{Item}
use Rattle.slicing.specs.Fit.{area}
use Rattle.covering.specs.Covered.{total}
use Rattle.materiallines.specs.inside.Listing.{Holds, Sized}
use Rattle.materiallines.proofs.SheetFits.{total_most}
use Rattle.materiallines.proofs.HeldWords.{holds_same, none_held, First, first_held}

-- The words left hold sizes whose areas, with `used`, are those of all.
pub record AreasDue (layout : List ℕ) (left : ChunksExact ℕ) (used : ℕ) : Type 0 where
  pub five : chunks_exact_size left ≡ 5
  pub sized : Sized layout
  pub sizes : List Item
  pub held : Holds (chunks_exact_rest left) sizes
  pub sum : used + total sizes ≡ total sized.sizes

pub areas_start : (layout : List ℕ) (left : ChunksExact ℕ) → chunks_exact_size left ≡ 5 → chunks_exact_rest left ≡ layout → Sized layout → AreasDue layout left 0
areas_start layout left five all h =
    record {
      five = five;
      sized = h;
      sizes = h.sizes;
      held = subst (λ (l : List ℕ). Holds l h.sizes) (sym all) h.held;
      sum = omega arith;
    }

-- The area of a gauge of five words.
abbrev pub area_of : List ℕ → ℕ
area_of words = get_or words 4 0 * get_or words 3 0

module _ (layout : List ℕ) (left : ChunksExact ℕ) (used : ℕ) (s : AreasDue layout left used) where
  module _ (words : List ℕ) (then : ChunksExact ℕ) (size : chunks_exact_size then ≡ chunks_exact_size left) (next : chunks_exact_rest left ≡ words ++ chunks_exact_rest then) (long : length words ≡ chunks_exact_size left) where
    first : First words (chunks_exact_rest then) s.sizes
    first =
        first_held words (chunks_exact_rest then) s.sizes (long ∙ s.five) (subst (λ (l : List ℕ). Holds l s.sizes) next s.held)

    area_same : area_of words ≡ area first.size
    area_same = cc (first.wide, first.high)

    next_sum : used + area_of words + total first.more ≡ total s.sized.sizes
    unfolding total
    next_sum = let here = ap total first.same in omega (arith, area_same, s.sum)

    all_few : total s.sized.sizes ≤ 1_000_000 * most_gauges
    all_few = omega (arith, total_most s.sized.sizes s.sized.limited, s.sized.few)

    pub areas_area : area_of words < 2 ^ 32
    areas_area = omega (arith, next_sum, all_few)

    pub areas_used : used + area_of words < 2 ^ 32
    areas_used = omega (arith, next_sum, all_few)

    pub areas_more : AreasDue layout then (used + area_of words)
    areas_more =
        record { five = size ∙ s.five; sized = s.sized; sizes = first.more; held = first.held; sum = next_sum }

  all_used : s.sizes ≡ [] → used ≡ total s.sized.sizes
  unfolding total
  all_used none = let zero = ap total none in omega (arith, s.sum)

  pub areas_done : length (chunks_exact_rest left) < chunks_exact_size left → (l : List Item) → Holds layout l → used ≡ total l
  areas_done end l held =
      let five = s.five in
      let none = none_held (chunks_exact_rest left) s.sizes (omega arith) s.held in
      subst (λ (all : List Item). used ≡ total all) (holds_same layout s.sized.sizes l s.sized.held held) (all_used none)
