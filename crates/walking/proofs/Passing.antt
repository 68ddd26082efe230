-- Passing the items that are taller than a height: it ends at the height 0 after the last item at the latest, and where it ends is where the definition's search stops.
-- Each item that is passed is taller, so that it was one look of the search and is not where that stops.
use mathlib.Core.Path.{◌≡◌, refl, sym, ap, ap₂, ◌∙◌}
use mathlib.Core.Bool.{Bool, true, false, cond}
use mathlib.Core.List.{List, []}
use Prim.Native.Nat.{ℕ, zero, suc, ◌+◌, ◌*◌, ◌-◌, ◌≤◌, ◌<◌}
use native.Mathlib.Omega.{arith}
use lib.ListN.{get_or}
use lib.Dec.{leb}
use borrow.Author.Tests.{le-leb, lt-leb}
use Rattle.slicing.specs.Item.{Item}
use Rattle.arena.proofs.Cases.{lt_or_ge, last_or_below}
use Rattle.walking.specs.Walk.{Stop, passed, seek}
use Rattle.walking.specs.inside.Walking.{items_left, Closed, Passed}
use Rattle.walking.proofs.ListItems.{left_more, left_none}

module _ (words : List ℕ) (from height before items : ℕ) (ahead : from ≤ items) (closed : Closed words items) where
  pub passed_start : Passed words from height before from before
  passed_start =
      let has = closed.has in
      record { has = omega arith; onward = omega arith; taller = λ k low less. absurd (omega arith); counted = refl }

  module _ (item looks : ℕ) (p : Passed words from height before item looks) where
    pub passed_inside : item ≤ items
    passed_inside =
        lt_or_ge items item
        (λ beyond.
        let tall = p.taller items ahead beyond in
        let none = closed.no_height in
        absurd (omega arith))
        (λ inside. inside)

    -- An item that is taller is not the one after the last.
    not_last : height < get_or words (2 * item) 0 → item ≡ items → ⊥
    not_last tall same =
        let at = ap (λ (j : ℕ). get_or words (2 * j) 0) same in
        let none = closed.no_height in
        omega arith

    pub passed_more : height < get_or words (2 * item) 0 → Passed words from height before (item + 1) (looks + 1)
    passed_more tall =
        let inside = passed_inside in
        let other = not_last tall in
        let has = closed.has in
        let counted = p.counted in
        let onward = p.onward in
        record {
          has = omega arith;
          onward = omega arith;
          taller = λ k low less.
              last_or_below k item (omega arith) (λ same. let at = ap (λ (j : ℕ). get_or words (2 * j) 0) same in omega arith) (λ below. p.taller k low below);
          counted = omega arith;
        }

-- What the item reached, or the end, makes of the search.
module _ (words : List ℕ) (items height : ℕ) where
  abbrev left : ℕ → List Item
  left i = items_left words items i

  seek_next : (item : ℕ) (b : Bool) → item < items → leb (get_or words (2 * item) 0) height ≡ b → seek height (left item) ≡ cond b (record { rest = left item; looks = 1 }) (passed (seek height (left (item + 1))))
  unfolding seek
  seek_next item b less e =
      let first = left_more words items item less in
      ap (seek height) first
      ∙ ap₂ (λ (c : Bool) (l : List Item). cond c (record { rest = l; looks = 1 }) (passed (seek height (left (item + 1))))) e (sym first)

  seek_low : (item : ℕ) → item < items → get_or words (2 * item) 0 ≤ height → seek height (left item) ≡ record { rest = left item; looks = 1 }
  seek_low item less low = seek_next item true less (le-leb (get_or words (2 * item) 0) height low)

  seek_end : seek height (left items) ≡ record { rest = []; looks = 0 }
  unfolding seek
  seek_end = ap (seek height) (left_none words items items (omega arith))

  -- n items more have been looked at.
  abbrev after : ℕ → Stop → Stop
  after n s = record { rest = s.rest; looks = n + s.looks }

  -- n items that are all taller.
  seek_over : (n from to : ℕ) → from + n ≡ to → ((k : ℕ) → from ≤ k → k < to → height < get_or words (2 * k) 0) → to ≤ items → seek height (left from) ≡ after n (seek height (left to))
  seek_over zero from to e taller inside =
      let same : from ≡ to = omega arith in
      let looks = (seek height (left to)).looks in
      let none : looks ≡ 0 + looks = omega arith in
      ap (λ (i : ℕ). seek height (left i)) same ∙ ap (λ (n : ℕ). record { rest = (seek height (left to)).rest; looks = n }) none
  seek_over (suc n) from to e taller inside =
      let tall = taller from (omega arith) (omega arith) in
      let looks = (seek height (left to)).looks in
      let one_more : suc (n + looks) ≡ suc n + looks = omega arith in
      seek_next from false (omega arith) (lt-leb (get_or words (2 * from) 0) height tall)
      ∙ ap passed (seek_over n (from + 1) to (omega arith) (λ k low less. taller k (omega arith) less) inside)
      ∙ ap (λ (n : ℕ). record { rest = (seek height (left to)).rest; looks = n }) one_more

  module _ (from before item looks : ℕ) (p : Passed words from height before item looks) where
    -- The search where it stops at an item that is no taller, and where the list has run out.
    pub passed_stop : item < items → get_or words (2 * item) 0 ≤ height → seek height (left from) ≡ record { rest = left item; looks = item - from + 1 }
    passed_stop less low =
        let onward = p.onward in
        seek_over (item - from) from item (omega arith) p.taller (omega arith) ∙ ap (after (item - from)) (seek_low item less low)

    pub passed_end : item ≡ items → seek height (left from) ≡ record { rest = []; looks = item - from }
    passed_end same =
        let onward = p.onward in
        let none = ap (λ (i : ℕ). seek height (left i)) same ∙ seek_end in
        let all : item - from + 0 ≡ item - from = omega arith in
        seek_over (item - from) from item (omega arith) p.taller (omega arith) ∙ ap (after (item - from)) none
        ∙ ap (λ (n : ℕ). record { rest = []; looks = n }) all
