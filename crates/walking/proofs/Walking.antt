-- The walk over the heights: at each place reached, the widths and the looks of the heights left, from the present item on, give with those so far what the whole walk gives.
-- A height stops where the definition's search does, its width goes to the height's place, and its looks are counted. Where the list runs out, the heights left have the width 0 and no look.
use mathlib.Core.Path.{◌≡◌, refl, sym, ap, ap₂, ◌∙◌}
use mathlib.Core.List.{List, [], ◌∷◌}
use Prim.Native.Nat.{ℕ, suc, ◌+◌, ◌*◌, ◌-◌, ◌≤◌, ◌<◌}
use native.Mathlib.Omega.{arith}
use native.Mathlib.Numerals.{add-one}
use lib.ListN.{length, get_or, set, replicate, drop, length-set, length-drop, drop_of_length-le}
use lib.Seq.{sets, drop-cons}
use Rattle.checks.specs.Limits.{most_sizes, most_heights}
use Rattle.slicing.specs.Item.{Item}
use Rattle.lent.specs.Lent.{written_over}
use Rattle.writing.proofs.WordLaws.{over_sets}
use Rattle.walking.specs.Walk.{Stop, seek, Walked, onward, walked}
use Rattle.walking.specs.inside.Walking.{items_left, most_looks, Closed, ClosedOver, Passed, WalkedOver}
use Rattle.walking.proofs.WalkLaws.{walked_length, looks_few, run_out, run_out_widths}
use Rattle.walking.proofs.ListItems.{left_length, width_present}
use Rattle.walking.proofs.Passing.{passed_inside, passed_stop, passed_end}

module _ (words : List ℕ) (items : ℕ) (heights old : List ℕ) where
  -- The walk of the heights from place i on, begun at an item; and the whole walk.
  abbrev from : ℕ → ℕ → Walked
  from item i = walked (items_left words items item) (drop i heights)

  abbrev whole : Walked
  whole = walked (items_left words items 0) heights

  pub record Walking (out : List ℕ) (item looks i : ℕ) : Type 0 where
    pub inside : i ≤ length heights
    pub in_list : item ≤ items
    pub few : looks ≤ most_looks
    pub long : length out ≡ length old
    pub looks_left : looks + (from item i).looks ≡ whole.looks
    pub widths_left : sets out i (from item i).widths ≡ sets old 0 whole.widths

  pub walking_start : Walking old 0 0 0
  walking_start =
      record {
        inside = omega arith;
        in_list = omega arith;
        few = omega arith;
        long = refl;
        looks_left = omega arith;
        widths_left = refl;
      }

  -- All looks together are few.
  whole_few : items ≤ most_sizes → length heights ≤ most_heights → whole.looks ≤ most_looks
  whole_few few short =
      let most = looks_few (items_left words items 0) heights in
      let all = left_length words items in
      omega arith

  -- What was written stands over the output's start, and the list is as it was given.
  walked_over : (given : List ℕ) → ClosedOver given items words → length heights ≤ length old → (out : List ℕ) (looks : ℕ) → out ≡ sets old 0 whole.widths → looks ≡ whole.looks → WalkedOver given items heights old out looks
  walked_over given closed room out looks out_is looks_are =
      let many = walked_length (items_left words items 0) heights in
      let own = ap (λ (l : List Item). walked l heights) closed.same in
      record {
        looks_are = looks_are ∙ ap (λ (x : Walked). x.looks) own;
        widths_are = out_is ∙ over_sets whole.widths old (omega arith) ∙ ap (λ (x : Walked). written_over x.widths old) own;
      }

  module _ (out : List ℕ) (item looks i : ℕ) (w : Walking out item looks i) where
    -- At the end no height is left.
    module _ (over : length heights ≤ i) where
      none_left : from item i ≡ record { widths = []; looks = 0 }
      unfolding walked
      none_left = ap (walked (items_left words items item)) (drop_of_length-le heights over)

      pub walking_done : (given : List ℕ) → ClosedOver given items words → length heights ≤ length old → WalkedOver given items heights old out looks
      walking_done given closed room =
          let none = ap (λ (x : Walked). x.looks) none_left in
          let all = w.looks_left in
          walked_over given closed room out looks (ap (λ (x : Walked). sets out i x.widths) (sym none_left) ∙ w.widths_left) (omega arith)

    module _ (more : i < length heights) where
      abbrev later : List ℕ
      later = drop (i + 1) heights

      -- A height's stop, and then the walk of those after it.
      next : (s : Stop) → seek (get_or heights i 0) (items_left words items item) ≡ s → from item i ≡ onward s (walked s.rest later)
      unfolding walked
      next s e =
          ap (walked (items_left words items item)) (drop-cons heights i 0 more ∙ ap (λ (j : ℕ). get_or heights i 0 ∷ drop j heights) (sym (add-one i)))
          ∙ ap (λ (x : Stop). onward x (walked x.rest later)) e

      module _ (item' n : ℕ) (p : Passed words item (get_or heights i 0) looks item' n) where
        -- The item reached is no taller: its width goes to the height's place.
        pub walking_more : items ≤ most_sizes → length heights ≤ most_heights → Closed words items → (item' ≡ items → ⊥) → get_or words (2 * item') 0 ≤ get_or heights i 0 → Walking (set out i (get_or words (2 * item' + 1) 0)) item' (n + 1) (i + 1)
        walking_more few short closed other low =
            let inside = passed_inside words item (get_or heights i 0) looks items w.in_list closed item' n p in
            let less : item' < items = omega arith in
            let step = next _ (passed_stop words items (get_or heights i 0) item looks item' n p less low) in
            let step_looks = ap (λ (x : Walked). x.looks) step in
            let so_far = w.looks_left in
            let all = whole_few few short in
            let counted = p.counted in
            let onward = p.onward in
            record {
              inside = omega arith;
              in_list = inside;
              few = omega arith;
              long = length-set out i _ ∙ w.long;
              looks_left = omega arith;
              widths_left =
                  ap₂ (λ (x : ℕ) (j : ℕ). sets (set out i x) j (from item' (i + 1)).widths) (width_present words items item' less) (add-one i)
                  ∙ ap (λ (x : Walked). sets out i x.widths) (sym step) ∙ w.widths_left;
            }

        -- The list has run out: this height and those after it have the width 0.
        pub walking_end : item' ≡ items → (given : List ℕ) → ClosedOver given items words → length heights ≤ length old → (out' : List ℕ) → out' ≡ sets out i (replicate (length heights - i) 0) → WalkedOver given items heights old out' n
        walking_end same given closed room out' out_is =
            let step = next _ (passed_end words items (get_or heights i 0) item looks item' n p same) in
            let step_looks = ap (λ (x : Walked). x.looks) step in
            let none = run_out later in
            let so_far = w.looks_left in
            let counted = p.counted in
            let onward = p.onward in
            let all = length-drop (i + 1) heights in
            let left : length heights - i ≡ suc (length later) = omega arith in
            let zeros = ap (λ (k : ℕ). replicate k 0) left ∙ ap (λ (l : List ℕ). 0 ∷ l) (sym (run_out_widths later)) in
            walked_over given closed room out' n
            (out_is ∙ ap (sets out i) (zeros ∙ ap (λ (x : Walked). x.widths) (sym step)) ∙ w.widths_left)
            (omega arith)
