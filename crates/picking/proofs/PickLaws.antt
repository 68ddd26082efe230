-- Going from the last item to the first, the pick of the items passed: it stays, or the item reached takes its place.
-- Each item is set against the pick of the items after it, and a rank of area first and then width settles which is better.
use mathlib.Core.Path.{◌≡◌, refl, sym, ap, subst, ◌∙◌}
use mathlib.Core.Bool.{Bool, true, false, cond, ◌&&◌, ◌||◌}
use mathlib.Core.List.{List}
use Prim.Native.Nat.{ℕ, suc, ◌+◌, ◌*◌, ◌-◌, ◌^◌, ◌≤◌, ◌<◌}
use native.Mathlib.Omega.{arith}
use lib.ListN.{length, get_or, drop}
use lib.Seq.{drop-cons, drop-length}
use lib.Dec.{ltb, eqb}
use borrow.Author.Tests.{ltb-true, ltb-false, eqb-true, eqb-false}
use Rattle.slicing.specs.Item.{Item, size, width}
use Rattle.slicing.specs.Layout.{Outline}
use Rattle.slicing.specs.Fit.{nothing, picked, area, fits, choose, smallest}
use Rattle.std.specs.Prelude.{Option, Some, None}
use Rattle.picking.specs.inside.Picking.{pick_at, Picks}

-- Of two items the one of lower rank is the better: less area, and of equal areas less width.
abbrev pub rank : Item → ℕ
rank z = 65_536 * area z + width z

low_area : (a b v w : ℕ) → w < 65_536 → 65_536 * a + v < 65_536 * b + w → b < a → ⊥
low_area a b v w h k m = omega arith

low_width : (a b v w : ℕ) → a ≡ b → 65_536 * a + v < 65_536 * b + w → w ≤ v → ⊥
low_width a b v w e k m = omega arith

high_area : (a b v w : ℕ) → v < 65_536 → 65_536 * b + w ≤ 65_536 * a + v → a < b → ⊥
high_area a b v w h k m = omega arith

high_width : (a b v w : ℕ) → a ≡ b → 65_536 * b + w ≤ 65_536 * a + v → v < w → ⊥
high_width a b v w e k m = omega arith

better_low : (y z : Item) (a b c : Bool) → ltb (area y) (area z) ≡ a → eqb (area y) (area z) ≡ b → ltb (width y) (width z) ≡ c → width z < 65_536 → rank y < rank z → (a || (b && c)) ≡ true
better_low y z true b c e f g low h = refl
better_low y z false true true e f g low h = refl
better_low y z false true false e f g low h =
    absurd (low_width (area y) (area z) (width y) (width z) (eqb-true _ _ f) h (ltb-false _ _ g))
better_low y z false false c e f g low h =
    let more = ltb-false (area y) (area z) e in
    let other = eqb-false (area y) (area z) f in
    absurd (low_area (area y) (area z) (width y) (width z) low h (omega arith))

better_high : (y z : Item) (a b c : Bool) → ltb (area y) (area z) ≡ a → eqb (area y) (area z) ≡ b → ltb (width y) (width z) ≡ c → width y < 65_536 → rank z ≤ rank y → (a || (b && c)) ≡ false
better_high y z true b c e f g low h = absurd (high_area (area y) (area z) (width y) (width z) low h (ltb-true _ _ e))
better_high y z false true true e f g low h =
    absurd (high_width (area y) (area z) (width y) (width z) (eqb-true _ _ f) h (ltb-true _ _ g))
better_high y z false true false e f g low h = refl
better_high y z false false c e f g low h = refl

-- The pick of the items from a place on: none, with a rank above all, or the item at some place, with its rank.
pub data Standing (o : Outline) (l : List Item) (i : ℕ) (found : Option ℕ) (best : ℕ) : Type 0 where
  none : smallest o (drop i l) ≡ nothing → found ≡ None → best ≡ 2 ^ 64 - 1 → Standing o l i found best
  some : (k : ℕ) → smallest o (drop i l) ≡ picked (get_or l k (size 0 0)) → found ≡ Some k → k < length l → best ≡ rank (get_or l k (size 0 0)) → Standing o l i found best

-- The items are below 65,536 across.
abbrev pub Narrow : List Item → Type 0
Narrow l = (i : ℕ) → i < length l → (get_or l i (size 0 0)).p < 65_536

next_pick : (o : Outline) (l : List Item) (i : ℕ) → i < length l → smallest o (drop i l) ≡ cond (fits o (get_or l i (size 0 0))) (choose (get_or l i (size 0 0)) (smallest o (drop (suc i) l))) (smallest o (drop (suc i) l))
unfolding smallest
next_pick o l i h = rw (drop-cons l i (size 0 0) h)

pub standing_start : (o : Outline) (l : List Item) → Standing o l (length l) None (2 ^ 64 - 1)
unfolding smallest
standing_start o l = none (rw drop-length) refl refl

-- An item that is not inside is passed.
pub standing_past : (o : Outline) (l : List Item) (i : ℕ) (found : Option ℕ) (best : ℕ) → i < length l → fits o (get_or l i (size 0 0)) ≡ false → Standing o l (suc i) found best → Standing o l i found best
standing_past o l i found best h out (none e f g) = none (next_pick o l i h ∙ (simp out e)) f g
standing_past o l i found best h out (some k e f in_list g) = some k (next_pick o l i h ∙ (simp out e)) f in_list g

-- An item inside whose rank is above the pick's is passed too.
pub standing_worse : (o : Outline) (l : List Item) (i : ℕ) (found : Option ℕ) (best : ℕ) → i < length l → Narrow l → fits o (get_or l i (size 0 0)) ≡ true → rank (get_or l i (size 0 0)) < 2 ^ 64 → best < rank (get_or l i (size 0 0)) → Standing o l (suc i) found best → Standing o l i found best
standing_worse o l i found best h narrow inside low more (none e f g) = absurd (omega arith)
standing_worse o l i found best h narrow inside low more (some k e f in_list g) =
    some k (next_pick o l i h ∙ (simp (inside, e, better_low (get_or l k (size 0 0)) (get_or l i (size 0 0)) _ _ _ refl refl refl (narrow i h) (subst (λ (n : ℕ). n < rank (get_or l i (size 0 0))) g more)))) f in_list g

-- Any other item inside takes the pick's place.
pub standing_taken : (o : Outline) (l : List Item) (i : ℕ) (found : Option ℕ) (best : ℕ) → i < length l → Narrow l → fits o (get_or l i (size 0 0)) ≡ true → rank (get_or l i (size 0 0)) ≤ best → Standing o l (suc i) found best → Standing o l i (Some i) (rank (get_or l i (size 0 0)))
standing_taken o l i found best h narrow inside less (none e f g) = some i (next_pick o l i h ∙ (simp (inside, e))) refl h refl
standing_taken o l i found best h narrow inside less (some k e f in_list g) =
    some i (next_pick o l i h ∙ (simp (inside, e, better_high (get_or l k (size 0 0)) (get_or l i (size 0 0)) _ _ _ refl refl refl (narrow k in_list) (subst (λ (n : ℕ). rank (get_or l i (size 0 0)) ≤ n) g less)))) refl h refl

-- At the first item the pick is that of the list.
pub standing_done : (o : Outline) (l : List Item) (found : Option ℕ) (best : ℕ) → Standing o l 0 found best → Picks o l found
standing_done o l found best (none e f g) =
    record { same = e ∙ ap (λ (x : Option ℕ). pick_at x l) (sym f); in_list = λ k t. cc }
standing_done o l found best (some k e f in_list g) =
    record {
      same = e ∙ ap (λ (x : Option ℕ). pick_at x l) (sym f);
      in_list = λ j t. let same : k ≡ j = cc in omega arith;
    }
