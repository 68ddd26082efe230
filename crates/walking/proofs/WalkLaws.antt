-- The walk over falling heights gives for each height the width for it by itself, and takes at most as many looks as there are items and heights together.
-- The items that it has passed are taller than every height to come, and down an ordered list the first item no taller is the narrowest such. Each look but the last of a height passes an item for good.
use mathlib.Core.Path.{◌≡◌, refl, sym, ap, ap₂, ◌∙◌}
use mathlib.Core.Bool.{Bool, true, false, cond}
use mathlib.Core.List.Memᴰ
use mathlib.Core.List.{List, [], ◌∷◌, Memᴰ}
use mathlib.Core.Logic.{◌⊎◌, inl, inr}
use Prim.Native.Nat.{ℕ, suc, ◌+◌, ◌≤◌, ◌<◌, min}
use native.Mathlib.Omega.{arith}
use lib.ListN.{length, replicate}
use lib.Dec.{leb}
use borrow.Author.Tests.{leb-true, leb-false, lt-leb}
use Rattle.slicing.specs.Item.{Item, size, height, width}
use Rattle.slicing.specs.Good.{Ordered}
use Rattle.walking.specs.Widths.{widths_no_taller, least, width_for, widths_for}
use Rattle.walking.specs.Walk.{Stop, passed, seek, present_width, walked, FallsFrom, Falls}
use Rattle.walking.proofs.WidthLaws.{width_least}

-- An item taller than h does not count for h.
width_taller : (h : ℕ) (z : Item) (l : List Item) → h < height z → width_for h (z ∷ l) ≡ width_for h l
unfolding width_for
width_taller h z l tall =
    ap (λ (b : Bool). least (cond b (width z ∷ widths_no_taller h l) (widths_no_taller h l))) (lt-leb (height z) h tall)

-- The first item of an ordered list is its narrowest.
first_least : (h : ℕ) (z : Item) (l : List Item) → Ordered (z ∷ l) → height z ≤ h → width z ≡ width_for h (z ∷ l)
first_least h z l order low =
    let r = width_least h (z ∷ l) z (Memᴰ.head refl) low in
    let most = r.least z (Memᴰ.head refl) low in
    let same = r.same in
    let first = first_narrow r.item (Memᴰ.cases_cons r.item_in) in
    omega arith
  where
    first_narrow : (y : Item) → (y ≡ z) ⊎ Memᴰ y l → width z ≤ width y
    first_narrow y (inl e) = let f = ap width e in omega arith
    first_narrow y (inr j) = let after = order.0 y j in omega arith

-- What a height's stop is, in an ordered list: a part of it, ordered too, whose first item has the width, and which gives for every height no more than this the width that the whole list gives.
record Stopped (h : ℕ) (l : List Item) (s : Stop) : Type 0 where
  order : Ordered s.rest
  found : present_width s.rest ≡ width_for h l
  later : (k : ℕ) → k ≤ h → width_for k s.rest ≡ width_for k l

stop_here : (h : ℕ) (z : Item) (l : List Item) → Ordered (z ∷ l) → height z ≤ h → Stopped h (z ∷ l) (record { rest = z ∷ l; looks = 1 })
stop_here h z l order low = record { order = order; found = first_least h z l order low; later = λ k less. refl }

stop_later : (h : ℕ) (z : Item) (l : List Item) (s : Stop) → h < height z → Stopped h l s → Stopped h (z ∷ l) (passed s)
stop_later h z l s tall r =
    record {
      order = r.order;
      found = r.found ∙ sym (width_taller h z l tall);
      later = λ k less. r.later k less ∙ sym (width_taller k z l (omega arith));
    }

stopped : (h : ℕ) (l : List Item) → Ordered l → Stopped h l (seek h l)
unfolding seek width_for
stopped h [] order = record { order = tt; found = refl; later = λ k less. refl }
stopped h (z ∷ l) order = step (leb (height z) h) refl (stopped h l order.1)
  where
    step : (b : Bool) → leb (height z) h ≡ b → Stopped h l (seek h l) → Stopped h (z ∷ l) (cond b (record { rest = z ∷ l; looks = 1 }) (passed (seek h l)))
    step true e next = stop_here h z l order (leb-true (height z) h e)
    step false e next = stop_later h z l (seek h l) (leb-false (height z) h e) next

-- Where two lists give the same width for every height no more than h, they do for heights that fall from h.
same_widths : (h : ℕ) (l m : List Item) (heights : List ℕ) → ((j : ℕ) → j ≤ h → width_for j l ≡ width_for j m) → FallsFrom h heights → widths_for l heights ≡ widths_for m heights
same_widths h l m [] same falls = refl
same_widths h l m (j ∷ heights) same falls =
    ap₂ ◌∷◌ (same j falls.0) (same_widths j l m heights (λ i less. same i (let low = falls.0 in omega arith)) falls.1)

falls_on : (h : ℕ) (heights : List ℕ) → FallsFrom h heights → Falls heights
falls_on h [] falls = tt
falls_on h (j ∷ heights) falls = falls.1

-- "Each width must be the least among the outer sizes no taller than that height, found for it by itself."
pub walked_widths : (l : List Item) (heights : List ℕ) → Ordered l → Falls heights → (walked l heights).widths ≡ widths_for l heights
unfolding walked
walked_widths l [] order falls = refl
walked_widths l (h ∷ heights) order falls =
    let s = stopped h l order in
    ap₂ ◌∷◌ s.found
    (walked_widths (seek h l).rest heights s.order (falls_on h heights falls)
    ∙ same_widths h (seek h l).rest l heights s.later falls)

-- There is one for each height.
pub walked_length : (l : List Item) (heights : List ℕ) → length (walked l heights).widths ≡ length heights
unfolding walked
walked_length l [] = refl
walked_length l (h ∷ heights) = ap suc (walked_length (seek h l).rest heights)

-- The looks of one height in a list of n items: at the items that it passes, and at the one where it stops if there is one.
abbrev Counted : ℕ → Stop → Type 0
Counted n s = s.looks + length s.rest ≡ n + min 1 (length s.rest)

seek_looks : (h : ℕ) (l : List Item) → Counted (length l) (seek h l)
unfolding seek
seek_looks h [] = refl
seek_looks h (z ∷ l) = step (leb (height z) h) (seek_looks h l)
  where
    step : (b : Bool) → Counted (length l) (seek h l) → Counted (suc (length l)) (cond b (record { rest = z ∷ l; looks = 1 }) (passed (seek h l)))
    step true next = omega arith
    step false next = omega arith

-- "at most the items plus the heights"
pub looks_few : (l : List Item) (heights : List ℕ) → (walked l heights).looks ≤ length l + length heights
unfolding walked
looks_few l [] = omega arith
looks_few l (h ∷ heights) = omega (arith, seek_looks h l, looks_few (seek h l).rest heights)

-- "once the list has run out, later heights take no look"
pub run_out : (heights : List ℕ) → (walked [] heights).looks ≡ 0
unfolding walked seek
run_out [] = refl
run_out (h ∷ heights) = omega (arith, run_out heights)

-- Their width is 0.
pub run_out_widths : (heights : List ℕ) → (walked [] heights).widths ≡ replicate (length heights) 0
unfolding walked seek
run_out_widths [] = refl
run_out_widths (h ∷ heights) = ap (λ (l : List ℕ). 0 ∷ l) (run_out_widths heights)

-- Document 01's three outer sizes: the look at the item where the last height stopped counts again, and at the end there is none.
outer_sizes : List Item
outer_sizes = size 60 70 ∷ size 50 90 ∷ size 40 110 ∷ []

looks_again : walked outer_sizes (60 ∷ 60 ∷ 59 ∷ []) ≡ record { widths = 70 ∷ 70 ∷ 90 ∷ []; looks = 4 }
unfolding walked seek outer_sizes
looks_again = refl

looks_end : walked outer_sizes (39 ∷ 39 ∷ []) ≡ record { widths = 0 ∷ 0 ∷ []; looks = 3 }
unfolding walked seek outer_sizes
looks_end = refl
