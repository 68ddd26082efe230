-- The width for a height is the least among the items no taller where there is one, and else 0.
-- The least of a list of numbers is one of them and no more than any, and the list has a number for each item no taller.
use mathlib.Core.Path.{◌≡◌, refl, sym, ap, subst}
use mathlib.Core.Bool.{Bool, true, false, cond}
use mathlib.Core.List.Memᴰ
use mathlib.Core.List.{List, [], ◌∷◌, Memᴰ}
use mathlib.Core.Logic.{◌⊎◌, inl, inr, ⊎_elim}
use Prim.Native.Nat.{ℕ, ◌≤◌, ◌<◌, min}
use native.Mathlib.Omega.{arith}
use lib.Dec.{leb}
use borrow.Author.Tests.{leb-true, leb-false}
use Rattle.slicing.specs.Item.{Item, height, width}
use Rattle.walking.specs.Widths.{widths_no_taller, least, width_for}
use Rattle.walking.specs.WidthMeans.{LeastWidth, AllTaller}

-- w is one of the numbers, and no more than any.
record LeastOf (l : List ℕ) (w : ℕ) : Type 0 where
  in_list : Memᴰ w l
  low : (u : ℕ) → Memᴰ u l → w ≤ u

-- The lesser of a number and the least of a list, in the list that begins with the number.
least_more : (w m : ℕ) (l : List ℕ) → LeastOf l m → LeastOf (w ∷ l) (min w m)
least_more w m l r = record { in_list = in_one (leb w m) refl; low = λ u i. ⊎_elim (λ (e : u ≡ w). omega arith) (λ (j : Memᴰ u l). let k = r.low u j in omega arith) (Memᴰ.cases_cons i) }
  where
    in_one : (b : Bool) → leb w m ≡ b → Memᴰ (min w m) (w ∷ l)
    in_one true e =
        let less = leb-true w m e in
        let same : min w m ≡ w = omega arith in
        Memᴰ.head same
    in_one false e =
        let less = leb-false w m e in
        let same : min w m ≡ m = omega arith in
        rw same (Memᴰ.tail r.in_list)

least_of : (w : ℕ) (l : List ℕ) → LeastOf (w ∷ l) (least (w ∷ l))
least_of w [] =
    record {
      in_list = Memᴰ.head refl;
      low = λ u i. ⊎_elim (λ (e : u ≡ w). omega arith) (λ (j : Memᴰ u []). absurd (Memᴰ.not-nil j)) (Memᴰ.cases_cons i);
    }
least_of w (v ∷ l) = least_more w (least (v ∷ l)) (v ∷ l) (least_of v l)

-- An item no taller has its width on the list of widths, and each width there is such an item's.
width_in : (h : ℕ) (l : List Item) (y : Item) → Memᴰ y l → height y ≤ h → Memᴰ (width y) (widths_no_taller h l)
width_in h [] y i low = absurd (Memᴰ.not-nil i)
width_in h (z ∷ l) y i low = step (leb (height z) h) refl (λ j. width_in h l y j low) (Memᴰ.cases_cons i)
  where
    step : (b : Bool) → leb (height z) h ≡ b → (Memᴰ y l → Memᴰ (width y) (widths_no_taller h l)) → (y ≡ z) ⊎ Memᴰ y l
        → Memᴰ (width y) (cond b (width z ∷ widths_no_taller h l) (widths_no_taller h l))
    step true e next (inl same) = Memᴰ.head (ap width same)
    step true e next (inr j) = Memᴰ.tail (next j)
    step false e next (inl same) =
        let tall = leb-false (height z) h e in
        let at = ap height same in
        absurd (omega arith)
    step false e next (inr j) = next j

-- An item of the list, no taller than h, of the width w.
record OfWidth (h : ℕ) (l : List Item) (w : ℕ) : Type 0 where
  item : Item
  item_in : Memᴰ item l
  not_taller : height item ≤ h
  same : width item ≡ w

of_later : {h : ℕ} {z : Item} {l : List Item} {w : ℕ} → OfWidth h l w → OfWidth h (z ∷ l) w
of_later f = record { item = f.item; item_in = Memᴰ.tail f.item_in; not_taller = f.not_taller; same = f.same }

width_out : (h : ℕ) (l : List Item) (w : ℕ) → Memᴰ w (widths_no_taller h l) → OfWidth h l w
width_out h [] w i = absurd (Memᴰ.not-nil i)
width_out h (z ∷ l) w i = step (leb (height z) h) refl (λ j. width_out h l w j) i
  where
    step : (b : Bool) → leb (height z) h ≡ b → (Memᴰ w (widths_no_taller h l) → OfWidth h l w)
        → Memᴰ w (cond b (width z ∷ widths_no_taller h l) (widths_no_taller h l)) → OfWidth h (z ∷ l) w
    step true e next j =
        ⊎_elim (λ (f : w ≡ width z). record { item = z; item_in = Memᴰ.head refl; not_taller = leb-true (height z) h e; same = sym f })
        (λ (k : Memᴰ w (widths_no_taller h l)). of_later (next k)) (Memᴰ.cases_cons j)
    step false e next j = of_later (next j)

-- Where the list of widths is empty every item is taller, and else its least number is the least width.
decided : (h : ℕ) (l : List Item) (s : List ℕ) → widths_no_taller h l ≡ s → LeastWidth h l (least s) ⊎ (AllTaller h l × (least s ≡ 0))
decided h l [] e = inr (record { taller = λ y i. taller y i (leb (height y) h) refl }, refl)
  where
    taller : (y : Item) → Memᴰ y l → (b : Bool) → leb (height y) h ≡ b → h < height y
    taller y i true f =
        absurd (Memᴰ.not-nil (subst (λ (s : List ℕ). Memᴰ (width y) s) e (width_in h l y i (leb-true (height y) h f))))
    taller y i false f = leb-false (height y) h f
decided h l (w ∷ s) e =
    let r = least_of w s in
    let f = width_out h l (least (w ∷ s)) (subst (λ (k : List ℕ). Memᴰ (least (w ∷ s)) k) (sym e) r.in_list) in
    inl
    (record {
      item = f.item;
      item_in = f.item_in;
      not_taller = f.not_taller;
      same = f.same;
      least = λ z j low. r.low (width z) (subst (λ (k : List ℕ). Memᴰ (width z) k) e (width_in h l z j low));
    })

pub width_decided : (h : ℕ) (l : List Item) → LeastWidth h l (width_for h l) ⊎ (AllTaller h l × (width_for h l ≡ 0))
unfolding width_for
width_decided h l = decided h l (widths_no_taller h l) refl

-- Where some item is no taller, the width is the least of those items' widths.
pub width_least : (h : ℕ) (l : List Item) (y : Item) → Memᴰ y l → height y ≤ h → LeastWidth h l (width_for h l)
width_least h l y i low =
    ⊎_elim (λ (r : LeastWidth h l (width_for h l)). r)
    (λ (none : AllTaller h l × (width_for h l ≡ 0)). let tall = none.0.taller y i in absurd (omega arith)) (width_decided h l)
