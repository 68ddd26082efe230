-- What a side of a join takes is the narrowest item of its list no taller than the part; for stacked, the lists are turned.
-- Down an ordered list heights fall and widths rise, so the first item that is no taller is the narrowest such, and no item of the list is both no taller and no wider than another.
use mathlib.Core.Path.{◌≡◌, refl, sym, ap, ◌∙◌}
use mathlib.Core.Bool.{Bool, true, false, cond}
use mathlib.Core.List.Memᴰ
use mathlib.Core.List.{List, [], ◌∷◌, Memᴰ}
use mathlib.Core.Logic.{◌⊎◌, inl, inr, ⊎_elim}
use Prim.Native.Nat.{ℕ, ◌≤◌, ◌<◌}
use native.Mathlib.Omega.{arith}
use lib.Dec.{leb}
use borrow.Author.Tests.{leb-true, leb-false}
use Rattle.slicing.specs.Item.{Item}
use Rattle.slicing.specs.Good.{Ordered}
use Rattle.slicing.specs.Fit.{no_taller}

same_m : {y z : Item} → y ≡ z → y.m ≡ z.m
same_m e = ap (λ (i : Item). i.m) e

same_p : {y z : Item} → y ≡ z → y.p ≡ z.p
same_p e = ap (λ (i : Item). i.p) e

only_step : (x y z : Item) (l : List Item) → ((w : Item) → Memᴰ w l → (w.m < x.m) × (x.p < w.p)) → (Memᴰ y l → Memᴰ z l → y ≡ z) → (y ≡ x) ⊎ Memᴰ y l → (z ≡ x) ⊎ Memᴰ z l → y.m ≤ z.m → y.p ≤ z.p → y ≡ z
only_step x y z l before next (inl e) (inl f) h k = e ∙ sym f
only_step x y z l before next (inl e) (inr j) h k =
    let after = before z j in
    let same = same_m e in absurd (omega arith)
only_step x y z l before next (inr i) (inl f) h k =
    let after = before y i in
    let same = same_p f in absurd (omega arith)
only_step x y z l before next (inr i) (inr j) h k = next i j

-- An ordered list has no item that is inferior to another.
pub only_itself : (l : List Item) → Ordered l → (y z : Item) → Memᴰ y l → Memᴰ z l → y.m ≤ z.m → y.p ≤ z.p → y ≡ z
only_itself [] o y z i j h k = absurd (Memᴰ.not-nil i)
only_itself (x ∷ l) o y z i j h k =
    only_step x y z l o.0 (λ c d. only_itself l o.1 y z c d h k) (Memᴰ.cases_cons i) (Memᴰ.cases_cons j) h k

-- z is the narrowest item of the list no taller than h.
pub record Narrowest (h : ℕ) (l : List Item) (z : Item) : Type 0 where
  pub in_list : Memᴰ z l
  pub not_taller : z.m ≤ h
  pub narrowest : (y : Item) → Memᴰ y l → y.m ≤ h → z.p ≤ y.p

taken_first : (h : ℕ) (x : Item) (l : List Item) → Ordered (x ∷ l) → x.m ≤ h → Narrowest h (x ∷ l) x
taken_first h x l o k =
    record {
      in_list = Memᴰ.head refl;
      not_taller = k;
      narrowest = λ y i n. ⊎_elim (λ (e : y ≡ x). let same = same_p e in omega arith) (λ (j : Memᴰ y l). let after = o.0 y j in omega arith) (Memᴰ.cases_cons i);
    }

taken_later : (h : ℕ) (x : Item) (l : List Item) (z : Item) → h < x.m → Narrowest h l z → Narrowest h (x ∷ l) z
taken_later h x l z k r =
    record {
      in_list = Memᴰ.tail r.in_list;
      not_taller = r.not_taller;
      narrowest = λ y i n. ⊎_elim (λ (e : y ≡ x). let same = same_m e in absurd (omega arith)) (λ (j : Memᴰ y l). r.narrowest y j n) (Memᴰ.cases_cons i);
    }

narrowest_step : (h : ℕ) (x : Item) (l : List Item) (rest y : Item) → Ordered (x ∷ l) → y.m ≤ h → (Memᴰ y l → Narrowest h l rest) → (y ≡ x) ⊎ Memᴰ y l → (b : Bool) → leb x.m h ≡ b → Narrowest h (x ∷ l) (cond b x rest)
narrowest_step h x l rest y o low next i true e = taken_first h x l o (leb-true x.m h e)
narrowest_step h x l rest y o low next (inl f) false e =
    let same = same_m f in
    let tall = leb-false x.m h e in absurd (omega arith)
narrowest_step h x l rest y o low next (inr i) false e = taken_later h x l rest (leb-false x.m h e) (next i)

-- Where some item is no taller than h, the one taken is the narrowest such.
pub no_taller_narrowest : (h : ℕ) (l : List Item) → Ordered l → (y : Item) → Memᴰ y l → y.m ≤ h → Narrowest h l (no_taller h l)
unfolding no_taller
no_taller_narrowest h [] o y i k = absurd (Memᴰ.not-nil i)
no_taller_narrowest h (x ∷ l) o y i k =
    narrowest_step h x l (no_taller h l) y o k (λ j. no_taller_narrowest h l o.1 y j k) (Memᴰ.cases_cons i) (leb x.m h) refl
