-- What is picked for an outline: an item of the list inside it, of the least area, and of equal areas the least width; nothing is picked only where no item is inside.
-- Each item is set against the pick of the items after it, so by going down the list the pick is at least as good as every item inside.
use mathlib.Core.Path.{◌≡◌, refl, subst}
use mathlib.Core.Bool.{Bool, true, false, true≢false, false≢true, cond, ◌&&◌, ◌||◌}
use mathlib.Core.List.Memᴰ
use mathlib.Core.List.{List, [], ◌∷◌, Memᴰ}
use mathlib.Core.Logic.{⊎_elim}
use Prim.Native.Nat.{◌≤◌}
use native.Mathlib.Omega.{arith}
use lib.Dec.{leb, ltb, eqb}
use borrow.Author.Tests.{leb-true, leb-false, ltb-true, ltb-false, eqb-true, eqb-false}
use Rattle.slicing.specs.Item.{Item, height, width}
use Rattle.slicing.specs.Layout.{Outline}
use Rattle.slicing.specs.Fit.{Pick, nothing, picked, area, fits, better, choose, smallest}

-- z is inside the outline.
pub record Within (o : Outline) (z : Item) : Type 0 where
  pub low : height z ≤ o.height
  pub narrow : width z ≤ o.width

-- z has less area than y, or the same area and no more width.
pub record NoWorse (z y : Item) : Type 0 where
  pub area_least : area z ≤ area y
  pub width_least : area y ≡ area z → width z ≤ width y

-- z is picked of the list.
pub record Best (o : Outline) (l : List Item) (z : Item) : Type 0 where
  pub in_list : Memᴰ z l
  pub within : Within o z
  pub best : (y : Item) → Memᴰ y l → Within o y → NoWorse z y

-- No item of the list is inside the outline.
pub record NoneWithin (o : Outline) (l : List Item) : Type 0 where
  pub none : (y : Item) → Memᴰ y l → Within o y → ⊥

abbrev pub PickMeans : Outline → List Item → Pick → Type 0
PickMeans o l nothing = NoneWithin o l
PickMeans o l (picked z) = Best o l z

fits_true : (o : Outline) (z : Item) (a b : Bool) → leb (height z) o.height ≡ a → leb (width z) o.width ≡ b → (a && b) ≡ true → Within o z
fits_true o z true true e f g = record { low = leb-true _ _ e; narrow = leb-true _ _ f }
fits_true o z true false e f g = absurd (false≢true g)
fits_true o z false b e f g = absurd (false≢true g)

fits_false : (o : Outline) (z : Item) (a b : Bool) → leb (height z) o.height ≡ a → leb (width z) o.width ≡ b → (a && b) ≡ false → Within o z → ⊥
fits_false o z true true e f g w = true≢false g
fits_false o z true false e f g w = let h = leb-false (width z) o.width f in omega arith
fits_false o z false b e f g w = let h = leb-false (height z) o.height e in omega arith

better_true : (y z : Item) (a b c : Bool) → ltb (area y) (area z) ≡ a → eqb (area y) (area z) ≡ b → ltb (width y) (width z) ≡ c → (a || (b && c)) ≡ true → NoWorse y z
better_true y z true b c e f g t = let less = ltb-true (area y) (area z) e in record { area_least = omega arith; width_least = λ same. absurd (omega arith) }
better_true y z false true true e f g t =
    let same = eqb-true (area y) (area z) f in
    let less = ltb-true (width y) (width z) g in record { area_least = omega arith; width_least = λ _. omega arith }
better_true y z false true false e f g t = absurd (false≢true t)
better_true y z false false c e f g t = absurd (false≢true t)

better_false : (y z : Item) (a b c : Bool) → ltb (area y) (area z) ≡ a → eqb (area y) (area z) ≡ b → ltb (width y) (width z) ≡ c → (a || (b && c)) ≡ false → NoWorse z y
better_false y z true b c e f g t = absurd (true≢false t)
better_false y z false true true e f g t = absurd (true≢false t)
better_false y z false true false e f g t =
    let more = ltb-false (area y) (area z) e in
    let wide = ltb-false (width y) (width z) g in record { area_least = more; width_least = λ _. wide }
better_false y z false false c e f g t =
    let more = ltb-false (area y) (area z) e in
    record { area_least = more; width_least = λ same. absurd (eqb-false (area y) (area z) f same) }

itself : (z : Item) → NoWorse z z
itself z = record { area_least = omega arith; width_least = λ _. omega arith }

through : (x y z : Item) → NoWorse x y → NoWorse y z → NoWorse x z
through x y z h k =
    record {
      area_least = omega arith;
      width_least = λ same. let first = h.width_least (omega arith) in let second = k.width_least (omega arith) in omega arith;
    }

-- The first item is the pick where it is no worse than every item after it.
first_picked : (o : Outline) (z : Item) (l : List Item) → Within o z → ((y : Item) → Memᴰ y l → Within o y → NoWorse z y) → Best o (z ∷ l) z
first_picked o z l w k =
    record {
      in_list = Memᴰ.head refl;
      within = w;
      best = λ y i v. ⊎_elim (λ (e : y ≡ z). rw e (itself z)) (λ (j : Memᴰ y l). k y j v) (Memᴰ.cases_cons i);
    }

-- The pick of the items after it stays the pick where it is no worse than the first, if that is inside.
later_picked : (o : Outline) (z : Item) (l : List Item) (x : Item) → Best o l x → (Within o z → NoWorse x z) → Best o (z ∷ l) x
later_picked o z l x r k =
    record {
      in_list = Memᴰ.tail r.in_list;
      within = r.within;
      best = λ y i v. ⊎_elim (λ (e : y ≡ z). rw e (k (rw e at v))) (λ (j : Memᴰ y l). r.best y j v) (Memᴰ.cases_cons i);
    }

chosen : (o : Outline) (z : Item) (l : List Item) (x : Item) → Within o z → Best o l x → (b : Bool) → better x z ≡ b → PickMeans o (z ∷ l) (cond b (picked x) (picked z))
chosen o z l x w r true e = later_picked o z l x r (λ _. better_true x z _ _ _ refl refl refl e)
chosen o z l x w r false e = first_picked o z l w (λ y i v. through z x y (better_false x z _ _ _ refl refl refl e) (r.best y i v))

pick_step : (o : Outline) (z : Item) (l : List Item) (rest : Pick) → PickMeans o l rest → (b : Bool) → fits o z ≡ b → PickMeans o (z ∷ l) (cond b (choose z rest) rest)
pick_step o z l nothing h true e = first_picked o z l (fits_true o z _ _ refl refl e) (λ y i v. absurd (h.none y i v))
pick_step o z l (picked x) h true e = chosen o z l x (fits_true o z _ _ refl refl e) h (better x z) refl
pick_step o z l nothing h false e =
    record {
      none = λ y i v. ⊎_elim (λ (f : y ≡ z). fits_false o z _ _ refl refl e (rw f at v)) (λ (j : Memᴰ y l). h.none y j v) (Memᴰ.cases_cons i);
    }
pick_step o z l (picked x) h false e = later_picked o z l x h (λ w. absurd (fits_false o z _ _ refl refl e w))

-- The pick of any list, by what it is.
pub pick_means : (o : Outline) (l : List Item) → PickMeans o l (smallest o l)
unfolding smallest
pick_means o [] = record { none = λ y i v. Memᴰ.not-nil i }
pick_means o (z ∷ l) = pick_step o z l (smallest o l) (pick_means o l) (fits o z) refl

pub nothing_within : (o : Outline) (l : List Item) → smallest o l ≡ nothing → NoneWithin o l
nothing_within o l e = subst (λ (r : Pick). PickMeans o l r) e (pick_means o l)
