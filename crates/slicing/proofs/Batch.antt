-- Where items of one list have larger m than the first item of the other, the merge gives all of them with that item's p and the gap added, and then merges the rest.
-- It takes them one by one, and the other list's first item stays until an item of its own m goes, or one of smaller m is first.
use mathlib.Core.Path.{◌≡◌, refl, ap, ◌∙◌}
use mathlib.Core.Bool.{Bool, true, false, cond}
use mathlib.Core.List.{List, [], ◌∷◌, ◌++◌, map, Memᴰ}
use Prim.Native.Nat.{ℕ, ◌≤◌, ◌<◌}
use native.Mathlib.Omega.{arith}
use lib.Dec.{eqb}
use borrow.Author.Tests.{eqb-true, eqb-false, lt-ltb, le-ltb, eq-eqb, ne_eqb}
use Rattle.slicing.specs.Good.{Ordered}
use Rattle.slicing.specs.Merge.{sum}
use Rattle.slicing.specs.Recorded.{Recorded, merge_recorded, items}

-- An older item against b, and a newer item against a: each keeps its record and its m.
abbrev pub against_newer : ℕ → Recorded → Recorded → Recorded
against_newer gap b x = record { number = x.number; item = sum gap x.item.m x.item b.item }

abbrev pub against_older : ℕ → Recorded → Recorded → Recorded
against_older gap a y = record { number = y.number; item = sum gap y.item.m a.item y.item }

unfoldable pub raised_older : ℕ → Recorded → List Recorded → List Recorded
raised_older gap b xs = map (against_newer gap b) xs

unfoldable pub raised_newer : ℕ → Recorded → List Recorded → List Recorded
raised_newer gap a ys = map (against_older gap a) ys

-- One step of the merge, for each of its three ways.
module _ (gap : ℕ) (a b : Recorded) (l k : List Recorded) where
  step_older : b.item.m < a.item.m → merge_recorded gap (a ∷ l) (b ∷ k) ≡ against_newer gap b a ∷ merge_recorded gap l (b ∷ k)
  unfolding merge_recorded
  step_older h = rw (lt-ltb b.item.m a.item.m h, merge_recorded)

  step_both : a.item.m ≡ b.item.m → merge_recorded gap (a ∷ l) (b ∷ k) ≡ against_newer gap b a ∷ merge_recorded gap l k
  unfolding merge_recorded
  step_both h = rw (le-ltb b.item.m a.item.m (omega arith), merge_recorded, eq-eqb a.item.m b.item.m h)

  step_newer : a.item.m < b.item.m → merge_recorded gap (a ∷ l) (b ∷ k) ≡ against_older gap a b ∷ merge_recorded gap (a ∷ l) k
  unfolding merge_recorded
  step_newer h = rw (le-ltb b.item.m a.item.m (omega arith), merge_recorded, ne_eqb a.item.m b.item.m (omega arith))

-- Newer items, all of larger m than a.
pub batch_newer : (gap : ℕ) (a : Recorded) (xs l k : List Recorded) → ((x : Recorded) → Memᴰ x xs → a.item.m < x.item.m)
    → merge_recorded gap (a ∷ l) (xs ++ k) ≡ raised_newer gap a xs ++ merge_recorded gap (a ∷ l) k
unfolding raised_newer
batch_newer gap a [] l k h = refl
batch_newer gap a (x ∷ xs) l k h =
    step_newer gap a x l (xs ++ k) (h x (Memᴰ.head refl))
    ∙ ap (λ (c : List Recorded). against_older gap a x ∷ c) (batch_newer gap a xs l k (λ y i. h y (Memᴰ.tail i)))

-- What is left of the newer list after older items of m at least b's: b too is gone where the last of them has its m.
abbrev pub left_after : Recorded → List Recorded → List Recorded → List Recorded
left_after b [] k = b ∷ k
left_after b (x ∷ []) k = cond (eqb x.item.m b.item.m) k (b ∷ k)
left_after b (x ∷ y ∷ xs) k = left_after b (y ∷ xs) k

last_step : (gap : ℕ) (b x : Recorded) (l k : List Recorded) → b.item.m ≤ x.item.m → merge_recorded gap (x ∷ l) (b ∷ k) ≡ against_newer gap b x ∷ merge_recorded gap l (left_after b (x ∷ []) k)
last_step gap b x l k h = by (eqb x.item.m b.item.m) refl
  where
    by : (t : Bool) → eqb x.item.m b.item.m ≡ t → merge_recorded gap (x ∷ l) (b ∷ k) ≡ against_newer gap b x ∷ merge_recorded gap l (cond t k (b ∷ k))
    by true e = step_both gap x b l k (eqb-true x.item.m b.item.m e)
    by false e =
        let other = eqb-false x.item.m b.item.m e in
        let above : b.item.m < x.item.m = omega arith in
        step_older gap x b l k above

-- A whole run of older items of falling m, none below b's, is finished at once.
pub batch_run : (gap : ℕ) (b : Recorded) (xs l k : List Recorded) → Ordered (items xs) → ((x : Recorded) → Memᴰ x xs → b.item.m ≤ x.item.m)
    → merge_recorded gap (xs ++ l) (b ∷ k) ≡ raised_older gap b xs ++ merge_recorded gap l (left_after b xs k)
unfolding raised_older
batch_run gap b [] l k o h = refl
batch_run gap b (x ∷ []) l k o h = last_step gap b x l k (h x (Memᴰ.head refl))
batch_run gap b (x ∷ y ∷ xs) l k o h =
    let low = h y (Memᴰ.tail (Memᴰ.head refl)) in
    let falls = (o.0 y.item (Memᴰ.head refl)).0 in
    let above : b.item.m < x.item.m = omega arith in
    step_older gap x b ((y ∷ xs) ++ l) k above
    ∙ ap (λ (c : List Recorded). against_newer gap b x ∷ c) (batch_run gap b (y ∷ xs) l k o.1 (λ z i. h z (Memᴰ.tail i)))
