-- The useful sizes of a gauge are the printed sizes that are inferior to no other, each of them once, and every printed size has a useful one no taller and no wider.
-- What is left out is known by its test, and going down the printed sizes from one of them, always to the next that is no taller and no wider, ends at a useful one.
use mathlib.Core.Path.{◌≡◌, refl, sym, ap, ap₂, ◌∙◌}
use mathlib.Core.Bool.{Bool, true, false, cond, not, ◌&&◌, ◌||◌, false≢true, true≢false}
use mathlib.Core.List.{List, [], ◌∷◌, Memᴰ}
use mathlib.Core.Logic.{◌⊎◌, inl, inr, ⊎_elim}
use Prim.Native.Nat.{◌≤◌}
use native.Mathlib.Omega.{arith}
use lib.ListN.{length}
use lib.Dec.{leb, eqb}
use borrow.Author.Tests.{leb-true, leb-false, eqb-true, not-false, le-leb, eq-eqb}
use Rattle.slicing.specs.Item.{Item, size, height, width}
use Rattle.slicing.specs.Maxplus.{Meets}
use Rattle.slicing.specs.Useful.{equal, without, once, inferior_to, inferior, useful}

-- Equal pairs are the same item.
pub equal_true : (y z : Item) → equal y z ≡ true → y ≡ z
equal_true y z = step (eqb (height y) (height z)) (eqb (width y) (width z)) refl refl
  where
    step : (b c : Bool) → eqb (height y) (height z) ≡ b → eqb (width y) (width z) ≡ c → (b && c) ≡ true → y ≡ z
    step true true f g e = ap₂ size (eqb-true (height y) (height z) f) (eqb-true (width y) (width z) g)
    step true false f g e = absurd (false≢true e)
    step false c f g e = absurd (false≢true e)

pub equal_same : (y z : Item) → y ≡ z → equal y z ≡ true
equal_same y z e = ap₂ ◌&&◌ (eq-eqb (height y) (height z) (ap height e)) (eq-eqb (width y) (width z) (ap width e))

pub equal_false : (y z : Item) → equal y z ≡ false → y ≡ z → ⊥
equal_false y z e same = true≢false (sym (equal_same y z same) ∙ e)

-- What is left where a test leaves sizes out.
without_out : (test : Item → Bool) (z : Item) (l : List Item) → Memᴰ z (without test l) → Memᴰ z l × (test z ≡ false)
without_out test z [] i = absurd (mathlib.Core.List.Memᴰ.not-nil i)
without_out test z (y ∷ l) i = step (test y) refl (without_out test z l) i
  where
    step : (b : Bool) → test y ≡ b → (Memᴰ z (without test l) → Memᴰ z l × (test z ≡ false)) → Memᴰ z (cond b (without test l) (y ∷ without test l)) → Memᴰ z (y ∷ l) × (test z ≡ false)
    step true e next i = let r = next i in (mathlib.Core.List.Memᴰ.tail r.0, r.1)
    step false e next i =
        ⊎_elim (λ (same : z ≡ y). (mathlib.Core.List.Memᴰ.head same, ap test same ∙ e))
        (λ (j : Memᴰ z (without test l)). let r = next j in (mathlib.Core.List.Memᴰ.tail r.0, r.1)) (mathlib.Core.List.Memᴰ.cases_cons i)

without_in : (test : Item → Bool) (z : Item) (l : List Item) → Memᴰ z l → test z ≡ false → Memᴰ z (without test l)
without_in test z [] i left = absurd (mathlib.Core.List.Memᴰ.not-nil i)
without_in test z (y ∷ l) i left = step (test y) refl (λ j. without_in test z l j left) (mathlib.Core.List.Memᴰ.cases_cons i)
  where
    step : (b : Bool) → test y ≡ b → (Memᴰ z l → Memᴰ z (without test l)) → (z ≡ y) ⊎ Memᴰ z l → Memᴰ z (cond b (without test l) (y ∷ without test l))
    step true e next (inl same) = absurd (true≢false (sym e ∙ ap test (sym same) ∙ left))
    step true e next (inr j) = next j
    step false e next (inl same) = mathlib.Core.List.Memᴰ.head same
    step false e next (inr j) = mathlib.Core.List.Memᴰ.tail (next j)

without_short : (test : Item → Bool) (l : List Item) → length (without test l) ≤ length l
without_short test [] = omega arith
without_short test (y ∷ l) = step (test y) (without_short test l)
  where
    step : (b : Bool) → length (without test l) ≤ length l → length (cond b (without test l) (y ∷ without test l)) ≤ length (y ∷ l)
    step true h = omega arith
    step false h = omega arith

-- Each size once: the same items, none of them twice.
once_out : (z : Item) (l : List Item) → Memᴰ z (once l) → Memᴰ z l
once_out z [] i = absurd (mathlib.Core.List.Memᴰ.not-nil i)
once_out z (y ∷ l) i =
    ⊎_elim (λ (same : z ≡ y). mathlib.Core.List.Memᴰ.head same)
    (λ (j : Memᴰ z (without (equal y) (once l))). mathlib.Core.List.Memᴰ.tail (once_out z l (without_out (equal y) z (once l) j).0))
    (mathlib.Core.List.Memᴰ.cases_cons i)

once_in : (z : Item) (l : List Item) → Memᴰ z l → Memᴰ z (once l)
once_in z [] i = absurd (mathlib.Core.List.Memᴰ.not-nil i)
once_in z (y ∷ l) i = step (equal y z) refl (once_in z l) (mathlib.Core.List.Memᴰ.cases_cons i)
  where
    step : (b : Bool) → equal y z ≡ b → (Memᴰ z l → Memᴰ z (once l)) → (z ≡ y) ⊎ Memᴰ z l → Memᴰ z (y ∷ without (equal y) (once l))
    step true e next j = mathlib.Core.List.Memᴰ.head (sym (equal_true y z e))
    step false e next (inl same) = mathlib.Core.List.Memᴰ.head same
    step false e next (inr j) = mathlib.Core.List.Memᴰ.tail (without_in (equal y) z (once l) (next j) e)

once_short : (l : List Item) → length (once l) ≤ length l
once_short [] = omega arith
once_short (y ∷ l) = omega (arith, without_short (equal y) (once l), once_short l)

abbrev pub Distinct : List Item → Type 0
Distinct [] = Unit {0}
Distinct (y ∷ l) = ((z : Item) → Memᴰ z l → y ≡ z → ⊥) × Distinct l

without_distinct : (test : Item → Bool) (l : List Item) → Distinct l → Distinct (without test l)
without_distinct test [] d = tt
without_distinct test (y ∷ l) d = step (test y) (without_distinct test l d.1)
  where
    step : (b : Bool) → Distinct (without test l) → Distinct (cond b (without test l) (y ∷ without test l))
    step true h = h
    step false h = (λ z i. d.0 z (without_out test z l i).0, h)

once_distinct : (l : List Item) → Distinct (once l)
once_distinct [] = tt
once_distinct (y ∷ l) =
    (λ z i. equal_false y z (without_out (equal y) z (once l) i).1, without_distinct (equal y) (once l) (once_distinct l))

-- z is inferior to none of the sizes: one that is no taller and no wider is z itself.
abbrev pub NoneBetter : List Item → Item → Type 0
NoneBetter s z = (y : Item) → Memᴰ y s → y.m ≤ z.m → y.p ≤ z.p → y ≡ z

not_inferior : (y z : Item) → inferior_to y z ≡ false → y.m ≤ z.m → y.p ≤ z.p → y ≡ z
not_inferior y z e h k = equal_true y z (not-false (equal y z) (rw (le-leb y.m z.m h, le-leb y.p z.p k) at e))

itself_only : (y z : Item) → (y.m ≤ z.m → y.p ≤ z.p → y ≡ z) → inferior_to y z ≡ false
itself_only y z h = step (leb y.m z.m) (leb y.p z.p) refl refl
  where
    step : (b c : Bool) → leb y.m z.m ≡ b → leb y.p z.p ≡ c → (b && c && not (equal y z)) ≡ false
    step true true e f = ap not (equal_same y z (h (leb-true y.m z.m e) (leb-true y.p z.p f)))
    step true false e f = refl
    step false c e f = refl

neither : (b c : Bool) → (b || c) ≡ false → (b ≡ false) × (c ≡ false)
neither true c e = absurd (true≢false e)
neither false c e = (refl, e)

none_more : (x : Item) (s : List Item) (z : Item) → (x.m ≤ z.m → x.p ≤ z.p → x ≡ z) → NoneBetter s z → NoneBetter (x ∷ s) z
none_more x s z first later y i h k =
    ⊎_elim (λ (same : y ≡ x).
    let m_same = ap height same in
    let p_same = ap width same in same ∙ first (omega arith) (omega arith))
    (λ (j : Memᴰ y s). later y j h k) (mathlib.Core.List.Memᴰ.cases_cons i)

none_better : (s : List Item) (z : Item) → inferior s z ≡ false → NoneBetter s z
none_better [] z e = λ y i h k. absurd (mathlib.Core.List.Memᴰ.not-nil i)
none_better (x ∷ s) z e =
    let both = neither (inferior_to x z) (inferior s z) e in
    none_more x s z (not_inferior x z both.0) (none_better s z both.1)

not_left_out : (s : List Item) (z : Item) → NoneBetter s z → inferior s z ≡ false
not_left_out [] z h = refl
not_left_out (x ∷ s) z h =
    ap₂ ◌||◌ (itself_only x z (h x (mathlib.Core.List.Memᴰ.head refl))) (not_left_out s z (λ y i. h y (mathlib.Core.List.Memᴰ.tail i)))

-- A useful size: printed, and inferior to none.
pub record Useful (s : List Item) (z : Item) : Type 0 where
  pub printed : Memᴰ z s
  pub none_better : NoneBetter s z

pub useful_out : (s : List Item) (z : Item) → Memᴰ z (useful s) → Useful s z
useful_out s z i =
    let left = without_out (inferior s) z (once s) i in
    record { printed = once_out z s left.0; none_better = none_better s z left.1 }

pub useful_in : (s : List Item) (z : Item) → Useful s z → Memᴰ z (useful s)
useful_in s z u = without_in (inferior s) z (once s) (once_in z s u.printed) (not_left_out s z u.none_better)

pub useful_distinct : (s : List Item) → Distinct (useful s)
useful_distinct s = without_distinct (inferior s) (once s) (once_distinct s)

pub useful_short : (s : List Item) → length (useful s) ≤ length s
useful_short s = omega (arith, without_short (inferior s) (once s), once_short s)

-- Where going down the sizes l from z ends: at z or at one of them, and none of them is better.
record Lowest (l : List Item) (z : Item) : Type 0 where
  item : Item
  item_in : Memᴰ item (z ∷ l)
  not_taller : item.m ≤ z.m
  no_wider : item.p ≤ z.p
  none_better : NoneBetter l item

lowest : (l : List Item) (z : Item) → Lowest l z
lowest [] z =
    record {
      item = z;
      item_in = mathlib.Core.List.Memᴰ.head refl;
      not_taller = omega arith;
      no_wider = omega arith;
      none_better = λ y i h k. absurd (mathlib.Core.List.Memᴰ.not-nil i);
    }
lowest (x ∷ l) z = step (leb x.m z.m) (leb x.p z.p) refl refl (lowest l x) (lowest l z)
  where
    -- Down to x, and on from there.
    down : x.m ≤ z.m → x.p ≤ z.p → Lowest l x → Lowest (x ∷ l) z
    down h k r =
        record {
          item = r.item;
          item_in = mathlib.Core.List.Memᴰ.tail r.item_in;
          not_taller = omega arith;
          no_wider = omega arith;
          none_better = none_more x l r.item (λ a b. ap₂ size (omega arith) (omega arith)) r.none_better;
        }

    -- Past x, and on from z.
    past : (x.m ≤ z.m → x.p ≤ z.p → ⊥) → Lowest l z → Lowest (x ∷ l) z
    past h r =
        record {
          item = r.item;
          item_in = ⊎_elim (λ (same : r.item ≡ z). mathlib.Core.List.Memᴰ.head same) (λ (i : Memᴰ r.item l). mathlib.Core.List.Memᴰ.tail (mathlib.Core.List.Memᴰ.tail i)) (mathlib.Core.List.Memᴰ.cases_cons r.item_in);
          not_taller = r.not_taller;
          no_wider = r.no_wider;
          none_better = none_more x l r.item (λ a b. absurd (h (omega arith) (omega arith))) r.none_better;
        }

    step : (b c : Bool) → leb x.m z.m ≡ b → leb x.p z.p ≡ c → Lowest l x → Lowest l z → Lowest (x ∷ l) z
    step true true e f r q = down (leb-true x.m z.m e) (leb-true x.p z.p f) r
    step true false e f r q = past (λ h k. let over = leb-false x.p z.p f in omega arith) q
    step false c e f r q = past (λ h k. let over = leb-false x.m z.m e in omega arith) q

-- Every printed size has a useful one no taller and no wider.
pub useful_met : (s : List Item) (z : Item) → Memᴰ z s → Meets (useful s) z.m z.p
useful_met s z i =
    let r = lowest s z in
    let printed = ⊎_elim (λ (same : r.item ≡ z). mathlib.Core.List.Memᴰ.cast same i) (λ (j : Memᴰ r.item s). j) (mathlib.Core.List.Memᴰ.cases_cons r.item_in) in
    record {
      item = r.item;
      item_in = useful_in s r.item (record { printed = printed; none_better = r.none_better });
      not_taller = r.not_taller;
      no_wider = r.no_wider;
    }
