-- A legal layout with a gap is one whose gauges have printed sizes, with a strip of the gap's width at each join.
-- The furthest edge of a part keeps to a line exactly where each gauge's does.
use mathlib.Core.Path.{refl, sym, subst}
use mathlib.Core.List.Memᴰ
use mathlib.Core.List.{List, [], ◌∷◌, ◌++◌, Memᴰ}
use mathlib.Core.Logic.{⊎_elim}
use Prim.Native.Nat.{ℕ, ◌+◌, ◌≤◌, max}
use native.Mathlib.Omega.{arith}
use Rattle.slicing.specs.Tree.{Tree, gauge, beside, stacked}
use Rattle.slicing.specs.Layout.{Layout, rightmost, topmost, LeftsFrom, BottomsFrom, Legal}
use Rattle.slicing.specs.Strips.{Rectangle, rectangles, HasSizes, Strips}

-- On which side of a line at v a rectangle lies, across and upward.
abbrev LeftOf : ℕ → Rectangle → Type 0
LeftOf v x = x.right ≤ v

abbrev RightOf : ℕ → Rectangle → Type 0
RightOf v x = v ≤ x.left

abbrev Below : ℕ → Rectangle → Type 0
Below v x = x.upper ≤ v

abbrev Above : ℕ → Rectangle → Type 0
Above v x = v ≤ x.lower

-- What holds of each rectangle of a list, of one, and of two lists one after the other.
module _ (P : Rectangle → Type 0) where
  abbrev Each : List Rectangle → Type 0
  Each k = (x : Rectangle) → Memᴰ x k → P x

  each_one : (y : Rectangle) → P y → Each (y ∷ [])
  each_one y h x i = subst P (sym (Memᴰ.eq_of_singleton i)) h

  each_both : (k m : List Rectangle) → Each k → Each m → Each (k ++ m)
  each_both k m f g x i = ⊎_elim (f x) (g x) (Memᴰ.append_cases k i)

  each_first : (k m : List Rectangle) → Each (k ++ m) → Each k
  each_first k m h x i = h x (Memᴰ.append_left m i)

  each_second : (k m : List Rectangle) → Each (k ++ m) → Each m
  each_second k m h x i = h x (Memᴰ.append_right k i)

-- A part keeps to a line at v where each of its gauges k does: by its furthest right and upper edge, and by what it says of its left and lower edges.
record Keeps (k : List Rectangle) (right upper : ℕ) (lefts bottoms : Type 0) (v : ℕ) : Type 0 where
  each_left : right ≤ v → Each (LeftOf v) k
  all_left : Each (LeftOf v) k → right ≤ v
  each_right : lefts → Each (RightOf v) k
  all_right : Each (RightOf v) k → lefts
  each_below : upper ≤ v → Each (Below v) k
  all_below : Each (Below v) k → upper ≤ v
  each_above : bottoms → Each (Above v) k
  all_above : Each (Above v) k → bottoms

keeps_one : (y : Rectangle) (v : ℕ) → Keeps (y ∷ []) y.right y.upper (v ≤ y.left) (v ≤ y.lower) v
keeps_one y v =
    record {
      each_left = each_one (LeftOf v) y;
      all_left = λ h. h y (Memᴰ.head refl);
      each_right = each_one (RightOf v) y;
      all_right = λ h. h y (Memᴰ.head refl);
      each_below = each_one (Below v) y;
      all_below = λ h. h y (Memᴰ.head refl);
      each_above = each_one (Above v) y;
      all_above = λ h. h y (Memᴰ.head refl);
    }

-- Two parts, whichever way they are joined.
module _ (k m : List Rectangle) (right upper right₂ upper₂ : ℕ) (lefts bottoms lefts₂ bottoms₂ : Type 0) (v : ℕ) where
  keeps_joined : Keeps k right upper lefts bottoms v → Keeps m right₂ upper₂ lefts₂ bottoms₂ v → Keeps (k ++ m) (max right right₂) (max upper upper₂) (lefts × lefts₂) (bottoms × bottoms₂) v
  keeps_joined x y =
      record {
        each_left = λ h. each_both (LeftOf v) k m (x.each_left (omega arith)) (y.each_left (omega arith));
        all_left = λ h. let first = x.all_left (each_first (LeftOf v) k m h) in let second = y.all_left (each_second (LeftOf v) k m h) in omega arith;
        each_right = λ h. each_both (RightOf v) k m (x.each_right h.0) (y.each_right h.1);
        all_right = λ h. (x.all_right (each_first (RightOf v) k m h), y.all_right (each_second (RightOf v) k m h));
        each_below = λ h. each_both (Below v) k m (x.each_below (omega arith)) (y.each_below (omega arith));
        all_below = λ h. let first = x.all_below (each_first (Below v) k m h) in let second = y.all_below (each_second (Below v) k m h) in omega arith;
        each_above = λ h. each_both (Above v) k m (x.each_above h.0) (y.each_above h.1);
        all_above = λ h. (x.all_above (each_first (Above v) k m h), y.all_above (each_second (Above v) k m h));
      }

keeps : (t : Tree) (l : Layout t) (v : ℕ) → Keeps (rectangles t l) (rightmost t l) (topmost t l) (LeftsFrom t l v) (BottomsFrom t l v) v
keeps (gauge s) l v = keeps_one _ v
keeps (beside a b) l v = keeps_joined _ _ _ _ _ _ _ _ _ _ v (keeps a l.0 v) (keeps b l.1 v)
keeps (stacked a b) l v = keeps_joined _ _ _ _ _ _ _ _ _ _ v (keeps a l.0 v) (keeps b l.1 v)

-- "The line of a layout becomes a strip of that width, with the first part's gauges at or before it and the second part's at or after it; gauges outside the join may cross its prolongation." A legal layout has such a strip at each join, and the strip binds the two parts of its own join alone.
pub legal_strips : (gap : ℕ) (t : Tree) (l : Layout t) → Legal gap t l → Strips gap t l
legal_strips gap (gauge s) l legal = tt
legal_strips gap (beside a b) l legal = (
  legal_strips gap a l.0 legal.0,
  legal_strips gap b l.1 legal.1,
  record {
    start = legal.2.0;
    before = (keeps a l.0 legal.2.0).each_left legal.2.1;
    after = (keeps b l.1 (legal.2.0 + gap)).each_right legal.2.2;
  },
)
legal_strips gap (stacked a b) l legal = (
  legal_strips gap a l.0 legal.0,
  legal_strips gap b l.1 legal.1,
  record {
    start = legal.2.0;
    before = (keeps a l.0 legal.2.0).each_below legal.2.1;
    after = (keeps b l.1 (legal.2.0 + gap)).each_above legal.2.2;
  },
)

-- And each gauge in it has one of its printed sizes.
pub legal_sizes : (gap : ℕ) (t : Tree) (l : Layout t) → Legal gap t l → HasSizes t l
legal_sizes gap (gauge s) l legal = legal
legal_sizes gap (beside a b) l legal = (legal_sizes gap a l.0 legal.0, legal_sizes gap b l.1 legal.1)
legal_sizes gap (stacked a b) l legal = (legal_sizes gap a l.0 legal.0, legal_sizes gap b l.1 legal.1)

-- So a layout of printed sizes with a strip at each join is legal.
pub strips_legal : (gap : ℕ) (t : Tree) (l : Layout t) → HasSizes t l → Strips gap t l → Legal gap t l
strips_legal gap (gauge s) l sizes strips = sizes
strips_legal gap (beside a b) l sizes strips =
    let strip = strips.2 in (
      strips_legal gap a l.0 sizes.0 strips.0,
      strips_legal gap b l.1 sizes.1 strips.1,
      (strip.start, (keeps a l.0 strip.start).all_left strip.before, (keeps b l.1 (strip.start + gap)).all_right strip.after),
    )
strips_legal gap (stacked a b) l sizes strips =
    let strip = strips.2 in (
      strips_legal gap a l.0 sizes.0 strips.0,
      strips_legal gap b l.1 sizes.1 strips.1,
      (strip.start, (keeps a l.0 strip.start).all_below strip.before, (keeps b l.1 (strip.start + gap)).all_above strip.after),
    )
