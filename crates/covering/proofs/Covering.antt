-- The gauges of a legal layout cover as many unit squares as their areas come to, so used and blank add up to the face; and they cover no square of a rib.
-- No two gauges overlap, so the squares of each are counted once; and each gauge is inside the layout's own face.
use mathlib.Core.Path.{◌≡◌, refl, sym, ap₂, ◌∙◌}
use mathlib.Core.Bool.{Bool, true, false, ◌&&◌, ◌||◌, false≢true}
use mathlib.Core.List.{List, [], ◌∷◌, ◌++◌, Memᴰ}
use mathlib.Core.Logic.{⊎_elim}
use Prim.Native.Nat.{ℕ, ◌+◌, ◌*◌, ◌-◌, ◌≤◌, ◌<◌}
use native.Mathlib.Omega.{arith}
use lib.Dec.{leb, ltb}
use borrow.Author.Tests.{leb-true, ltb-true}
use Rattle.slicing.specs.Item.{Item, height, width}
use Rattle.slicing.specs.Tree.{Tree, gauge, beside, stacked}
use Rattle.slicing.specs.Layout.{Layout, size_in, rightmost, topmost, Legal}
use Rattle.slicing.specs.Strips.{Rectangle, rectangles, StripAcross, StripUpward, Clear, AllClear, Covers}
use Rattle.slicing.proofs.Clearance.{gauges_clear, clear_apart}
use Rattle.covering.specs.Covered.{sizes_in, total, used, covers, covered, squares, blank, face_area}
use Rattle.covering.proofs.Counting.{squares_none, squares_either, squares_other, rectangle}

both : (a b : Bool) → (a && b) ≡ true → (a ≡ true) × (b ≡ true)
both true b e = (refl, e)
both false b e = absurd (false≢true e)

either : (a b : Bool) → (a || b) ≡ true → (a ≡ true → ⊥) → (b ≡ true → ⊥) → ⊥
either true b e f g = f refl
either false b e f g = g e

neither : (a b : Bool) → (a ≡ true → ⊥) → b ≡ false → (a || b) ≡ false
neither true b first rest = absurd (first refl)
neither false b first rest = rest

-- A square that is covered lies in a gauge, by Paper 2's word for it.
covers_true : (x : Rectangle) (u v : ℕ) → covers x u v ≡ true → Covers x u v
unfolding covers
covers_true x u v e =
    let p = both (leb x.left u && ltb u x.right) (leb x.lower v && ltb v x.upper) e in
    let across = both (leb x.left u) (ltb u x.right) p.0 in
    let upward = both (leb x.lower v) (ltb v x.upper) p.1 in
    record {
      from_left = leb-true x.left u across.0;
      to_right = ltb-true u x.right across.1;
      from_lower = leb-true x.lower v upward.0;
      to_upper = ltb-true v x.upper upward.1;
    }

-- A gauge that is clear of all later ones covers no square of theirs.
later_apart : (gap : ℕ) (x : Rectangle) (l : List Rectangle) → ((y : Rectangle) → Memᴰ y l → Clear gap x y) → (u v : ℕ) → Covers x u v → covered l u v ≡ true → ⊥
unfolding covered
later_apart gap x [] clear u v mine theirs = false≢true theirs
later_apart gap x (y ∷ l) clear u v mine theirs =
    either (covers y u v) (covered l u v) theirs
    (λ first. clear_apart gap x y u v (clear y (mathlib.Core.List.Memᴰ.head refl)) mine (covers_true y u v first))
    (λ rest. later_apart gap x l (λ w i. clear w (mathlib.Core.List.Memᴰ.tail i)) u v mine rest)

-- A rectangle inside a face so wide and so high.
pub record Bounded (wide high : ℕ) (x : Rectangle) : Type 0 where
  pub across : x.left ≤ x.right
  pub upward : x.lower ≤ x.upper
  pub narrow : x.right ≤ wide
  pub low : x.upper ≤ high

abbrev AllBounded : ℕ → ℕ → List Rectangle → Type 0
AllBounded wide high [] = Unit {0}
AllBounded wide high (x ∷ l) = Bounded wide high x × AllBounded wide high l

-- The sum of the areas of rectangles.
unfoldable areas : List Rectangle → ℕ
areas [] = 0
areas (x ∷ l) = (x.right - x.left) * (x.upper - x.lower) + areas l

covered_squares : (gap wide high : ℕ) (l : List Rectangle) → AllClear gap l → AllBounded wide high l → squares wide high (covered l) ≡ areas l
unfolding covers covered areas
covered_squares gap wide high [] clear bounded = squares_none wide high
covered_squares gap wide high (x ∷ l) clear bounded =
    squares_either wide high (covers x) (covered l) (λ u v mine theirs. later_apart gap x l clear.0 u v (covers_true x u v mine) theirs)
    ∙ ap₂ ◌+◌
    (rectangle wide high x.left x.right x.lower x.upper bounded.0.across bounded.0.narrow bounded.0.upward bounded.0.low)
    (covered_squares gap wide high l clear.1 bounded.1)

-- The gauges of a layout, inside any face that its own face is inside of.
bounded_joined : (wide high : ℕ) (k l : List Rectangle) → AllBounded wide high k → AllBounded wide high l → AllBounded wide high (k ++ l)
bounded_joined wide high [] l first second = second
bounded_joined wide high (x ∷ k) l first second = (first.0, bounded_joined wide high k l first.1 second)

gauges_bounded : (wide high : ℕ) (t : Tree) (l : Layout t) → rightmost t l ≤ wide → topmost t l ≤ high → AllBounded wide high (rectangles t l)
gauges_bounded wide high (gauge s) l right top =
    (record { across = omega arith; upward = omega arith; narrow = right; low = top }, tt)
gauges_bounded wide high (beside a b) l right top =
    bounded_joined wide high (rectangles a l.0) (rectangles b l.1)
    (gauges_bounded wide high a l.0 (omega arith) (omega arith)) (gauges_bounded wide high b l.1 (omega arith) (omega arith))
gauges_bounded wide high (stacked a b) l right top =
    bounded_joined wide high (rectangles a l.0) (rectangles b l.1)
    (gauges_bounded wide high a l.0 (omega arith) (omega arith)) (gauges_bounded wide high b l.1 (omega arith) (omega arith))

-- Their areas are those of their sizes.
areas_joined : (k l : List Rectangle) → areas (k ++ l) ≡ areas k + areas l
unfolding areas
areas_joined [] l = omega arith
areas_joined (x ∷ k) l = let e = areas_joined k l in omega arith

pub total_joined : (k l : List Item) → total (k ++ l) ≡ total k + total l
unfolding total
total_joined [] l = omega arith
total_joined (z ∷ k) l = let e = total_joined k l in omega arith

areas_used : (t : Tree) (l : Layout t) → areas (rectangles t l) ≡ used t l
unfolding areas total
areas_used (gauge s) l = one l.across (width (size_in s l)) l.up (height (size_in s l))
  where
    one : (x w y h : ℕ) → (x + w - x) * (y + h - y) + 0 ≡ h * w + 0
    one x w y h =
        let across : x + w - x ≡ w = omega arith in
        let upward : y + h - y ≡ h = omega arith in
        ap₂ (λ (a b : ℕ). a * b + 0) across upward ∙ omega arith
areas_used (beside a b) l =
    areas_joined (rectangles a l.0) (rectangles b l.1)
    ∙ ap₂ ◌+◌ (areas_used a l.0) (areas_used b l.1)
    ∙ sym (total_joined (sizes_in a l.0) (sizes_in b l.1))
areas_used (stacked a b) l =
    areas_joined (rectangles a l.0) (rectangles b l.1)
    ∙ ap₂ ◌+◌ (areas_used a l.0) (areas_used b l.1)
    ∙ sym (total_joined (sizes_in a l.0) (sizes_in b l.1))

-- "Used and blank must add up to the face on every sheet." For every legal layout of every tree, with any gap.
pub used_and_blank : (gap : ℕ) (t : Tree) (l : Layout t) → Legal gap t l → used t l + blank t l ≡ face_area t l
unfolding blank
used_and_blank gap t l legal =
    let c = covered_squares gap (rightmost t l) (topmost t l) (rectangles t l) (gauges_clear gap t l legal) (gauges_bounded (rightmost t l) (topmost t l) t l (omega arith) (omega arith)) in
    let e = areas_used t l in
    let o = squares_other (rightmost t l) (topmost t l) (covered (rectangles t l)) in
    omega arith

-- A square that lies in none of them is not covered.
uncovered : (k : List Rectangle) (u v : ℕ) → ((x : Rectangle) → Memᴰ x k → Covers x u v → ⊥) → covered k u v ≡ false
unfolding covered
uncovered [] u v h = refl
uncovered (x ∷ k) u v h =
    neither (covers x u v) (covered k u v) (λ e. h x (mathlib.Core.List.Memᴰ.head refl) (covers_true x u v e)) (uncovered k u v (λ y i. h y (mathlib.Core.List.Memᴰ.tail i)))

-- "ribs included": no gauge of a join's two parts covers a square of the strip between them, across or upward.
pub rib_across : (gap : ℕ) (first second : List Rectangle) (strip : StripAcross gap first second) (u v : ℕ) → strip.start ≤ u → u < strip.start + gap → covered (first ++ second) u v ≡ false
rib_across gap first second strip u v from to =
    uncovered (first ++ second) u v
    (λ x i inside.
    let left = inside.from_left in
    let right = inside.to_right in
    ⊎_elim (λ (j : Memᴰ x first). let ends = strip.before x j in omega arith) (λ (j : Memᴰ x second). let starts = strip.after x j in omega arith)
    (mathlib.Core.List.Memᴰ.append_cases first i))

pub rib_upward : (gap : ℕ) (first second : List Rectangle) (strip : StripUpward gap first second) (u v : ℕ) → strip.start ≤ v → v < strip.start + gap → covered (first ++ second) u v ≡ false
rib_upward gap first second strip u v from to =
    uncovered (first ++ second) u v
    (λ x i inside.
    let lower = inside.from_lower in
    let upper = inside.to_upper in
    ⊎_elim (λ (j : Memᴰ x first). let ends = strip.before x j in omega arith) (λ (j : Memᴰ x second). let starts = strip.after x j in omega arith)
    (mathlib.Core.List.Memᴰ.append_cases first i))
