-- What the test of two sizes says: that the one is narrower, or as wide and lower; or else that the other is no worse.
-- The test looks at the widths first, and at the heights only where the widths are equal.
use mathlib.Core.Path.{◌≡◌, refl}
use mathlib.Core.Bool.{Bool, true, false, ◌&&◌, ◌||◌, false≢true, true≢false}
use Prim.Native.Nat.{ℕ, ◌≤◌, ◌<◌}
use native.Mathlib.Omega.{arith}
use lib.Dec.{ltb, eqb}
use borrow.Author.Tests.{ltb-true, ltb-false, eqb-true, eqb-false, lt-ltb, le-ltb, eq-eqb, ne_eqb}
use Rattle.slicing.specs.Item.{Item, size, height, width}
use Rattle.useful.specs.inside.Narrowest.{narrower}

-- The ways through the test: narrower, as wide, wider.
pub narrower_yes : (h w k v : ℕ) → w < v → ltb w v ≡ narrower (size h w) (size k v)
unfolding narrower
narrower_yes h w k v less = simp (lt-ltb w v less)

pub narrower_same : (h w k v : ℕ) → v ≤ w → w ≡ v → ltb h k ≡ narrower (size h w) (size k v)
unfolding narrower
narrower_same h w k v over same = simp (le-ltb w v over, eq-eqb w v same)

pub narrower_no : (h w k v : ℕ) → v ≤ w → (w ≡ v → ⊥) → eqb w v ≡ narrower (size h w) (size k v)
unfolding narrower
narrower_no h w k v over other = simp (le-ltb w v over, ne_eqb w v other)

-- y is narrower than z, or as wide and no higher.
pub record NoWorse (y z : Item) : Type 0 where
  pub no_wider : y.p ≤ z.p
  pub not_taller : z.p ≡ y.p → y.m ≤ z.m

-- z is narrower than y, or as wide and lower.
pub record Narrower (z y : Item) : Type 0 where
  pub no_wider : z.p ≤ y.p
  pub lower : z.p ≡ y.p → z.m < y.m

pub narrower_true : (z y : Item) → narrower z y ≡ true → Narrower z y
unfolding narrower
narrower_true z y = step (ltb (width z) (width y)) (eqb (width z) (width y)) (ltb (height z) (height y)) refl refl refl
  where
    step : (b c d : Bool) → ltb (width z) (width y) ≡ b → eqb (width z) (width y) ≡ c → ltb (height z) (height y) ≡ d → (b || (c && d)) ≡ true → Narrower z y
    step true c d e f g h = let less = ltb-true (width z) (width y) e in record { no_wider = omega arith; lower = λ same. absurd (omega arith) }
    step false true true e f g h =
        let same = eqb-true (width z) (width y) f in
        let low = ltb-true (height z) (height y) g in
        record { no_wider = omega arith; lower = λ w. low }
    step false true false e f g h = absurd (false≢true h)
    step false false d e f g h = absurd (false≢true h)

pub narrower_false : (z y : Item) → narrower z y ≡ false → NoWorse y z
unfolding narrower
narrower_false z y = step (ltb (width z) (width y)) (eqb (width z) (width y)) (ltb (height z) (height y)) refl refl refl
  where
    step : (b c d : Bool) → ltb (width z) (width y) ≡ b → eqb (width z) (width y) ≡ c → ltb (height z) (height y) ≡ d → (b || (c && d)) ≡ false → NoWorse y z
    step true c d e f g h = absurd (true≢false h)
    step false true true e f g h = absurd (true≢false h)
    step false true false e f g h =
        let wide = ltb-false (width z) (width y) e in
        let tall = ltb-false (height z) (height y) g in
        record { no_wider = omega arith; not_taller = λ same. tall }
    step false false d e f g h =
        let wide = ltb-false (width z) (width y) e in
        record { no_wider = omega arith; not_taller = λ same. absurd (eqb-false (width z) (width y) f same) }
