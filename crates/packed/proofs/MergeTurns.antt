-- One turn of the merge over two lists that are not empty: the first item is the larger m with the sum of the p and the gap, and each first item goes unless the other's m is larger.
-- It is the merge's own clause, by the three ways in which two m can stand.
use mathlib.Core.Path.{◌≡◌, refl, ap}
use mathlib.Core.Bool.{Bool, true, false}
use mathlib.Core.List.{List, [], ◌∷◌}
use Prim.Native.Nat.{ℕ, ◌+◌, ◌≤◌, ◌<◌, max}
use native.Mathlib.Omega.{arith}
use lib.Dec.{ltb, eqb}
use borrow.Author.Tests.{ltb-true, ltb-false, eqb-true, eqb-false}
use lib.ListN.{drop}
use Rattle.slicing.specs.Item.{Item, size}
use Rattle.slicing.specs.Merge.{merge, sum}

-- The merge ends with the second list.
pub merge_nil : (gap : ℕ) (l : List Item) → merge gap l [] ≡ []
unfolding merge
merge_nil gap [] = refl
merge_nil gap (x ∷ l) = refl

pub merge_turn : (gap : ℕ) (x y : Item) (l k : List Item) (i j : ℕ) → (y.m ≤ x.m → i ≡ 1) → (x.m < y.m → i ≡ 0) → (x.m ≤ y.m → j ≡ 1) → (y.m < x.m → j ≡ 0)
    → merge gap (x ∷ l) (y ∷ k) ≡ size (max x.m y.m) (x.p + gap + y.p) ∷ merge gap (drop i (x ∷ l)) (drop j (y ∷ k))
unfolding merge
merge_turn gap x y l k i j xg xs yg ys = step (ltb y.m x.m) (eqb x.m y.m) refl refl
  where
    first : (m : ℕ) → m ≡ max x.m y.m → sum gap m x y ≡ size (max x.m y.m) (x.p + gap + y.p)
    first m e = ap (λ (n : ℕ). size n (x.p + gap + y.p)) e

    rest : (m n : ℕ) → i ≡ m → j ≡ n → merge gap (drop m (x ∷ l)) (drop n (y ∷ k)) ≡ merge gap (drop i (x ∷ l)) (drop j (y ∷ k))
    rest m n e f = rw (e, f)

    step : (s t : Bool) → ltb y.m x.m ≡ s → eqb x.m y.m ≡ t
        → (elim s [
          | true ↦ sum gap x.m x y ∷ merge gap l (y ∷ k)
          | false ↦ elim t [
            | true ↦ sum gap x.m x y ∷ merge gap l k
            | false ↦ sum gap y.m x y ∷ merge gap (x ∷ l) k
          ]
        ]) ≡ size (max x.m y.m) (x.p + gap + y.p) ∷ merge gap (drop i (x ∷ l)) (drop j (y ∷ k))
    step true t e f =
        let less = ltb-true y.m x.m e in
        cc (first x.m (omega arith), rest 1 0 (xg (omega arith)) (ys less))
    step false true e f =
        let same = eqb-true x.m y.m f in
        cc (first x.m (omega arith), rest 1 1 (xg (omega arith)) (yg (omega arith)))
    step false false e f =
        let no_more = ltb-false y.m x.m e in
        let other = eqb-false x.m y.m f in
        let less : x.m < y.m = omega arith in
        cc (first y.m (omega arith), rest 0 1 (xs less) (yg (omega arith)))
