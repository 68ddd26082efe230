-- Sizes stand in order where each is lower and wider than the size before it.
-- Each neighbour comes after the other, so by steps every size comes after all before it.
use mathlib.Core.Path.{◌≡◌, refl, sym, ap, ◌∙◌}
use mathlib.Core.Bool.{Bool, true, false}
use mathlib.Core.List.{List, [], ◌∷◌, Memᴰ}
use mathlib.Core.Logic.{⊎_elim}
use Prim.Native.Nat.{ℕ, suc, ◌+◌, ◌-◌, ◌≤◌, ◌<◌}
use native.Mathlib.Omega.{arith}
use lib.ListN.{length}
use lib.Dec.{ltb}
use borrow.Author.Tests.{ltb-true, ltb-false}
use Rattle.slicing.specs.Item.{Item, size}
use Rattle.slicing.specs.Good.{Ordered}
use Rattle.sizes.specs.inside.Sizes.{sizes_in, SizeIn}
use Rattle.sizes.specs.declared.Size.{Size}
use Rattle.sizes.proofs.SizesIn.{in_length}
use Rattle.sizes.proofs.GoodSizes.{After}
use Rattle.useful.specs.inside.Order.{GaugeBytes}
use Rattle.useful.specs.inside.Narrowest.{size_no}

abbrev InSteps : List Item → ℕ → Type 0
InSteps s k = (i : ℕ) → suc i < k → After (size_no s i) (size_no s (suc i))

after_all : (y x : Item) (l : List Item) → After y x → Ordered (x ∷ l) → (z : Item) → Memᴰ z (x ∷ l) → (z.m < y.m) × (y.p < z.p)
after_all y x l next order z i =
    ⊎_elim (λ (same : z ≡ x). rw same (next.lower, next.wider))
    (λ (j : Memᴰ z l). let later = order.0 z j in (omega arith, omega arith)) (mathlib.Core.List.Memᴰ.cases_cons i)

steps_ordered : (s : List Item) → InSteps s (length s) → Ordered s
steps_ordered [] steps = tt
steps_ordered (y ∷ []) steps = (λ z i. absurd (mathlib.Core.List.Memᴰ.not-nil i), tt)
steps_ordered (y ∷ x ∷ l) steps =
    let rest = steps_ordered (x ∷ l) (λ i less. steps (suc i) (omega arith)) in
    (after_all y x l (steps 0 (omega arith)) rest, rest)

-- One step more, from the last of the first k sizes to the next.
steps_more : (s : List Item) (k : ℕ) (y z : Item) → InSteps s k → y ≡ size_no s (k - 1) → z ≡ size_no s k → After y z → InSteps s (k + 1)
steps_more s k y z steps last here next i less = step (ltb (suc i) k) refl
  where
    step : (b : Bool) → ltb (suc i) k ≡ b → After (size_no s i) (size_no s (suc i))
    step true e = steps i (ltb-true (suc i) k e)
    step false e =
        let over = ltb-false (suc i) k e in
        let place : suc i ≡ k = omega arith in
        let before : i ≡ k - 1 = omega arith in
        let same_y = ap (size_no s) before ∙ sym last in
        let same_z = ap (size_no s) place ∙ sym here in
        rw (same_y, same_z) next

-- The first k sizes stand in order, and `before` is the last of them.
pub record Standing (s : List Item) (before : Item) (k : ℕ) : Type 0 where
  pub some : 1 ≤ k
  pub inside : k ≤ length s
  pub last : before ≡ size_no s (k - 1)
  pub steps : InSteps s k

module _ (bytes : List ℕ) (count : ℕ) where
  abbrev s : List Item
  s = sizes_in count bytes

  as_many : length s ≡ count
  as_many = in_length count bytes

  pub first_stands : (z : Size) → GaugeBytes count bytes → SizeIn bytes 0 z → Standing s (size z.height z.width) 1
  first_stands z gauge read =
      record {
        some = omega arith;
        inside = omega (arith, as_many);
        last = read.same count (omega arith);
        steps = λ i less. absurd (omega arith);
      }

  pub next_stands : (y z : Size) (k : ℕ) → Standing s (size y.height y.width) k → k < count → SizeIn bytes k z → z.height < y.height → y.width < z.width → Standing s (size z.height z.width) (k + 1)
  next_stands y z k known more read lower wider =
      let here = read.same count more in
      record {
        some = omega arith;
        inside = omega (arith, as_many);
        last = (let place : k + 1 - 1 ≡ k = omega arith in rw place here);
        steps = steps_more s k _ _ known.steps known.last here (record { lower = lower; wider = wider });
      }

  pub all_stand : (y : Item) (k : ℕ) → Standing s y k → count ≤ k → Ordered s
  all_stand y k known done = steps_ordered s (λ i less. known.steps i (omega (arith, as_many)))
