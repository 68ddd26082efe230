-- What the loop over a gauge's sizes keeps where check 9 is asked: check 8 of the present size, and the sizes after it, answer what all sizes do.
-- Sizes in order fall in height and grow in width, so after a first size within the limits only the last can have height 0, and where one is wider than 1,000 all later ones are.
use mathlib.Core.Path.{◌≡◌, refl, sym, ap, ◌∙◌}
use mathlib.Core.Bool.{Bool, true, false, cond, not, ◌&&◌, false≢true}
use mathlib.Core.List.{List, []}
use Prim.Native.Nat.{ℕ, ◌+◌, ◌-◌, ◌*◌, ◌≤◌, ◌<◌}
use native.Mathlib.Nat.{mul-zero, add-zero, sub-zero}
use native.Mathlib.Omega.{arith}
use lib.ListN.{drop}
use borrow.Author.Tests.{not-true, not-false}
use Rattle.checks.specs.declared.Check.{Check}
use Rattle.checks.specs.declared.Check.TheVariants.{Limits, Order}
use Rattle.checks.specs.Answer.{Answer, refused, taken, ask, Asked, number}
use Rattle.checks.proofs.Answers.{ask_taken}
use Rattle.slicing.specs.Item.{Item, height, width}
use Rattle.sizes.specs.Rules.{Rules, asks_order}
use Rattle.sizes.specs.GaugeSizes.{limited, ordered, in_order, version_rules, sizes_after, sizes_from}
use Rattle.sizes.specs.inside.Sizes.{asked}
use Rattle.sizes.proofs.SizeChecks.{limits_no, asked_ask, later, first_size, later_size}
use Rattle.sizes.proofs.GoodSizes.{limited_true, limited_of, ordered_true}

pub record InTurn (rules : Rules) (s : List ℕ) (at count : ℕ) (y : Item) (i : ℕ) : Type 0 where
  pub inside : i ≤ count
  pub low : height y ≤ 1_000
  pub wide : 1 ≤ width y
  pub same : asked (ask (limited y) Limits (sizes_after rules y (count - i) (drop (at + rules.step * i) s))) ≡ asked (sizes_from rules count (drop at s))

-- The first size z, of which check 8 answers r.
module _ (rules : Rules) (s : List ℕ) (at count : ℕ) (some : 1 ≤ count) (z : Item) (here : z ≡ rules.size_of (drop at s)) (r : Asked) (limits : r ≡ ask (limited z) Limits (taken tt)) where
  there : z ≡ rules.size_of (drop (at + rules.step * 0) s)
  there = rw (mul-zero rules.step, add-zero at) here

  first_turn : asked (ask (limited z) Limits (later rules s at count 0 some z there)) ≡ asked (sizes_from rules count (drop at s))
  first_turn = sym (first_size rules s at count 0 some z there) ∙ rw (sub-zero, mul-zero rules.step, add-zero at)

  pub first_out : (e : Check) → r ≡ refused e → refused e ≡ asked (sizes_from rules count (drop at s))
  first_out e out = limits_no _ (limited z) e (sym limits ∙ out) ∙ first_turn

  pub first_in_turn : (u : Unit {0}) → r ≡ taken u → InTurn rules s at count z 1
  first_in_turn u fine =
      let good = limited_true z (ask_taken (limited z) Limits _ u (sym limits ∙ fine)).0 in
      record { inside = some; low = good.low; wide = good.wide; same = first_turn }

-- Where z stands in order after y and is within the limits, so is y, which is low and wide enough.
between : (y z : Item) → height y ≤ 1_000 → 1 ≤ width y → ordered y z ≡ true → limited z ≡ true → limited y ≡ true
between y z low wide order limits =
    let after = ordered_true y z order in
    let good = limited_true z limits in
    limited_of y (record { high = omega arith; wide = wide; low = low; narrow = omega arith })

-- The tests l and m of two sizes, one after the other, before what follows them.
module _ {A : Type 0} (a : Answer A) where
  out_of_order : (l m : Bool) → refused (cond (l && m) Order Limits) ≡ asked (ask l Limits (ask m Limits (ask false Order a)))
  out_of_order true true = refl
  out_of_order true false = refl
  out_of_order false m = refl

  limits_before_order : (l m : Bool) → (m ≡ true → l ≡ true) → asked (ask m Limits a) ≡ asked (ask l Limits (ask m Limits (ask true Order a)))
  limits_before_order true m h = refl
  limits_before_order false true h = absurd (false≢true (h refl))
  limits_before_order false false h = refl

-- A later size z after the size y, where the test of their order is o.
module _ (rules : Rules) (asks : asks_order rules ≡ true) (s : List ℕ) (at count i : ℕ) (y z : Item) (k : InTurn rules s at count y i) (more : i < count) (here : z ≡ rules.size_of (drop (at + rules.step * i) s)) (o : Bool) (order : o ≡ ordered y z) where
  turn : asked (ask (limited y) Limits (ask (limited z) Limits (ask o Order (later rules s at count i more z here)))) ≡ asked (sizes_from rules count (drop at s))
  turn =
      let test : in_order rules y z ≡ o = rw asks (sym order) in
      sym (asked_ask (limited y) Limits _ _ (later_size rules s at count i more z here y ∙ rw test))
      ∙ k.same

  pub turn_stops : not o ≡ true → (e : Check) → e ≡ cond (limited y && limited z) Order Limits → refused e ≡ asked (sizes_from rules count (drop at s))
  turn_stops out e is =
      let no = not-true o out in
      ap (λ (c : Check). refused c) is ∙ out_of_order (later rules s at count i more z here) (limited y) (limited z) ∙ (rw no at turn)

  pub turn_more : not o ≡ false → InTurn rules s at count z (i + 1)
  turn_more fine =
      let yes = not-false o fine in
      let ordered = sym order ∙ yes in
      let after = ordered_true y z ordered in
      record {
        inside = omega arith;
        low = let h = k.low in omega arith;
        wide = let w = k.wide in omega arith;
        same = limits_before_order (later rules s at count i more z here) (limited y) (limited z) (between y z k.low k.wide ordered) ∙ (rw yes at turn);
      }

alone : (l : Bool) → ask l Limits (taken tt) ≡ asked {A = List Item} (ask l Limits (taken []))
alone true = refl
alone false = refl

pub turn_done : (rules : Rules) (s : List ℕ) (at count : ℕ) (y : Item) (i : ℕ) → InTurn rules s at count y i → count ≤ i → (r : Asked) → r ≡ ask (limited y) Limits (taken tt) → r ≡ asked (sizes_from rules count (drop at s))
unfolding sizes_after
turn_done rules s at count y i k h r e =
    let none : count - i ≡ 0 = omega arith in
    e ∙ alone (limited y) ∙ (rw none at k.same)

-- In a file of version 1 the number of its sizes' answer is that of the version's rules.
pub in_version_1 : (v : ℕ) (s : List ℕ) (count n : ℕ) → v ≡ 1 → n ≡ number (sizes_from (version_rules 1) count s) → n ≡ number (sizes_from (version_rules v) count s)
in_version_1 v s count n one e = rw one e
