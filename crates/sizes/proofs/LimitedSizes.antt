-- What the loop over a gauge's sizes keeps where check 9 is not asked: the sizes from the present one on answer what all of them do.
-- A size is then asked nothing about the one before it, so the sizes from any one on are asked as if it were the first.
use mathlib.Core.Path.{◌≡◌, refl, sym, ◌∙◌}
use mathlib.Core.Bool.{false}
use mathlib.Core.List.{List}
use Prim.Native.Nat.{ℕ, zero, suc, ◌+◌, ◌-◌, ◌*◌, ◌≤◌, ◌<◌}
use native.Mathlib.Nat.{mul-zero, add-zero, sub-zero}
use native.Mathlib.Omega.{arith}
use lib.ListN.{drop}
use Rattle.checks.specs.declared.Check.{Check}
use Rattle.checks.specs.declared.Check.TheVariants.{Limits}
use Rattle.checks.specs.Answer.{refused, taken, ask, Asked}
use Rattle.checks.proofs.Answers.{ask_taken}
use Rattle.sizes.specs.inside.Sizes.{asked}
use Rattle.slicing.specs.Item.{Item}
use Rattle.sizes.specs.Rules.{Rules, asks_order}
use Rattle.sizes.specs.GaugeSizes.{limited, sizes_after, sizes_from}
use Rattle.sizes.proofs.SizeChecks.{limits_no, later, first_size}

pub record Checking (rules : Rules) (s : List ℕ) (at count i : ℕ) : Type 0 where
  pub inside : i ≤ count
  pub same : asked (sizes_from rules (count - i) (drop (at + rules.step * i) s)) ≡ asked (sizes_from rules count (drop at s))

pub checking_start : (rules : Rules) (s : List ℕ) (at count : ℕ) → Checking rules s at count 0
checking_start rules s at count =
    record { inside = omega arith; same = rw (sub-zero, mul-zero rules.step, add-zero at) }

after_from : (rules : Rules) → asks_order rules ≡ false → (y : Item) (k : ℕ) (s : List ℕ) → asked (sizes_after rules y k s) ≡ asked (sizes_from rules k s)
unfolding sizes_after sizes_from
after_from rules unasked y zero s = refl
after_from rules unasked y (suc k) s = rw unasked

-- The size z at its place, of which check 8 answers r.
module _ (rules : Rules) (s : List ℕ) (at count i : ℕ) (k : Checking rules s at count i) (more : i < count) (z : Item) (here : z ≡ rules.size_of (drop (at + rules.step * i) s)) (r : Asked) (limits : r ≡ ask (limited z) Limits (taken tt)) where
  turn : asked (ask (limited z) Limits (later rules s at count i more z here)) ≡ asked (sizes_from rules count (drop at s))
  turn = sym (first_size rules s at count i more z here) ∙ k.same

  pub checking_stop : (e : Check) → r ≡ refused e → refused e ≡ asked (sizes_from rules count (drop at s))
  checking_stop e out = limits_no _ (limited z) e (sym limits ∙ out) ∙ turn

  pub checking_more : asks_order rules ≡ false → (u : Unit {0}) → r ≡ taken u → Checking rules s at count (i + 1)
  checking_more unasked u fine =
      let yes = (ask_taken (limited z) Limits _ u (sym limits ∙ fine)).0 in
      record {
        inside = omega arith;
        same = sym (after_from rules unasked z (count - (i + 1)) (drop (at + rules.step * (i + 1)) s)) ∙ (rw yes at turn);
      }

pub checking_done : (rules : Rules) (s : List ℕ) (at count i : ℕ) → Checking rules s at count i → count ≤ i → taken tt ≡ asked (sizes_from rules count (drop at s))
unfolding sizes_from
checking_done rules s at count i k h =
    let none : count - i ≡ 0 = omega arith in
    rw none at k.same
