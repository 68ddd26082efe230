-- Laws of the kinds of entries: each has its own number, and a number that is none of theirs is refused.
-- All hold by cases on the three kinds.
use mathlib.Core.Path.{◌≡◌, refl, sym, ap}
use mathlib.Core.Bool.{Bool, true, false, cond, not, beq}
use Prim.Native.Nat.{ℕ, ◌<◌}
use native.Mathlib.Omega.{arith}
use lib.Dec.{eqb}
use denote.Enum.Bare.{sameb}
use borrow.Author.Tests.{eqb-true}
use Rattle.checks.specs.declared.Check.{Check}
use Rattle.checks.specs.declared.Check.TheVariants.{Kind as no_kind}
use Rattle.checks.specs.Answer.{Answer, refused, taken}
use Rattle.checks.proofs.Answers.{same_taken, not_both}
use Rattle.slicing.specs.Tree.{Tree, gauge, beside, stacked}
use Rattle.sizes.specs.Rules.{Rules}
use Rattle.sizes.proofs.SizeChecks.{same_refused}
use Rattle.entries.specs.Entry.{State, gauge_entry, join_entry, kind_entry}
use Rattle.entries.specs.contracts.kinds.Kind.{the_type}
use Rattle.entries.specs.declared.kinds.Kind.{Kind}
use Rattle.entries.specs.declared.kinds.Kind.TheVariants.{Gauge, Beside, Stacked}
use Rattle.entries.specs.inside.Kinds.{byte_of, kind_numbered, last_kind, kind_of, Cut, cut_beside, cut_stacked, across}

pub kind_low : (k : Kind) → byte_of k < 256
kind_low Gauge = omega arith
kind_low Beside = omega arith
kind_low Stacked = omega arith

pub kind_same : (k j : Kind) → byte_of k ≡ byte_of j → k ≡ j
kind_same Gauge Gauge e = refl
kind_same Gauge Beside e = absurd (omega arith)
kind_same Gauge Stacked e = absurd (omega arith)
kind_same Beside Gauge e = absurd (omega arith)
kind_same Beside Beside e = refl
kind_same Beside Stacked e = absurd (omega arith)
kind_same Stacked Gauge e = absurd (omega arith)
kind_same Stacked Beside e = absurd (omega arith)
kind_same Stacked Stacked e = refl

-- The kind that a number stands for, and the number of a kind.
pub numbered : (k : Kind) → kind_numbered (byte_of k) ≡ taken k
numbered Gauge = refl
numbered Beside = refl
numbered Stacked = refl

pub number_is : (n : ℕ) (k : Kind) → kind_numbered n ≡ taken k → n ≡ byte_of k
number_is n k e = by (eqb n 0x01) (eqb n 0x02) (eqb n 0x03) (eqb-true n 0x01) (eqb-true n 0x02) (eqb-true n 0x03) e
  where
    by : (a b c : Bool) → (a ≡ true → n ≡ 0x01) → (b ≡ true → n ≡ 0x02) → (c ≡ true → n ≡ 0x03) → ◌≡◌ {A = Answer Kind} (cond a (taken Gauge) (cond b (taken Beside) (cond c (taken Stacked) (refused no_kind)))) (taken k) → n ≡ byte_of k
    by true b c x y z e = rw (← same_taken Gauge k e) (x refl)
    by false true c x y z e = rw (← same_taken Beside k e) (y refl)
    by false false true x y z e = rw (← same_taken Stacked k e) (z refl)
    by false false false x y z e = absurd (not_both no_kind k e)

-- A number that stands for no kind is refused, and so is the entry.
pub kind_unknown : (rules : Rules) (n : ℕ) (e : Check) (s : State) → refused e ≡ kind_numbered n → kind_entry rules n s ≡ refused e
unfolding kind_entry
kind_unknown rules n e s h = by (eqb n 0x01) (eqb n 0x02) (eqb n 0x03) h
  where
    by : (a b c : Bool) → ◌≡◌ {A = Answer Kind} (refused e) (cond a (taken Gauge) (cond b (taken Beside) (cond c (taken Stacked) (refused no_kind)))) → cond a (gauge_entry rules s) (cond b (join_entry beside s) (cond c (join_entry stacked s) (refused no_kind))) ≡ refused e
    by true b c h = absurd (not_both e Gauge h)
    by false true c h = absurd (not_both e Beside h)
    by false false true h = absurd (not_both e Stacked h)
    by false false false h = ap (λ (k : Check). refused k) (sym (same_refused e no_kind h))

pub last_number : (t : Tree) → byte_of (last_kind t) ≡ kind_of t
last_number (gauge s) = refl
last_number (beside a b) = refl
last_number (stacked a b) = refl

-- The kind of a join.
pub cut_number : (n : ℕ) (cut : Tree → Tree → Tree) (k : Kind) → Cut n cut → n ≡ byte_of k → Cut (byte_of k) cut
cut_number n cut k c e = rw (← e) c

pub cut_no_gauge : (cut : Tree → Tree → Tree) → Cut (byte_of Gauge) cut → ⊥
cut_no_gauge cut c = by (byte_of Gauge) cut refl c
  where
    by : (n : ℕ) (cut : Tree → Tree → Tree) → n ≡ 0x01 → Cut n cut → ⊥
    by n cut e cut_beside = omega arith
    by n cut e cut_stacked = omega arith

-- Which way a part runs against a join, by the code's two tests.
pub turned : (part join : Kind) → not (beq (sameb the_type part Stacked) (sameb the_type join Stacked)) ≡ across (byte_of part) (byte_of join)
unfolding across
turned Gauge Gauge = refl
turned Gauge Beside = refl
turned Gauge Stacked = refl
turned Beside Gauge = refl
turned Beside Beside = refl
turned Beside Stacked = refl
turned Stacked Gauge = refl
turned Stacked Beside = refl
turned Stacked Stacked = refl
