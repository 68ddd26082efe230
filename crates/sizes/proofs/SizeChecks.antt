-- The tests of a size by their answers, a size at its place, and what the sizes from any one on answer.
-- A test of two parts is the second where the first holds, and the first where it does not; the check of a chain of questions is that of what follows once a question is answered "yes".
use mathlib.Core.Path.{◌≡◌, refl, sym, ap, ◌∙◌}
use mathlib.Core.Bool.{Bool, true, false, and-eq-true_iff}
use mathlib.Core.List.{List, ◌∷◌}
use Prim.Native.Nat.{ℕ, suc, ◌+◌, ◌-◌, ◌*◌, ◌≤◌, ◌<◌}
use native.Mathlib.Nat.{mul-one, mul-add}
use native.Mathlib.Omega.{arith}
use lib.ListN.{get_or, drop}
use lib.Dec.{leb, ltb}
use borrow.Author.Tests.{le-leb, lt-leb, lt-ltb, le-ltb, leb-true}
use lib.Seq.{drop-drop, get_or-drop}
use Rattle.checks.specs.declared.Check.{Check}
use Rattle.checks.specs.declared.Check.TheVariants.{Limits, Order}
use Rattle.checks.specs.Answer.{Answer, refused, taken, ask, next, Asked}
use Rattle.std.specs.Result.{IsErrAnd}
use Rattle.checks.proofs.Answers.{not_both}
use Rattle.slicing.specs.Item.{Item, size}
use Rattle.sizes.specs.Rules.{Rules}
use Rattle.sizes.specs.inside.Sizes.{asked}
use Rattle.sizes.specs.GaugeSizes.{field, within, limited, ordered, in_order, size_at, sizes_after, sizes_from}

-- Answers of `a && b`: where a holds it is b, and where it does not it is a.
pub within_yes : (low high x : ℕ) → low ≤ x → leb x high ≡ within low high x
within_yes low high x h = simp (le-leb low x h)

pub within_no : (low high x : ℕ) → x < low → leb low x ≡ within low high x
within_no low high x h = simp (lt-leb low x h)

-- What a "yes" to it says.
pub within_true : (low high x : ℕ) → within low high x ≡ true → (low ≤ x) × (x ≤ high)
within_true low high x e =
    let both = (and-eq-true_iff (leb low x) (leb x high)).0 e in (leb-true low x both.0, leb-true x high both.1)

pub within_of : (low high x : ℕ) → low ≤ x → x ≤ high → within low high x ≡ true
within_of low high x h k = simp (le-leb low x h, le-leb x high k)

pub ordered_yes : (h w k v : ℕ) → k < h → ltb w v ≡ ordered (size h w) (size k v)
ordered_yes h w k v p = simp (lt-ltb k h p)

pub ordered_no : (h w k v : ℕ) → h ≤ k → ltb k h ≡ ordered (size h w) (size k v)
ordered_no h w k v p = simp (le-ltb k h p)

pub limited_yes : (h w : ℕ) (a b : Bool) → a ≡ within 1 1_000 h → a ≡ true → b ≡ within 1 1_000 w → b ≡ limited (size h w)
limited_yes h w a b p q r = rw (← p, q, r)

pub limited_no : (h w : ℕ) (a : Bool) → a ≡ within 1 1_000 h → a ≡ false → a ≡ limited (size h w)
limited_no h w a p q = rw (← p, q)

field_drop : (s : List ℕ) (at k : ℕ) → field (drop at s) k ≡ field s (at + k)
field_drop s at k = rw (get_or-drop at s k 0, get_or-drop at s (k + 1) 0) (omega_free s at k)
  where
    omega_free : (s : List ℕ) (at k : ℕ) → 256 * get_or s (at + k) 0 + get_or s (at + (k + 1)) 0 ≡ 256 * get_or s (at + k) 0 + get_or s (at + k + 1) 0
    omega_free s at k = let e : at + (k + 1) ≡ at + k + 1 = omega arith in rw e

pub size_at_is : (s : List ℕ) (at h w : ℕ) → h ≡ field s at → w ≡ field s (at + 2) → size h w ≡ size_at (drop at s)
size_at_is s at h w e f = let z : at + 0 ≡ at = omega arith in rw (e, f, field_drop s at 0, field_drop s at 2, z)

size_below : (step : ℕ) (s : List ℕ) (at k : ℕ) → drop step (drop (at + step * k) s) ≡ drop (at + step * (k + 1)) s
size_below step s at k =
    let more = mul-add step k 1 ∙ ap (λ (n : ℕ). step * k + n) (mul-one step) in
    let e : at + step * k + step ≡ at + step * (k + 1) = omega arith in
    rw (drop-drop, e)

-- The check of a chain of questions does not hang on what is made of that which is taken.
asked_next : {A B : Type 0} (a : Answer A) (f : A → B) → asked (next a (λ x. taken (f x))) ≡ asked a
asked_next (refused c) f = refl
asked_next (taken x) f = refl

pub asked_ask : {A B : Type 0} (l : Bool) (c : Check) (a : Answer A) (b : Answer B) → asked a ≡ asked b → asked (ask l c a) ≡ asked (ask l c b)
asked_ask true c a b e = e
asked_ask false c a b e = refl

-- What a `?` answers with is the check that it was given.
pub passed_on : {A : Type 0} (r : Answer A) (e : Check) → IsErrAnd r (λ f. f ≡ e) → r ≡ refused e
passed_on (refused c) e h = ap (λ (k : Check). refused k) h
passed_on (taken x) e h = absurd h

pub same_refused : {A : Type 0} (c e : Check) → ◌≡◌ {A = Answer A} (refused c) (refused e) → c ≡ e
same_refused c e h = cc

-- What was asked is refused by the same check, and taken where it is.
pub asked_refused : {A : Type 0} (a : Answer A) (e : Check) → asked a ≡ refused e → a ≡ refused e
asked_refused (refused c) e h = ap (λ (k : Check). refused k) (same_refused {A = Unit {0}} c e h)
asked_refused (taken x) e h = absurd (not_both {A = Unit {0}} e tt (sym h))

pub asked_taken : {A : Type 0} (a : Answer A) (u : Unit {0}) → asked a ≡ taken u → (x : A) × (a ≡ taken x)
asked_taken (refused c) u h = absurd (not_both {A = Unit {0}} c u h)
asked_taken (taken x) u h = (x, refl)

-- Check 8 fails before whatever is asked after it.
pub limits_no : {A : Type 0} (a : Answer A) (l : Bool) (e : Check) → ◌≡◌ {A = Asked} (ask l Limits (taken tt)) (refused e) → refused e ≡ asked (ask l Limits a)
limits_no a true e h = absurd (not_both {A = Unit {0}} e tt (sym h))
limits_no a false e h = sym h

-- Size i of those at `at`, which is z, and those after it: the check of the sizes from i on, with no size before them and with one.
module _ (rules : Rules) (s : List ℕ) (at count i : ℕ) (more : i < count) (z : Item) (here : z ≡ rules.size_of (drop (at + rules.step * i) s)) where
  abbrev bytes : List ℕ
  bytes = drop (at + rules.step * i) s

  abbrev pub later : Answer (List Item)
  later = sizes_after rules z (count - (i + 1)) (drop (at + rules.step * (i + 1)) s)

  steps : count - i ≡ suc (count - (i + 1))
  steps = omega arith

  rest : asked (next (sizes_after rules (rules.size_of bytes) (count - (i + 1)) (drop rules.step bytes)) (λ zs. taken (rules.size_of bytes ∷ zs))) ≡ asked later
  rest =
      asked_next (sizes_after rules (rules.size_of bytes) (count - (i + 1)) (drop rules.step bytes)) (λ zs. rules.size_of bytes ∷ zs)
      ∙ rw (size_below rules.step s at i, here)

  pub first_size : asked (sizes_from rules (count - i) bytes) ≡ asked (ask (limited z) Limits later)
  unfolding sizes_from
  first_size =
      ap (λ (n : ℕ). asked (sizes_from rules n bytes)) steps
      ∙ asked_ask (limited (rules.size_of bytes)) Limits _ later rest
      ∙ ap (λ (x : Item). asked (ask (limited x) Limits later)) (sym here)

  pub later_size : (y : Item) → asked (sizes_after rules y (count - i) bytes) ≡ asked (ask (limited z) Limits (ask (in_order rules y z) Order later))
  unfolding sizes_after
  later_size y =
      ap (λ (n : ℕ). asked (sizes_after rules y n bytes)) steps
      ∙ asked_ask (limited (rules.size_of bytes)) Limits _ _ (asked_ask (in_order rules y (rules.size_of bytes)) Order _ later rest)
      ∙ ap (λ (x : Item). asked (ask (limited x) Limits (ask (in_order rules y x) Order later))) (sym here)
