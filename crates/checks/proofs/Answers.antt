-- Laws of answers: a chain of questions is taken only where each is answered "yes", and is refused only by a check that it asks.
-- Both hold by cases on the first question.
use mathlib.Core.Path.{◌≡◌, refl, sym, ap, ◌∙◌}
use mathlib.Core.Bool.{Bool, true, false}
use Prim.Native.Nat.{ℕ, zero, suc, ◌≤◌}
use native.Mathlib.Omega.{arith}
use Rattle.checks.specs.Check.{number_of}
use Rattle.checks.specs.declared.Check.{Check}
use Rattle.checks.specs.declared.Check.TheVariants.{Length, Mark, Version, Entries, Present, Kind, SizeCount, Limits, Order, Gauges, Join, OnePart, AtEnd, LevelCount, LevelRange, Opening, Buffers, Output, Fits, LazyList, Place, Rib, Heights}
use Rattle.checks.specs.Answer.{Answer, refused, taken, ask, next, Asked, also, number, first_no}

-- No check has the number of a taken call.
pub number_positive : (c : Check) → 1 ≤ number_of c
number_positive Length = omega arith
number_positive Mark = omega arith
number_positive Version = omega arith
number_positive Entries = omega arith
number_positive Present = omega arith
number_positive Kind = omega arith
number_positive SizeCount = omega arith
number_positive Limits = omega arith
number_positive Order = omega arith
number_positive Gauges = omega arith
number_positive Join = omega arith
number_positive OnePart = omega arith
number_positive AtEnd = omega arith
number_positive LevelCount = omega arith
number_positive LevelRange = omega arith
number_positive Opening = omega arith
number_positive Buffers = omega arith
number_positive Output = omega arith
number_positive Fits = omega arith
number_positive LazyList = omega arith
number_positive Place = omega arith
number_positive Rib = omega arith
number_positive Heights = omega arith

module _ {A : Type 0} where
  pub not_both : (c : Check) (x : A) → ◌≡◌ {A = Answer A} (refused c) (taken x) → ⊥
  not_both c x e = let z : ◌≡◌ {A = ℕ} 0 1 = cc in omega arith

  pub same_taken : (x y : A) → ◌≡◌ {A = Answer A} (taken x) (taken y) → x ≡ y
  same_taken x y e = cc

  pub ask_taken : (b : Bool) (c : Check) (a : Answer A) (x : A) → ask b c a ≡ taken x → (b ≡ true) × (a ≡ taken x)
  ask_taken true c a x e = (refl, e)
  ask_taken false c a x e = absurd (not_both c x e)

  -- An answer with the number 0 is taken.
  pub number_taken : (a : Answer A) → number a ≡ 0 → (x : A) × (a ≡ taken x)
  number_taken (refused c) e = absurd (let h = number_positive c in omega arith)
  number_taken (taken x) e = (x, refl)

  -- An answer with another number is a refusal by the check of that number.
  pub number_refused : (a : Answer A) (n : ℕ) → n ≡ number a → (n ≡ 0 → ⊥) → (c : Check) × (a ≡ refused c) × (n ≡ number_of c)
  number_refused (refused c) n e h = (c, refl, e)
  number_refused (taken x) n e h = absurd (h e)

  -- The answer is no refusal but by a check of which P holds.
  abbrev pub RefusedBy : (Check → Type 0) → Answer A → Type 0
  RefusedBy P (refused c) = P c
  RefusedBy P (taken x) = Unit {0}

  pub refused_weaker : (P Q : Check → Type 0) → ((c : Check) → P c → Q c) → (a : Answer A) → RefusedBy P a → RefusedBy Q a
  refused_weaker P Q weaker (refused c) h = weaker c h
  refused_weaker P Q weaker (taken x) h = tt

  pub ask_refused : (P : Check → Type 0) (b : Bool) (c : Check) (a : Answer A) → P c → RefusedBy P a → RefusedBy P (ask b c a)
  ask_refused P true c a h k = k
  ask_refused P false c a h k = h

module _ {A B : Type 0} where
  pub next_taken : (a : Answer A) (f : A → Answer B) (y : B) → next a f ≡ taken y → (x : A) × (a ≡ taken x) × (f x ≡ taken y)
  next_taken (refused c) f y e = absurd (not_both c y e)
  next_taken (taken x) f y e = (x, refl, e)

  pub next_same : (a : Answer A) (f g : A → Answer B) → ((x : A) → f x ≡ g x) → next a f ≡ next a g
  next_same (refused c) f g h = refl
  next_same (taken x) f g h = h x

  pub next_next : {D : Type 0} (a : Answer A) (f : A → Answer B) (g : B → Answer D) → next (next a f) g ≡ next a (λ x. next (f x) g)
  next_next (refused c) f g = refl
  next_next (taken x) f g = refl

  pub next_refused : (P : Check → Type 0) (a : Answer A) (f : A → Answer B) → RefusedBy P a → ((x : A) → RefusedBy P (f x)) → RefusedBy P (next a f)
  next_refused P (refused c) f h k = h
  next_refused P (taken x) f h k = k x

-- A number that is not 0 is the first that is not.
pub first_wins : (n later : ℕ) → (n ≡ 0 → ⊥) → n ≡ first_no n later
first_wins zero later other = absurd (other refl)
first_wins (suc n) later other = refl

module _ {A : Type 0} where
  pub also_taken : (q : Asked) (a : Answer A) (x : A) → also q a ≡ taken x → (q ≡ taken tt) × (a ≡ taken x)
  also_taken (refused c) a x e = absurd (not_both c x e)
  also_taken (taken ok) a x e = (refl, e)

  pub also_refused : (P : Check → Type 0) (q : Asked) (a : Answer A) → RefusedBy P q → RefusedBy P a → RefusedBy P (also q a)
  also_refused P (refused c) a h k = h
  also_refused P (taken ok) a h k = k

  -- "First no wins": the number of two runs of questions is the first of theirs that is not 0.
  pub also_number : (q : Asked) (a : Answer A) → first_no (number q) (number a) ≡ number (also q a)
  also_number (refused c) a = sym (first_wins (number_of c) (number a) (λ e. let h = number_positive c in omega arith))
  also_number (taken ok) a = refl

  -- So numbers that were asked for one by one give that of the chain.
  pub also_both : (q : Asked) (a : Answer A) (n m r : ℕ) → n ≡ number q → m ≡ number a → r ≡ first_no n m → r ≡ number (also q a)
  also_both q a n m r asked later e =
      e ∙ ap (λ (k : ℕ). first_no k m) asked ∙ ap (first_no (number q)) later ∙ also_number q a
