-- The sizes that a gauge's questions take: as many as its count says and within the limits; and, where check 9 is asked, strictly ordered.
-- Each size passed check 8 and, after the first, check 9 against the size before it, so its order against all earlier ones follows by steps.
use mathlib.Core.Path.{◌≡◌, refl, sym, ap, ◌∙◌}
use mathlib.Core.Bool.{Bool, true, cond, and-eq-true_iff}
use mathlib.Core.List.{List, [], ◌∷◌, Memᴰ}
use mathlib.Core.Logic.{⊎_elim}
use Prim.Native.Nat.{ℕ, zero, suc, ◌≤◌, ◌<◌}
use native.Mathlib.Omega.{arith}
use lib.ListN.{length, drop}
use lib.Dec.{ltb}
use borrow.Author.Tests.{ltb-true}
use Rattle.checks.specs.Answer.{taken}
use Rattle.checks.proofs.Answers.{same_taken, ask_taken, next_taken}
use Rattle.slicing.specs.Item.{Item, height, width}
use Rattle.slicing.specs.Good.{Limited, Ordered, GoodGauge}
use Rattle.sizes.specs.Rules.{Rules, asks_order}
use Rattle.sizes.specs.GaugeSizes.{within, limited, ordered, in_order, sizes_after, sizes_from}
use Rattle.sizes.proofs.SizeChecks.{within_true, within_of}

pub limited_true : (z : Item) → limited z ≡ true → Limited z
limited_true z e =
    let both = (and-eq-true_iff (within 1 1_000 (height z)) (within 1 1_000 (width z))).0 e in
    let h = within_true 1 1_000 (height z) both.0 in
    let w = within_true 1 1_000 (width z) both.1 in
    record { high = h.0; wide = w.0; low = h.1; narrow = w.1 }

pub limited_of : (z : Item) → Limited z → limited z ≡ true
limited_of z l =
    simp (within_of 1 1_000 (height z) l.high l.low, within_of 1 1_000 (width z) l.wide l.narrow)

-- z comes after y in a strictly ordered list.
pub record After (y z : Item) : Type 0 where
  pub lower : z.m < y.m
  pub wider : y.p < z.p

pub ordered_true : (y z : Item) → ordered y z ≡ true → After y z
ordered_true y z e =
    let both = (and-eq-true_iff (ltb (height z) (height y)) (ltb (width y) (width z))).0 e in
    record { lower = ltb-true (height z) (height y) both.0; wider = ltb-true (width y) (width z) both.1 }

limits_more : (x : Item) (zs : List Item) → Limited x → ((z : Item) → Memᴰ z zs → Limited z) → (z : Item) → Memᴰ z (x ∷ zs) → Limited z
limits_more x zs h k z i = ⊎_elim (λ (e : z ≡ x). rw e h) (λ (j : Memᴰ z zs). k z j) (mathlib.Core.List.Memᴰ.cases_cons i)

after_more : (y x : Item) (zs : List Item) → After y x → ((z : Item) → Memᴰ z zs → After x z) → (z : Item) → Memᴰ z (x ∷ zs) → After y z
after_more y x zs h k z i =
    ⊎_elim (λ (e : z ≡ x). rw e h)
    (λ (j : Memᴰ z zs). let n = k z j in record { lower = omega arith; wider = omega arith })
    (mathlib.Core.List.Memᴰ.cases_cons i)

ordered_more : (x : Item) (zs : List Item) → ((z : Item) → Memᴰ z zs → After x z) → Ordered zs → Ordered (x ∷ zs)
ordered_more x zs k o = (λ z i. ((k z i).lower, (k z i).wider), o)

-- What is known of the sizes after y.
record Rest (rules : Rules) (y : Item) (k : ℕ) (zs : List Item) : Type 0 where
  count : length zs ≡ k
  limits : (z : Item) → Memᴰ z zs → Limited z
  after : asks_order rules ≡ true → (z : Item) → Memᴰ z zs → After y z
  order : asks_order rules ≡ true → Ordered zs

rest_none : (rules : Rules) (y : Item) → Rest rules y zero []
rest_none rules y =
    record {
      count = refl;
      limits = λ z i. absurd (mathlib.Core.List.Memᴰ.not-nil i);
      after = λ asked z i. absurd (mathlib.Core.List.Memᴰ.not-nil i);
      order = λ asked. tt;
    }

rest_more : (rules : Rules) (y x : Item) (k : ℕ) (zs : List Item) → Limited x → (asks_order rules ≡ true → After y x) → Rest rules x k zs → Rest rules y (suc k) (x ∷ zs)
rest_more rules y x k zs l a r =
    record {
      count = ap suc r.count;
      limits = limits_more x zs l r.limits;
      after = λ asked. after_more y x zs (a asked) (r.after asked);
      order = λ asked. ordered_more x zs (r.after asked) (r.order asked);
    }

asked_true : (rules : Rules) (y z : Item) → in_order rules y z ≡ true → asks_order rules ≡ true → After y z
asked_true rules y z e asked =
    ordered_true y z (ap (λ (b : Bool). cond b (ordered y z) true) (sym asked) ∙ e)

after_taken : (rules : Rules) (y : Item) (k : ℕ) (bytes : List ℕ) (zs : List Item) → sizes_after rules y k bytes ≡ taken zs → Rest rules y k zs
unfolding sizes_after
after_taken rules y zero bytes zs e = rw (← same_taken [] zs e) (rest_none rules y)
after_taken rules y (suc k) bytes zs e =
    let limits = ask_taken (limited (rules.size_of bytes)) _ _ zs e in
    let order = ask_taken (in_order rules y (rules.size_of bytes)) _ _ zs limits.1 in
    let more = next_taken (sizes_after rules (rules.size_of bytes) k (drop rules.step bytes)) (λ xs. taken (rules.size_of bytes ∷ xs)) zs order.1 in
    rw (← same_taken (rules.size_of bytes ∷ more.0) zs more.2)
    (rest_more rules y (rules.size_of bytes) k more.0 (limited_true (rules.size_of bytes) limits.0)
    (asked_true rules y (rules.size_of bytes) order.0) (after_taken rules (rules.size_of bytes) k (drop rules.step bytes) more.0 more.1))

-- A gauge that is taken is good, has as many sizes as its count says, and has them in order where that is asked.
pub record TakenSizes (rules : Rules) (count : ℕ) (zs : List Item) : Type 0 where
  pub good : GoodGauge zs
  pub as_many : length zs ≡ count
  pub order : asks_order rules ≡ true → Ordered zs

taken_more : (rules : Rules) (x : Item) (k : ℕ) (zs : List Item) → suc k ≤ 8 → Limited x → Rest rules x k zs → TakenSizes rules (suc k) (x ∷ zs)
taken_more rules x k zs few l r =
    record {
      good = record { some = omega arith; few = (let n = r.count in omega arith); limited = limits_more x zs l r.limits };
      as_many = ap suc r.count;
      order = λ asked. ordered_more x zs (r.after asked) (r.order asked);
    }

pub sizes_taken : (rules : Rules) (count : ℕ) (bytes : List ℕ) (zs : List Item) → 1 ≤ count → count ≤ 8 → sizes_from rules count bytes ≡ taken zs → TakenSizes rules count zs
unfolding sizes_from
sizes_taken rules zero bytes zs some few e = absurd (omega arith)
sizes_taken rules (suc k) bytes zs some few e =
    let limits = ask_taken (limited (rules.size_of bytes)) _ _ zs e in
    let more = next_taken (sizes_after rules (rules.size_of bytes) k (drop rules.step bytes)) (λ xs. taken (rules.size_of bytes ∷ xs)) zs limits.1 in
    let rest = after_taken rules (rules.size_of bytes) k (drop rules.step bytes) more.0 more.1 in
    rw (← same_taken (rules.size_of bytes ∷ more.0) zs more.2)
    (taken_more rules (rules.size_of bytes) k more.0 few (limited_true (rules.size_of bytes) limits.0) rest)
