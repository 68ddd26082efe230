-- The places of the items of a stretch, which go up, or down where the list is read turned: what `first`, `end`, `after` and `read` of a stretch leave.
-- Each answers by the same test whether the list is turned, so every law goes by the two answers of it.
use mathlib.Core.Path.{◌≡◌, refl, sym, ap, ◌∙◌}
use mathlib.Core.Bool.{Bool, true, false, cond, true≢false}
use mathlib.Core.List.{List}
use Prim.Native.Nat.{ℕ, ◌+◌, ◌*◌, ◌-◌, ◌/◌, ◌%◌, ◌≤◌, ◌<◌}
use native.Mathlib.Omega.{arith}
use lib.ListN.{get_or}
use Rattle.checks.proofs.Cases.{by_test}
use Rattle.packed.specs.inside.Joining.{AtItem}
use Rattle.packed.specs.declared.stretch.Stretch.{Stretch}
use Rattle.packed.proofs.Reading.{read_along, read_across}
use Rattle.packed.proofs.Merging.{Reads}

-- What is said of a test that fails says nothing of one that holds, and the other way round.
abbrev pub Either : Bool → ℕ → ℕ → ℕ → Type 0
Either t r x y = (t ≡ false → r ≡ x) × (t ≡ true → r ≡ y)

pub either_along : (t : Bool) (r x y : ℕ) → t ≡ false → r ≡ x → Either t r x y
either_along t r x y e f = (λ no. f, λ yes. absurd (true≢false (sym yes ∙ e)))

pub either_turned : (t : Bool) (r x y : ℕ) → t ≡ true → r ≡ y → Either t r x y
either_turned t r x y e f = (λ no. absurd (true≢false (sym e ∙ no)), λ yes. f)

pub at_along : (a : Stretch) (k place : ℕ) → a.across ≡ false → place ≡ a.from + k → AtItem a k place
at_along a k place e f = record { along = λ no. f; turned = λ yes. absurd (true≢false (sym yes ∙ e)) }

pub at_turned : (a : Stretch) (k place : ℕ) → a.across ≡ true → place + k + 1 ≡ a.from + a.count → AtItem a k place
at_turned a k place e f = record { along = λ no. absurd (true≢false (sym e ∙ no)); turned = λ yes. f }

-- What `read` answers, and a place that is n items after another.
abbrev pub ReadAt : List ℕ → ℕ → Bool → ℕ → Type 0
ReadAt z i t x = Either t x (get_or z i 0) (65_536 * (get_or z i 0 % 65_536) + get_or z i 0 / 65_536)

abbrev pub Moved : Bool → ℕ → ℕ → ℕ → Type 0
Moved t i n r = Either t r (i + n) (i - n)

pub not_moved : (t : Bool) (i : ℕ) → Moved t i 0 i
not_moved t i = (λ e. omega arith, λ e. omega arith)

-- The place after a place.
abbrev pub one_on : Bool → ℕ → ℕ
one_on t i = cond t (i - 1) (i + 1)

pub on_moved : (t : Bool) (i : ℕ) → Moved t i 1 (one_on t i)
on_moved true i = (λ e. absurd (true≢false e), λ e. refl)
on_moved false i = (λ e. refl, λ e. absurd (true≢false (sym e)))

-- A word that is kept is read as it was.
pub read_kept : (z s : List ℕ) (i : ℕ) (t : Bool) (x : ℕ) → get_or z i 0 ≡ get_or s i 0 → ReadAt z i t x → ReadAt s i t x
read_kept z s i t x kept read =
    (λ e. read.0 e ∙ kept, λ e. read.1 e ∙ ap (λ (n : ℕ). 65_536 * (n % 65_536) + n / 65_536) kept)

-- How many items are left from a place on.
abbrev pub left : Stretch → ℕ → ℕ
left a i = cond a.across (i + 1 - a.from) (a.from + a.count - i)

module _ (a : Stretch) (k i : ℕ) (h : AtItem a k i) where
  -- Only the end is the place of the item after the last.
  pub at_more : (end : ℕ) → AtItem a a.count end → (i ≡ end → ⊥) → k ≤ a.count → k < a.count
  at_more end g other few =
      by_test a.across (λ e. let p = h.turned e in let q = g.turned e in omega arith)
      (λ e. let p = h.along e in let q = g.along e in omega arith)

  pub at_out : (end : ℕ) → AtItem a a.count end → i ≡ end → a.count ≤ k
  at_out end g same =
      by_test a.across (λ e. let p = h.turned e in let q = g.turned e in omega arith)
      (λ e. let p = h.along e in let q = g.along e in omega arith)

  pub at_between : k < a.count → (a.from ≤ i) × (i < a.from + a.count)
  at_between more =
      by_test a.across (λ e. let p = h.turned e in omega arith)
      (λ e. let p = h.along e in omega arith)

  pub at_reads : (z : List ℕ) (x : ℕ) → k < a.count → ReadAt z i a.across x → Reads z a k x
  at_reads z x more read =
      by_test a.across
      (λ e.
      let p = h.turned e in
      let place : i ≡ a.from + (a.count - 1 - k) = omega arith in
      read_across z a.from a.count a.across k (get_or z i 0) x more e (ap (λ (n : ℕ). get_or z n 0) place) (read.1 e))
      (λ e. read_along z a.from a.count a.across k x more e (read.0 e ∙ ap (λ (n : ℕ). get_or z n 0) (h.along e)))

  pub at_moved : (n r : ℕ) → 1 ≤ a.from → k < a.count → n ≤ 1 → Moved a.across i n r → AtItem a (k + n) r
  at_moved n r first more few moved =
      record {
        along = λ e. let p = h.along e in let q = moved.0 e in omega arith;
        turned = λ e. let p = h.turned e in let q = moved.1 e in omega arith;
      }

  pub left_is : 1 ≤ a.from → k ≤ a.count → left a i ≡ a.count - k
  left_is first few =
      by_test a.across
      (λ e.
      let p = h.turned e in
      let rest : i + 1 - a.from ≡ a.count - k = omega arith in
      ap (λ (t : Bool). cond t (i + 1 - a.from) (a.from + a.count - i)) e ∙ rest)
      (λ e.
      let p = h.along e in
      let rest : a.from + a.count - i ≡ a.count - k = omega arith in
      ap (λ (t : Bool). cond t (i + 1 - a.from) (a.from + a.count - i)) e ∙ rest)
