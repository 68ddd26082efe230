-- Items of an ordered list by their places: the first item of at most some m is found by its place, and the last is at most some m where any is.
-- m falls from place to place.
use mathlib.Core.Path.{◌≡◌, ap}
use mathlib.Core.Bool.{Bool, true, false}
use mathlib.Core.List.{List, [], ◌∷◌}
use mathlib.Core.Logic.{⊎_elim}
use Prim.Native.Nat.{ℕ, zero, suc, ◌+◌, ◌-◌, ◌≤◌, ◌<◌}
use native.Mathlib.Nat.{eq-or-lt_of_le}
use native.Mathlib.Omega.{arith}
use lib.ListN.{length, get_or}
use borrow.Author.Tests.{le-leb, lt-leb}
use Rattle.slicing.specs.Item.{Item, size}
use Rattle.slicing.specs.Good.{Ordered}
use Rattle.slicing.specs.Useful.{index_of}
use Rattle.slicing.specs.Fit.{no_taller}
use Rattle.slicing.proofs.ByPlace.{falling}
use Rattle.slicing.proofs.Indexes.{index_found}
use Rattle.slicing.proofs.TurnLaws.{turn_ordered}
use Rattle.packed.specs.inside.Packed.{facing}
use Rattle.laying.specs.inside.Taking.{HasLow}

-- All before it are above the limit, and it is not.
pub first_low : (limit : ℕ) (l : List Item) (i : ℕ) → i < length l → (get_or l i (size 0 0)).m ≤ limit → ((j : ℕ) → j < i → limit < (get_or l j (size 0 0)).m) → no_taller limit l ≡ get_or l i (size 0 0)
unfolding no_taller
first_low limit [] i h low above = absurd (omega arith)
first_low limit (x ∷ l) zero h low above = simp (le-leb x.m limit low)
first_low limit (x ∷ l) (suc i) h low above =
    simp (lt-leb x.m limit (above 0 (omega arith))) (first_low limit l i (omega arith) low (λ j k. above (suc j) (omega arith)))

least_last : (l : List Item) → Ordered l → (i : ℕ) → i < length l → (get_or l (length l - 1) (size 0 0)).m ≤ (get_or l i (size 0 0)).m
least_last l o i h =
    let to_last : i ≤ length l - 1 = omega arith in
    ⊎_elim (λ same. let at = ap (λ (n : ℕ). (get_or l n (size 0 0)).m) same in omega arith)
    (λ before. let f = falling l o i (length l - 1) before (omega arith) in omega arith)
    (eq-or-lt_of_le to_last)

-- The last item is at most the limit where any is.
pub record LastLow (limit : ℕ) (l : List Item) : Type 0 where
  pub filled : 1 ≤ length l
  pub low : (get_or l (length l - 1) (size 0 0)).m ≤ limit

pub last_low : (limit : ℕ) (l : List Item) → Ordered l → HasLow limit l → LastLow limit l
last_low limit l o some =
    let found = index_found some.item l (size 0 0) some.item_in in
    let least = least_last l o (index_of some.item l) found.index in
    let same = ap (λ (z : Item). z.m) found.same in
    let low = some.item_low in
    record { filled = omega arith; low = omega arith }

-- Up to an item above the limit, all are above it.
pub above_to : (limit : ℕ) (l : List Item) → Ordered l → (i : ℕ) → i < length l → limit < (get_or l i (size 0 0)).m → (j : ℕ) → j < i + 1 → limit < (get_or l j (size 0 0)).m
above_to limit l o i h over j k =
    let to_there : j ≤ i = omega arith in
    ⊎_elim (λ same. let at = ap (λ (n : ℕ). (get_or l n (size 0 0)).m) same in omega arith)
    (λ before. let f = falling l o j i before h in omega arith)
    (eq-or-lt_of_le to_there)

pub facing_ordered : (across : Bool) (l : List Item) → Ordered l → Ordered (facing across l)
facing_ordered true l o = turn_ordered l o
facing_ordered false l o = o
