-- Items by their places: the item at a place of a list is in it, and in an ordered list m falls from place to place and an item's index is its place.
-- Each goes down the list, since in an ordered list every item is set against all after it.
use mathlib.Core.Path.{◌≡◌, refl, ap}
use mathlib.Core.List.{List, [], ◌∷◌, Memᴰ}
use Prim.Native.Nat.{ℕ, zero, suc, ◌<◌}
use native.Mathlib.Omega.{arith}
use lib.ListN.{length, get_or}
use borrow.Author.Tests.{eq-eqb, ne_eqb}
use Rattle.slicing.specs.Item.{Item, size, height, width}
use Rattle.slicing.specs.Good.{Ordered}
use Rattle.slicing.specs.Useful.{index_of}

pub at_index : {A : Type 0} (s : List A) (i : ℕ) (d : A) → i < length s → Memᴰ (get_or s i d) s
at_index [] i d h = absurd (omega arith)
at_index (z ∷ s) zero d h = Memᴰ.head refl
at_index (z ∷ s) (suc i) d h = Memᴰ.tail (at_index s i d (omega arith))

pub falling : (l : List Item) → Ordered l → (i j : ℕ) → i < j → j < length l → (get_or l j (size 0 0)).m < (get_or l i (size 0 0)).m
falling [] o i j h k = absurd (omega arith)
falling (x ∷ l) o zero zero h k = absurd (omega arith)
falling (x ∷ l) o zero (suc j) h k = (o.0 (get_or l j (size 0 0)) (at_index l j (size 0 0) (omega arith))).0
falling (x ∷ l) o (suc i) zero h k = absurd (omega arith)
falling (x ∷ l) o (suc i) (suc j) h k = falling l o.1 i j (omega arith) (omega arith)

pub index_at : (l : List Item) → Ordered l → (i : ℕ) → i < length l → index_of (get_or l i (size 0 0)) l ≡ i
unfolding index_of
index_at [] o i h = absurd (omega arith)
index_at (x ∷ l) o zero h = simp (eq-eqb (height x) (height x) refl, eq-eqb (width x) (width x) refl)
index_at (x ∷ l) o (suc i) h =
    let z = get_or l i (size 0 0) in
    let after = o.0 z (at_index l i (size 0 0) (omega arith)) in
    simp (ne_eqb (height x) (height z) (λ e. absurd (omega arith))) (ap suc (index_at l o.1 i (omega arith)))
