-- The index of a printed size is the lowest place at which the size stands.
-- It is found going down the sizes, past those that are not equal.
use mathlib.Core.Path.{◌≡◌, refl, sym, ap, ◌∙◌}
use mathlib.Core.Bool.{Bool, true, false, cond}
use mathlib.Core.List.Memᴰ
use mathlib.Core.List.{List, [], ◌∷◌, Memᴰ}
use mathlib.Core.Logic.{◌⊎◌, inl, inr}
use Prim.Native.Nat.{ℕ, zero, suc, ◌<◌}
use native.Mathlib.Omega.{arith}
use lib.ListN.{length, get_or}
use Rattle.slicing.specs.Item.{Item}
use Rattle.slicing.specs.Useful.{equal, index_of}
use Rattle.slicing.proofs.UsefulLaws.{equal_true, equal_same, equal_false}

-- The index finds the size in the list.
pub record Found (z : Item) (s : List Item) (d : Item) (i : ℕ) : Type 0 where
  pub index : i < length s
  pub same : get_or s i d ≡ z

found_step : (z y : Item) (s : List Item) (d : Item) (i : ℕ) → (Memᴰ z s → Found z s d i) → (z ≡ y) ⊎ Memᴰ z s → (b : Bool) → equal y z ≡ b → Found z (y ∷ s) d (cond b 0 (suc i))
found_step z y s d i next m true e = record { index = omega arith; same = equal_true y z e }
found_step z y s d i next (inl same) false e = absurd (equal_false y z e (sym same))
found_step z y s d i next (inr m) false e = let r = next m in record { index = omega arith; same = r.same }

pub index_found : (z : Item) (s : List Item) (d : Item) → Memᴰ z s → Found z s d (index_of z s)
unfolding index_of
index_found z [] d m = absurd (Memᴰ.not-nil m)
index_found z (y ∷ s) d m =
    found_step z y s d (index_of z s) (λ n. index_found z s d n) (Memᴰ.cases_cons m) (equal y z) refl

-- No equal size stands before it.
pub index_lowest : (z : Item) (s : List Item) (d : Item) (i : ℕ) → i < index_of z s → get_or s i d ≡ z → ⊥
unfolding index_of
index_lowest z [] d i h = absurd (omega arith)
index_lowest z (y ∷ s) d zero h = first (equal y z) refl h
  where
    first : (b : Bool) → equal y z ≡ b → 0 < cond b 0 (suc (index_of z s)) → y ≡ z → ⊥
    first true e h = absurd (omega arith)
    first false e h = equal_false y z e
index_lowest z (y ∷ s) d (suc i) h = later (equal y z) h (index_lowest z s d i)
  where
    later : (b : Bool) → suc i < cond b 0 (suc (index_of z s)) → (i < index_of z s → get_or s i d ≡ z → ⊥) → get_or s i d ≡ z → ⊥
    later true h next = absurd (omega arith)
    later false h next = next (omega arith)

-- The first size has index 0, and a size that is not equal adds 1.
pub index_first : (z : Item) (s : List Item) → index_of z (z ∷ s) ≡ 0
unfolding index_of
index_first z s = ap (λ (b : Bool). cond b 0 (suc (index_of z s))) (equal_same z z refl)

pub index_past : (z y : Item) (s : List Item) → (y ≡ z → ⊥) → index_of z (y ∷ s) ≡ suc (index_of z s)
unfolding index_of
index_past z y s other = step (equal y z) refl
  where
    step : (b : Bool) → equal y z ≡ b → cond b 0 (suc (index_of z s)) ≡ suc (index_of z s)
    step true e = absurd (other (equal_true y z e))
    step false e = refl

-- Only the index has the size and no equal one before it.
pub index_only : (z : Item) (s : List Item) (d : Item) (i : ℕ) → i < length s → get_or s i d ≡ z → ((j : ℕ) → j < i → get_or s j d ≡ z → ⊥) → index_of z s ≡ i
index_only z [] d i h same before = absurd (omega arith)
index_only z (y ∷ s) d zero h same before = ap (λ (x : Item). index_of z (x ∷ s)) same ∙ index_first z s
index_only z (y ∷ s) d (suc i) h same before =
    index_past z y s (before 0 (omega arith)) ∙ ap suc (index_only z s d i (omega arith) same (λ j k. before (suc j) (omega arith)))
