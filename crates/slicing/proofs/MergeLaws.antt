-- The merge of two ordered lists is a maxplus merge of them, as source document 004 asks in Problem 1, and it is shorter than the two together.
-- Each step takes the first item of larger m: with the other list's first item it makes the best pair that it is in, so it may go.
use mathlib.Core.Path.{◌≡◌, refl, ap}
use mathlib.Core.Bool.{Bool, true, false}
use mathlib.Core.List.Memᴰ
use mathlib.Core.List.{List, [], ◌∷◌, Memᴰ}
use mathlib.Core.Logic.{⊎_elim}
use Prim.Native.Nat.{ℕ, ◌+◌, ◌-◌, ◌≤◌, ◌<◌, max}
use native.Mathlib.Omega.{arith}
use lib.ListN.{length}
use lib.Dec.{ltb, eqb}
use borrow.Author.Tests.{ltb-true, ltb-false, eqb-true, eqb-false}
use Rattle.slicing.specs.Item.{Item}
use Rattle.slicing.specs.Good.{Ordered}
use Rattle.slicing.specs.Merge.{merge, sum}
use Rattle.slicing.specs.Maxplus.{FromPair, Meets, Maxplus}

-- The merge as a relation of its two lists and its result: one rule for each of its clauses.
data Merged (gap : ℕ) : List Item → List Item → List Item → Type 0 where
  no_older : {b : List Item} → Merged gap [] b []
  no_newer : {a : List Item} → Merged gap a [] []
  older : {a b : Item} {l k c : List Item} → b.m < a.m → Merged gap l (b ∷ k) c → Merged gap (a ∷ l) (b ∷ k) (sum gap a.m a b ∷ c)
  both : {a b : Item} {l k c : List Item} → a.m ≡ b.m → Merged gap l k c → Merged gap (a ∷ l) (b ∷ k) (sum gap a.m a b ∷ c)
  newer : {a b : Item} {l k c : List Item} → a.m < b.m → Merged gap (a ∷ l) k c → Merged gap (a ∷ l) (b ∷ k) (sum gap b.m a b ∷ c)

merged : (gap : ℕ) (a b : List Item) → Merged gap a b (merge gap a b)
unfolding merge
merged gap [] b = no_older
merged gap (a ∷ l) [] = no_newer
merged gap (a ∷ l) (b ∷ k) =
    step (ltb b.m a.m) (eqb a.m b.m) refl refl (merged gap l (b ∷ k)) (merged gap l k) (merged gap (a ∷ l) k)
  where
    step : (s t : Bool) → ltb b.m a.m ≡ s → eqb a.m b.m ≡ t
        → Merged gap l (b ∷ k) (merge gap l (b ∷ k)) → Merged gap l k (merge gap l k) → Merged gap (a ∷ l) k (merge gap (a ∷ l) k)
        → Merged gap (a ∷ l) (b ∷ k) (elim s [
          | true ↦ sum gap a.m a b ∷ merge gap l (b ∷ k)
          | false ↦ elim t [
            | true ↦ sum gap a.m a b ∷ merge gap l k
            | false ↦ sum gap b.m a b ∷ merge gap (a ∷ l) k
          ]
        ])
    step true t e f o m n = older (ltb-true b.m a.m e) o
    step false true e f o m n = both (eqb-true a.m b.m f) m
    step false false e f o m n =
        let le = ltb-false b.m a.m e in
        let ne = eqb-false a.m b.m f in
        let lt : a.m < b.m = omega arith in
        newer lt n

-- What is from a pair of two lists is from a pair of them where either has one more.
older_more : {gap : ℕ} {x : Item} {a b : List Item} {z : Item} → FromPair gap a b z → FromPair gap (x ∷ a) b z
older_more f =
    record {
      first = f.first;
      first_in = Memᴰ.tail f.first_in;
      second = f.second;
      second_in = f.second_in;
      m_is = f.m_is;
      p_is = f.p_is;
    }

newer_more : {gap : ℕ} {x : Item} {a b : List Item} {z : Item} → FromPair gap a b z → FromPair gap a (x ∷ b) z
newer_more f =
    record {
      first = f.first;
      first_in = f.first_in;
      second = f.second;
      second_in = Memᴰ.tail f.second_in;
      m_is = f.m_is;
      p_is = f.p_is;
    }

-- The two first items, with the larger m.
firsts : (gap m : ℕ) (a b z : Item) (l k : List Item) → m ≡ max a.m b.m → z ≡ sum gap m a b → FromPair gap (a ∷ l) (b ∷ k) z
firsts gap m a b z l k h e =
    let em = ap (λ (i : Item). i.m) e in
    let ep = ap (λ (i : Item). i.p) e in
    record {
      first = a;
      first_in = Memᴰ.head refl;
      second = b;
      second_in = Memᴰ.head refl;
      m_is = omega arith;
      p_is = omega arith;
    }

from_pair : {gap : ℕ} {a b c : List Item} → Merged gap a b c → (z : Item) → Memᴰ z c → FromPair gap a b z
from_pair no_older z i = absurd (Memᴰ.not-nil i)
from_pair no_newer z i = absurd (Memᴰ.not-nil i)
from_pair {gap} (older {a} {b} {l} {k} {c} h r) z i =
    ⊎_elim (λ (e : z ≡ sum gap a.m a b). firsts gap a.m a b z l k (omega arith) e)
    (λ (j : Memᴰ z c). older_more (from_pair r z j)) (Memᴰ.cases_cons i)
from_pair {gap} (both {a} {b} {l} {k} {c} h r) z i =
    ⊎_elim (λ (e : z ≡ sum gap a.m a b). firsts gap a.m a b z l k (omega arith) e)
    (λ (j : Memᴰ z c). older_more (newer_more (from_pair r z j))) (Memᴰ.cases_cons i)
from_pair {gap} (newer {a} {b} {l} {k} {c} h r) z i =
    ⊎_elim (λ (e : z ≡ sum gap b.m a b). firsts gap b.m a b z l k (omega arith) e)
    (λ (j : Memᴰ z c). newer_more (from_pair r z j)) (Memᴰ.cases_cons i)

-- No item of an ordered list has a larger m, or a smaller p, than the first.
record Within (a z : Item) : Type 0 where
  low : z.m ≤ a.m
  wide : a.p ≤ z.p

first_best : (a z : Item) (l : List Item) → Ordered (a ∷ l) → Memᴰ z (a ∷ l) → Within a z
first_best a z l o i = ⊎_elim same later (Memᴰ.cases_cons i)
  where
    same : z ≡ a → Within a z
    same e =
        let em = ap (λ (y : Item). y.m) e in
        let ep = ap (λ (y : Item). y.p) e in
        record { low = omega arith; wide = omega arith }

    later : Memᴰ z l → Within a z
    later j = let f = o.0 z j in record { low = omega arith; wide = omega arith }

merged_ordered : {gap : ℕ} {a b c : List Item} → Merged gap a b c → Ordered a → Ordered b → Ordered c
merged_ordered no_older oa ob = tt
merged_ordered no_newer oa ob = tt
merged_ordered (older {a} {b} {l} {k} {c} h r) oa ob = (
  λ z i.
      let f = from_pair r z i in
      let x = oa.0 f.first f.first_in in
      let y = first_best b f.second k ob f.second_in in
      omega arith,
  merged_ordered r oa.1 ob,
)
merged_ordered (both {a} {b} {l} {k} {c} h r) oa ob = (
  λ z i.
      let f = from_pair r z i in
      let x = oa.0 f.first f.first_in in
      let y = ob.0 f.second f.second_in in
      omega arith,
  merged_ordered r oa.1 ob.1,
)
merged_ordered (newer {a} {b} {l} {k} {c} h r) oa ob = (
  λ z i.
      let f = from_pair r z i in
      let x = first_best a f.first l oa f.first_in in
      let y = ob.0 f.second f.second_in in
      omega arith,
  merged_ordered r oa ob.1,
)

-- The first item meets, or the rest does.
meets_first : (z : Item) (c : List Item) (m p : ℕ) → z.m ≤ m → z.p ≤ p → Meets (z ∷ c) m p
meets_first z c m p h k = record { item = z; item_in = Memᴰ.head refl; not_taller = h; no_wider = k }

meets_rest : (z : Item) (c : List Item) (m p : ℕ) → Meets c m p → Meets (z ∷ c) m p
meets_rest z c m p h =
    record { item = h.item; item_in = Memᴰ.tail h.item_in; not_taller = h.not_taller; no_wider = h.no_wider }

-- Each pair is met. A pair with the item that goes is met by what it makes with the other list's first item, which has no larger p; and the other pairs are met later.
pairs_met : {gap : ℕ} {a b c : List Item} → Merged gap a b c → Ordered a → Ordered b
    → (x y : Item) → Memᴰ x a → Memᴰ y b → Meets c (max x.m y.m) (x.p + gap + y.p)
pairs_met no_older oa ob x y i j = absurd (Memᴰ.not-nil i)
pairs_met no_newer oa ob x y i j = absurd (Memᴰ.not-nil j)
pairs_met {gap} (older {a} {b} {l} {k} {c} h r) oa ob x y i j =
    let w = first_best b y k ob j in
    ⊎_elim (λ (e : x ≡ a). rw e (meets_first _ c _ _ (omega arith) (omega arith)))
    (λ (n : Memᴰ x l). meets_rest _ c _ _ (pairs_met r oa.1 ob x y n j)) (Memᴰ.cases_cons i)
pairs_met {gap} (both {a} {b} {l} {k} {c} h r) oa ob x y i j =
    let v = first_best a x l oa i in
    let w = first_best b y k ob j in
    ⊎_elim (λ (e : x ≡ a). rw e (meets_first _ c _ _ (omega arith) (omega arith)))
    (λ (n : Memᴰ x l).
    ⊎_elim (λ (f : y ≡ b). rw f (meets_first _ c _ _ (omega arith) (omega arith)))
    (λ (o : Memᴰ y k). meets_rest _ c _ _ (pairs_met r oa.1 ob.1 x y n o)) (Memᴰ.cases_cons j))
    (Memᴰ.cases_cons i)
pairs_met {gap} (newer {a} {b} {l} {k} {c} h r) oa ob x y i j =
    let v = first_best a x l oa i in
    ⊎_elim (λ (e : y ≡ b). rw e (meets_first _ c _ _ (omega arith) (omega arith)))
    (λ (n : Memᴰ y k). meets_rest _ c _ _ (pairs_met r oa ob.1 x y i n)) (Memᴰ.cases_cons j)

-- 004's Problem 1 for one merge, both halves, and its order.
pub maxplus : (gap : ℕ) (a b : List Item) → Ordered a → Ordered b → Maxplus gap a b (merge gap a b)
maxplus gap a b h k =
    record {
      order = merged_ordered (merged gap a b) h k;
      from = from_pair (merged gap a b);
      met = pairs_met (merged gap a b) h k;
    }

merged_filled : {gap : ℕ} {a b c : List Item} → Merged gap a b c → 1 ≤ length a → 1 ≤ length b → 1 ≤ length c
merged_filled no_older h k = h
merged_filled no_newer h k = k
merged_filled (older e r) h k = omega arith
merged_filled (both e r) h k = omega arith
merged_filled (newer e r) h k = omega arith

pub merge_filled : (gap : ℕ) (a b : List Item) → 1 ≤ length a → 1 ≤ length b → 1 ≤ length (merge gap a b)
merge_filled gap a b h k = merged_filled (merged gap a b) h k

merged_short : {gap : ℕ} {a b c : List Item} → Merged gap a b c → length c ≤ length a + length b - 1
merged_short no_older = omega arith
merged_short no_newer = omega arith
merged_short (older e r) = omega (arith, merged_short r)
merged_short (both e r) = omega (arith, merged_short r)
merged_short (newer e r) = omega (arith, merged_short r)

pub merge_short : (gap : ℕ) (a b : List Item) → 1 ≤ length a → 1 ≤ length b → length (merge gap a b) + 1 ≤ length a + length b
merge_short gap a b h k = omega (arith, merged_short (merged gap a b))
