-- Two ordered lists are the same where each meets every item of the other.
-- The first items have the least p of all, so they meet each other and are equal; and no later item is met by the first, whose m is larger.
use mathlib.Core.Path.{◌≡◌, refl, ap, ap₂}
use mathlib.Core.List.Memᴰ
use mathlib.Core.List.{List, [], ◌∷◌, Memᴰ}
use mathlib.Core.Logic.{⊎_elim}
use Prim.Native.Nat.{ℕ, ◌≤◌, ◌<◌}
use native.Mathlib.Omega.{arith}
use Rattle.slicing.specs.Item.{Item, size}
use Rattle.slicing.specs.Good.{Ordered}
use Rattle.slicing.specs.Maxplus.{Meets}

-- What it says of the first item of an ordered list that the list meets an item a: its p is no larger, and where it is no smaller either the first item itself meets a.
first_met : (a b : Item) (k : List Item) → Ordered (b ∷ k) → Meets (b ∷ k) a.m a.p → (b.p ≤ a.p) × (a.p ≤ b.p → b.m ≤ a.m)
first_met a b k o f = ⊎_elim first later (Memᴰ.cases_cons f.item_in)
  where
    first : f.item ≡ b → (b.p ≤ a.p) × (a.p ≤ b.p → b.m ≤ a.m)
    first e =
        let em = ap (λ (z : Item). z.m) e in
        let ep = ap (λ (z : Item). z.p) e in
        omega arith

    later : Memᴰ f.item k → (b.p ≤ a.p) × (a.p ≤ b.p → b.m ≤ a.m)
    later i = let g = o.0 f.item i in omega arith

-- What is below the first item is met by the rest.
rest_met : (b : Item) (k : List Item) (m p : ℕ) → m < b.m → Meets (b ∷ k) m p → Meets k m p
rest_met b k m p h f = ⊎_elim first later (Memᴰ.cases_cons f.item_in)
  where
    first : f.item ≡ b → Meets k m p
    first e = let em = ap (λ (z : Item). z.m) e in absurd (omega arith)

    later : Memᴰ f.item k → Meets k m p
    later i = record { item = f.item; item_in = i; not_taller = f.not_taller; no_wider = f.no_wider }

pub unique : (a b : List Item) → Ordered a → Ordered b → ((z : Item) → Memᴰ z a → Meets b z.m z.p) → ((z : Item) → Memᴰ z b → Meets a z.m z.p) → a ≡ b
unique [] [] oa ob f g = refl
unique [] (b ∷ k) oa ob f g = absurd (Memᴰ.not-nil (g b (Memᴰ.head refl)).item_in)
unique (a ∷ l) [] oa ob f g = absurd (Memᴰ.not-nil (f a (Memᴰ.head refl)).item_in)
unique (a ∷ l) (b ∷ k) oa ob f g =
    let s = first_met a b k ob (f a (Memᴰ.head refl)) in
    let t = first_met b a l oa (g b (Memᴰ.head refl)) in
    let u = s.1 t.0 in
    let v = t.1 s.0 in
    let same_m : a.m ≡ b.m = omega arith in
    let same_p : a.p ≡ b.p = omega arith in
    ap₂ ◌∷◌ (ap₂ size same_m same_p)
    (unique l k oa.1 ob.1
    (λ z i. let h = oa.0 z i in rest_met b k z.m z.p (omega arith) (f z (Memᴰ.tail i)))
    (λ z i. let h = ob.0 z i in rest_met a l z.m z.p (omega arith) (g z (Memᴰ.tail i))))
