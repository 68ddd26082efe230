-- Turning a list swaps its items, keeps their number and the order, and turning again gives the list back.
-- Each goes down the list: an item more at the front is its swap more at the end of what is turned.
use mathlib.Core.Path.{◌≡◌, refl, ap, ◌∙◌}
use mathlib.Core.List.Memᴰ
use mathlib.Core.List.{List, [], ◌∷◌, ◌++◌, map, reverse-cons, Memᴰ}
use mathlib.Core.Logic.{⊎_elim}
use Prim.Native.Nat.{◌<◌}
use lib.ListN.{length, length-reverse, length-map}
use Rattle.slicing.specs.Item.{Item}
use Rattle.slicing.specs.Good.{Ordered}
use Rattle.slicing.specs.Merge.{swap, turn}

pub turn_cons : (x : Item) (l : List Item) → turn (x ∷ l) ≡ turn l ++ (swap x ∷ [])
unfolding turn
turn_cons x l = reverse-cons (swap x) (map swap l)

pub turn_in : (z : Item) (l : List Item) → Memᴰ z l → Memᴰ (swap z) (turn l)
turn_in z [] h = absurd (Memᴰ.not-nil h)
turn_in z (x ∷ l) h =
    rw turn_cons
    (⊎_elim (λ (e : z ≡ x). Memᴰ.append_right (turn l) (Memᴰ.head (ap swap e)))
    (λ (i : Memᴰ z l). Memᴰ.append_left (swap x ∷ []) (turn_in z l i)) (Memᴰ.cases_cons h))

pub turn_out : (z : Item) (l : List Item) → Memᴰ z (turn l) → Memᴰ (swap z) l
unfolding turn
turn_out z [] h = absurd (Memᴰ.not-nil h)
turn_out z (x ∷ l) h =
    ⊎_elim (λ (i : Memᴰ z (turn l)). Memᴰ.tail (turn_out z l i))
    (λ (i : Memᴰ z (swap x ∷ [])). Memᴰ.head (ap swap (Memᴰ.eq_of_singleton i)))
    (Memᴰ.append_cases (turn l) (rw turn_cons at h))

-- An ordered list stays so with one more item at its end, of smaller m and larger p than all of it.
ordered_end : (l : List Item) (y : Item) → Ordered l → ((z : Item) → Memᴰ z l → (y.m < z.m) × (z.p < y.p)) → Ordered (l ++ (y ∷ []))
ordered_end [] y o h = (λ z i. absurd (Memᴰ.not-nil i), tt)
ordered_end (x ∷ l) y o h = (after, ordered_end l y o.1 (λ z i. h z (Memᴰ.tail i)))
  where
    after : (z : Item) → Memᴰ z (l ++ (y ∷ [])) → (z.m < x.m) × (x.p < z.p)
    after z i =
        ⊎_elim (λ (j : Memᴰ z l). o.0 z j)
        (λ (j : Memᴰ z (y ∷ [])). rw (Memᴰ.eq_of_singleton j) (h x (Memᴰ.head refl)))
        (Memᴰ.append_cases l i)

pub turn_ordered : (l : List Item) → Ordered l → Ordered (turn l)
unfolding turn
turn_ordered [] h = tt
turn_ordered (x ∷ l) h =
    rw turn_cons
    (ordered_end (turn l) (swap x) (turn_ordered l h.1)
    (λ z i. let f = h.0 (swap z) (turn_out z l i) in (f.1, f.0)))

pub turn_length : (l : List Item) → length (turn l) ≡ length l
unfolding turn
turn_length l = length-reverse (map swap l) ∙ length-map l swap

turn_end : (l : List Item) (y : Item) → turn (l ++ (y ∷ [])) ≡ swap y ∷ turn l
unfolding turn
turn_end [] y = refl
turn_end (x ∷ l) y = rw (turn_cons x (l ++ (y ∷ [])), turn_end l y, turn_cons x l)

pub turn_turn : (l : List Item) → turn (turn l) ≡ l
unfolding turn
turn_turn [] = refl
turn_turn (x ∷ l) = rw (turn_cons x l, turn_end (turn l) (swap x), turn_turn l)
