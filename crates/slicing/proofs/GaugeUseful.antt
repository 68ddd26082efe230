-- Paper 1: the list of a gauge is ordered, from its printed sizes, meets each of them, is not empty and no longer than they are, and no other list does this. Sizes that stand in order are their own list.
-- The useful sizes are neither inferior nor equal to one another, so that the order of height is strict both ways; and ordered lists that meet each other's items are the same.
use mathlib.Core.Path.{◌≡◌, refl, sym}
use mathlib.Core.List.Memᴰ
use mathlib.Core.List.{List, [], ◌∷◌, Memᴰ}
use Prim.Native.Nat.{ℕ, ◌≤◌, ◌<◌}
use native.Mathlib.Omega.{arith}
use lib.ListN.{length}
use Rattle.slicing.specs.Item.{Item}
use Rattle.slicing.specs.Good.{Ordered}
use Rattle.slicing.specs.Maxplus.{Meets}
use Rattle.slicing.specs.Useful.{useful, gauge_shapes}
use Rattle.slicing.specs.UsefulMeans.{UsefulSizes, GaugeMeans}
use Rattle.slicing.proofs.Unique.{unique}
use Rattle.slicing.proofs.UsefulLaws.{Distinct, Useful, useful_out, useful_distinct, useful_short, useful_met}
use Rattle.slicing.proofs.HeightOrder.{Apart, AllApart, height_out, height_met, height_long, height_ordered}

-- Of two useful sizes that are not the same, the lower is the wider.
strictly : (s : List Item) (y z : Item) → Useful s y → Useful s z → (y ≡ z → ⊥) → y.m ≤ z.m → (y.m < z.m) × (z.p < y.p)
strictly s y z u v other low =
    let wide : y.p ≤ z.p → ⊥ = λ h. other (v.none_better y u.printed low h) in
    let lower : z.m ≤ y.m → ⊥ = λ h. other (sym (u.none_better z v.printed h (omega arith))) in
    (omega arith, omega arith)

apart : (s : List Item) (y z : Item) → Useful s y → Useful s z → (y ≡ z → ⊥) → Apart y z
apart s y z u v other =
    record { lower = strictly s y z u v other; higher = strictly s z y v u (λ e. other (sym e)) }

all_apart : (s l : List Item) → ((z : Item) → Memᴰ z l → Useful s z) → Distinct l → AllApart l
all_apart s [] u d = tt
all_apart s (y ∷ l) u d =
    (λ z i. apart s y z (u y (Memᴰ.head refl)) (u z (Memᴰ.tail i)) (d.0 z i), all_apart s l (λ z i. u z (Memᴰ.tail i)) d.1)

gauge_ordered : (s : List Item) → Ordered (gauge_shapes s)
unfolding gauge_shapes
gauge_ordered s = height_ordered (useful s) (all_apart s (useful s) (useful_out s) (useful_distinct s))

gauge_sizes : (s : List Item) → UsefulSizes s (gauge_shapes s)
unfolding gauge_shapes
gauge_sizes s =
    record {
      from_size = λ z i. (useful_out s z (height_out z (useful s) i)).printed;
      size_met = λ z i. height_met (useful s) z.m z.p (useful_met s z i);
      order = gauge_ordered s;
    }

met_filled : (l : List Item) (m p : ℕ) → Meets l m p → 1 ≤ length l
met_filled [] m p met = absurd (Memᴰ.not-nil met.item_in)
met_filled (x ∷ l) m p met = omega arith

gauge_filled : (s : List Item) → 1 ≤ length s → 1 ≤ length (gauge_shapes s)
gauge_filled [] h = absurd (omega arith)
gauge_filled (z ∷ s) h = met_filled (gauge_shapes (z ∷ s)) _ _ ((gauge_sizes (z ∷ s)).size_met z (Memᴰ.head refl))

gauge_short : (s : List Item) → length (gauge_shapes s) ≤ length s
unfolding gauge_shapes
gauge_short s = omega (arith, height_long (useful s), useful_short s)

-- An item of one such list is a printed size, which the other meets.
useful_only : (s a b : List Item) → UsefulSizes s a → UsefulSizes s b → a ≡ b
useful_only s a b x y =
    unique a b x.order y.order (λ z i. y.size_met z (x.from_size z i)) (λ z i. x.size_met z (y.from_size z i))

pub gauge_useful : (s : List Item) → GaugeMeans s (gauge_shapes s)
gauge_useful s =
    record {
      sizes = gauge_sizes s;
      filled = gauge_filled s;
      short = gauge_short s;
      only = λ k h. useful_only s k (gauge_shapes s) h (gauge_sizes s);
    }

-- Sizes that stand in order are their own list, as in version 1.
pub ordered_same : (s : List Item) → Ordered s → gauge_shapes s ≡ s
ordered_same s o =
    sym ((gauge_useful s).only s (record {
      from_size = λ z i. i;
      size_met = λ z i. record { item = z; item_in = i; not_taller = omega arith; no_wider = omega arith };
      order = o;
    }))
