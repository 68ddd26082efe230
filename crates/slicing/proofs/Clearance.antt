-- Of any two gauges of a legal layout the first, in file order, ends the gap or more before the other starts, across or upward, so no two overlap.
-- What parts two gauges is the strip of the join where their parts meet, and the first part's gauges come first in the file.
use mathlib.Core.Path.{◌≡◌, refl}
use mathlib.Core.List.Memᴰ
use mathlib.Core.List.{List, [], ◌∷◌, ◌++◌, Memᴰ}
use mathlib.Core.Logic.{inl, inr, ⊎_elim}
use Prim.Native.Nat.{ℕ, zero, suc, ◌<◌}
use native.Mathlib.Omega.{arith}
use lib.ListN.{length, length-append, get_or}
use Rattle.slicing.specs.Tree.{Tree, gauge, beside, stacked, gauge_count}
use Rattle.slicing.specs.Layout.{Layout, Legal}
use Rattle.slicing.specs.Strips.{Rectangle, rectangles, Strips, Clear, AllClear, gauge_in, Covers}
use Rattle.slicing.proofs.Counts.{gauges_joined}
use Rattle.slicing.proofs.ByPlace.{at_index}
use Rattle.slicing.proofs.StripLaws.{legal_strips}

-- Two lists one after the other, each clear in itself and the first clear of the second.
clear_joined : (gap : ℕ) (k m : List Rectangle) → AllClear gap k → AllClear gap m → ((x y : Rectangle) → Memᴰ x k → Memᴰ y m → Clear gap x y) → AllClear gap (k ++ m)
clear_joined gap [] m first second h = second
clear_joined gap (x ∷ k) m first second h = (
  λ y i. ⊎_elim (λ (j : Memᴰ y k). first.0 y j) (λ (j : Memᴰ y m). h x y (Memᴰ.head refl) j) (Memᴰ.append_cases k i),
  clear_joined gap k m first.1 second (λ z y i j. h z y (Memᴰ.tail i) j),
)

strips_clear : (gap : ℕ) (t : Tree) (l : Layout t) → Strips gap t l → AllClear gap (rectangles t l)
strips_clear gap (gauge s) l strips = (λ y i. absurd (Memᴰ.not-nil i), tt)
strips_clear gap (beside a b) l strips =
    let strip = strips.2 in
    clear_joined gap (rectangles a l.0) (rectangles b l.1) (strips_clear gap a l.0 strips.0) (strips_clear gap b l.1 strips.1)
    (λ x y i j. let ends = strip.before x i in let starts = strip.after y j in inl (omega arith))
strips_clear gap (stacked a b) l strips =
    let strip = strips.2 in
    clear_joined gap (rectangles a l.0) (rectangles b l.1) (strips_clear gap a l.0 strips.0) (strips_clear gap b l.1 strips.1)
    (λ x y i j. let ends = strip.before x i in let starts = strip.after y j in inr (omega arith))

-- Of any two gauges of a legal layout the first ends the gap or more before the other starts.
pub gauges_clear : (gap : ℕ) (t : Tree) (l : Layout t) → Legal gap t l → AllClear gap (rectangles t l)
gauges_clear gap t l legal = strips_clear gap t l (legal_strips gap t l legal)

rectangles_length : (t : Tree) (l : Layout t) → length (rectangles t l) ≡ gauge_count t
rectangles_length (gauge s) l = refl
rectangles_length (beside a b) l =
    omega (arith, length-append (rectangles a l.0) (rectangles b l.1), rectangles_length a l.0, rectangles_length b l.1, gauges_joined a b)
rectangles_length (stacked a b) l =
    omega (arith, length-append (rectangles a l.0) (rectangles b l.1), rectangles_length a l.0, rectangles_length b l.1, gauges_joined a b)

clear_at : (gap : ℕ) (k : List Rectangle) (d : Rectangle) (i j : ℕ) → AllClear gap k → i < j → j < length k → Clear gap (get_or k i d) (get_or k j d)
clear_at gap [] d i j h less few = absurd (omega arith)
clear_at gap (x ∷ k) d i zero h less few = absurd (omega arith)
clear_at gap (x ∷ k) d zero (suc j) h less few = h.0 (get_or k j d) (at_index k j d (omega arith))
clear_at gap (x ∷ k) d (suc i) (suc j) h less few = clear_at gap k d i j h.1 (omega arith) (omega arith)

pub clear_apart : (gap : ℕ) (x y : Rectangle) (u v : ℕ) → Clear gap x y → Covers x u v → Covers y u v → ⊥
clear_apart gap x y u v (inl h) first second =
    let ends = first.to_right in let starts = second.from_left in omega arith
clear_apart gap x y u v (inr h) first second =
    let ends = first.to_upper in let starts = second.from_lower in omega arith

-- No unit square lies in two gauges of a legal layout.
pub no_overlap : (gap : ℕ) (t : Tree) (l : Layout t) → Legal gap t l → (i j : ℕ) → i < j → j < gauge_count t
    → (u v : ℕ) → Covers (gauge_in t l i) u v → Covers (gauge_in t l j) u v → ⊥
no_overlap gap t l legal i j less few u v first second =
    clear_apart gap (gauge_in t l i) (gauge_in t l j) u v
    (clear_at gap (rectangles t l) _ i j (gauges_clear gap t l legal) less (omega (arith, rectangles_length t l))) first second
