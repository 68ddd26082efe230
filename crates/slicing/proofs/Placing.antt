-- The layout that is placed for an item of a part's shape list is legal, and its furthest edges are exactly the item's: each side takes the narrowest item no taller than the part, and together these come to the item again.
-- The two that the sides take are met in the merge by an item no taller and no wider than the one placed, which in an ordered list can only be that one itself.
use mathlib.Core.Path.{◌≡◌, refl, ap}
use mathlib.Core.List.{List, Memᴰ}
use Prim.Native.Nat.{ℕ, ◌+◌, ◌*◌, ◌≤◌, max}
use native.Mathlib.Omega.{arith}
use lib.ListN.{length, length-append}
use Rattle.slicing.specs.Item.{Item, size, height, width}
use Rattle.slicing.specs.Tree.{Tree, gauge, beside, stacked, gauge_count}
use Rattle.slicing.specs.Good.{Ordered, Good}
use Rattle.slicing.specs.Merge.{merge, swap, turn}
use Rattle.slicing.specs.Shapes.{shapes}
use Rattle.slicing.specs.Layout.{Layout, rightmost, topmost, LeftsFrom, BottomsFrom, Legal}
use Rattle.slicing.specs.Fit.{no_taller, no_wider, place, words}
use Rattle.slicing.proofs.MergeLaws.{maxplus}
use Rattle.slicing.proofs.TurnLaws.{turn_out, turn_ordered}
use Rattle.slicing.proofs.ShapeLaws.{shapes_ordered}
use Rattle.slicing.proofs.Counts.{gauges_joined}
use Rattle.slicing.proofs.GaugeUseful.{gauge_useful}
use Rattle.slicing.proofs.Indexes.{index_found}
use Rattle.slicing.proofs.NoTaller.{only_itself, no_taller_narrowest}

-- The two that the sides take for an item of the merge: they are in their lists, and the item is the maximum of their m and the sum of their p.
pub record Sides (gap : ℕ) (a b : List Item) (z : Item) : Type 0 where
  pub first_in : Memᴰ (no_taller z.m a) a
  pub second_in : Memᴰ (no_taller z.m b) b
  pub m_is : z.m ≡ max (no_taller z.m a).m (no_taller z.m b).m
  pub p_is : z.p ≡ (no_taller z.m a).p + gap + (no_taller z.m b).p

pub sides : (gap : ℕ) (a b : List Item) → Ordered a → Ordered b → (z : Item) → Memᴰ z (merge gap a b) → Sides gap a b z
sides gap a b order_a order_b z i =
    let merged = maxplus gap a b order_a order_b in
    let pair = merged.from z i in
    let x = no_taller z.m a in
    let y = no_taller z.m b in
    let first = no_taller_narrowest z.m a order_a pair.first pair.first_in (omega arith) in
    let second = no_taller_narrowest z.m b order_b pair.second pair.second_in (omega arith) in
    let met = merged.met x y first.in_list second.in_list in
    let x_narrow = first.narrowest pair.first pair.first_in (omega arith) in
    let y_narrow = second.narrowest pair.second pair.second_in (omega arith) in
    let same = only_itself (merge gap a b) merged.order met.item z met.item_in i (omega arith) (omega arith) in
    let same_m = ap height same in
    let same_p = ap width same in
    record { first_in = first.in_list; second_in = second.in_list; m_is = omega arith; p_is = omega arith }

-- The layout that is placed for z with its lower left corner at x, y.
pub record Sits (gap : ℕ) (t : Tree) (z : Item) (x y : ℕ) : Type 0 where
  pub legal : Legal gap t (place gap t z x y)
  pub top : topmost t (place gap t z x y) ≡ y + z.m
  pub right : rightmost t (place gap t z x y) ≡ x + z.p
  pub lefts : LeftsFrom t (place gap t z x y) x
  pub bottoms : BottomsFrom t (place gap t z x y) y

lefts_less : (t : Tree) (l : Layout t) (v w : ℕ) → w ≤ v → LeftsFrom t l v → LeftsFrom t l w
lefts_less (gauge s) l v w h k = omega arith
lefts_less (beside a b) l v w h k = (lefts_less a l.0 v w h k.0, lefts_less b l.1 v w h k.1)
lefts_less (stacked a b) l v w h k = (lefts_less a l.0 v w h k.0, lefts_less b l.1 v w h k.1)

bottoms_less : (t : Tree) (l : Layout t) (v w : ℕ) → w ≤ v → BottomsFrom t l v → BottomsFrom t l w
bottoms_less (gauge s) l v w h k = omega arith
bottoms_less (beside a b) l v w h k = (bottoms_less a l.0 v w h k.0, bottoms_less b l.1 v w h k.1)
bottoms_less (stacked a b) l v w h k = (bottoms_less a l.0 v w h k.0, bottoms_less b l.1 v w h k.1)

sits_gauge : (gap : ℕ) (s : List Item) (z : Item) (x y : ℕ) → Memᴰ z s → Sits gap (gauge s) z x y
unfolding place
sits_gauge gap s z x y i =
    let found = index_found z s (size 0 0) i in
    let same_m = ap height found.same in
    let same_p = ap width found.same in
    record {
      legal = found.index;
      top = omega arith;
      right = omega arith;
      lefts = omega arith;
      bottoms = omega arith;
    }

sits_beside : (gap : ℕ) (a b : Tree) (z : Item) (x y : ℕ) → Sides gap (shapes gap a) (shapes gap b) z → Sits gap a (no_taller z.m (shapes gap a)) x y → Sits gap b (no_taller z.m (shapes gap b)) (x + (no_taller z.m (shapes gap a)).p + gap) y → Sits gap (beside a b) z x y
unfolding place
sits_beside gap a b z x y both first second =
    record {
      legal = (first.legal, second.legal, (x + (no_taller z.m (shapes gap a)).p, omega arith, second.lefts));
      top = omega arith;
      right = omega arith;
      lefts = (first.lefts, lefts_less b _ _ x (omega arith) second.lefts);
      bottoms = (first.bottoms, second.bottoms);
    }

sits_stacked : (gap : ℕ) (a b : Tree) (z : Item) (x y : ℕ) → Sides gap (turn (shapes gap a)) (turn (shapes gap b)) (swap z) → Sits gap a (no_wider z.p (shapes gap a)) x y → Sits gap b (no_wider z.p (shapes gap b)) x (y + (no_wider z.p (shapes gap a)).m + gap) → Sits gap (stacked a b) z x y
unfolding place
sits_stacked gap a b z x y both first second =
    record {
      legal = (first.legal, second.legal, (y + (no_wider z.p (shapes gap a)).m, omega arith, second.bottoms));
      top = omega arith;
      right = omega arith;
      lefts = (first.lefts, second.lefts);
      bottoms = (first.bottoms, bottoms_less b _ _ y (omega arith) second.bottoms);
    }

pub placed : (gap : ℕ) (t : Tree) (z : Item) (x y : ℕ) → Good t → Memᴰ z (shapes gap t) → Sits gap t z x y
unfolding shapes
placed gap (gauge s) z x y good i = sits_gauge gap s z x y ((gauge_useful s).sizes.from_size z i)
placed gap (beside a b) z x y good i =
    let order_a = shapes_ordered gap a good.0 in
    let order_b = shapes_ordered gap b good.1 in
    let both = sides gap (shapes gap a) (shapes gap b) order_a order_b z i in
    sits_beside gap a b z x y both (placed gap a (no_taller z.m (shapes gap a)) x y good.0 both.first_in)
    (placed gap b (no_taller z.m (shapes gap b)) (x + (no_taller z.m (shapes gap a)).p + gap) y good.1 both.second_in)
placed gap (stacked a b) z x y good i =
    let order_a = turn_ordered (shapes gap a) (shapes_ordered gap a good.0) in
    let order_b = turn_ordered (shapes gap b) (shapes_ordered gap b good.1) in
    let turned = turn_out z (merge gap (turn (shapes gap a)) (turn (shapes gap b))) i in
    let both = sides gap (turn (shapes gap a)) (turn (shapes gap b)) order_a order_b (swap z) turned in
    let first_in = turn_out (no_taller z.p (turn (shapes gap a))) (shapes gap a) both.first_in in
    let second_in = turn_out (no_taller z.p (turn (shapes gap b))) (shapes gap b) both.second_in in
    sits_stacked gap a b z x y both (placed gap a (no_wider z.p (shapes gap a)) x y good.0 first_in)
    (placed gap b (no_wider z.p (shapes gap b)) x (y + (no_wider z.p (shapes gap a)).m + gap) good.1 second_in)

-- A layout is written as five words a gauge.
pub words_length : (t : Tree) (l : Layout t) → length (words t l) ≡ 5 * gauge_count t
words_length (gauge s) l = refl
words_length (beside a b) l =
    let first = words_length a l.0 in
    let second = words_length b l.1 in omega (arith, length-append (words a l.0) (words b l.1), gauges_joined a b)
words_length (stacked a b) l =
    let first = words_length a l.0 in
    let second = words_length b l.1 in omega (arith, length-append (words a l.0) (words b l.1), gauges_joined a b)
