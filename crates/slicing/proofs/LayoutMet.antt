-- Every legal layout of a part is at least as high and as wide as some item of the part's shape list, counted from any corner that its lower and left edges keep to.
-- Going down the tree, the line of a join keeps the second part beyond the first, so the layout has room for an item of each list one after the other, and the merge meets every such pair.
use mathlib.Core.List.{List, Memᴰ}
use Prim.Native.Nat.{ℕ, zero, ◌+◌, ◌≤◌}
use native.Mathlib.Omega.{arith}
use lib.ListN.{get_or}
use Rattle.slicing.specs.Item.{Item, size}
use Rattle.slicing.specs.Tree.{Tree, gauge, beside, stacked}
use Rattle.slicing.specs.Good.{Good}
use Rattle.slicing.specs.Merge.{merge, swap, turn}
use Rattle.slicing.specs.Shapes.{shapes}
use Rattle.slicing.specs.Layout.{Layout, rightmost, topmost, LeftsFrom, BottomsFrom, Legal}
use Rattle.slicing.proofs.MergeLaws.{maxplus}
use Rattle.slicing.proofs.TurnLaws.{turn_in, turn_ordered}
use Rattle.slicing.proofs.ByPlace.{at_index}
use Rattle.slicing.proofs.GaugeUseful.{gauge_useful}
use Rattle.slicing.proofs.ShapeLaws.{shapes_ordered}

-- The shape list of the part has an item that fits between the corner x, y and the furthest edges of the layout.
pub record HasRoom (gap : ℕ) (t : Tree) (l : Layout t) (x y : ℕ) : Type 0 where
  pub item : Item
  pub item_in : Memᴰ item (shapes gap t)
  pub not_taller : y + item.m ≤ topmost t l
  pub no_wider : x + item.p ≤ rightmost t l

room_gauge : (gap : ℕ) (s : List Item) (l : Layout (gauge s)) (x y : ℕ) → Legal gap (gauge s) l → LeftsFrom (gauge s) l x → BottomsFrom (gauge s) l y → HasRoom gap (gauge s) l x y
unfolding shapes
room_gauge gap s l x y legal left low =
    let z = get_or s l.index (size 0 0) in
    let met = (gauge_useful s).sizes.size_met z (at_index s l.index (size 0 0) legal) in
    record { item = met.item; item_in = met.item_in; not_taller = omega arith; no_wider = omega arith }

room_beside : (gap : ℕ) (a b : Tree) (l : Layout (beside a b)) (x y v : ℕ) → Good a → Good b → rightmost a l.0 ≤ v → HasRoom gap a l.0 x y → HasRoom gap b l.1 (v + gap) y → HasRoom gap (beside a b) l x y
unfolding shapes
room_beside gap a b l x y v good_a good_b line first second =
    let order_a = shapes_ordered gap a good_a in
    let order_b = shapes_ordered gap b good_b in
    let z = (maxplus gap (shapes gap a) (shapes gap b) order_a order_b).met first.item second.item first.item_in second.item_in in
    record { item = z.item; item_in = z.item_in; not_taller = omega arith; no_wider = omega arith }

room_stacked : (gap : ℕ) (a b : Tree) (l : Layout (stacked a b)) (x y v : ℕ) → Good a → Good b → topmost a l.0 ≤ v → HasRoom gap a l.0 x y → HasRoom gap b l.1 x (v + gap) → HasRoom gap (stacked a b) l x y
unfolding shapes
room_stacked gap a b l x y v good_a good_b line first second =
    let order_a = turn_ordered (shapes gap a) (shapes_ordered gap a good_a) in
    let order_b = turn_ordered (shapes gap b) (shapes_ordered gap b good_b) in
    let first_in = turn_in first.item (shapes gap a) first.item_in in
    let second_in = turn_in second.item (shapes gap b) second.item_in in
    let z = (maxplus gap (turn (shapes gap a)) (turn (shapes gap b)) order_a order_b).met (swap first.item) (swap second.item) first_in second_in in
    record {
      item = swap z.item;
      item_in = turn_in z.item (merge gap (turn (shapes gap a)) (turn (shapes gap b))) z.item_in;
      not_taller = omega arith;
      no_wider = omega arith;
    }

pub layout_met : (gap : ℕ) (t : Tree) (l : Layout t) (x y : ℕ) → Good t → Legal gap t l → LeftsFrom t l x → BottomsFrom t l y → HasRoom gap t l x y
layout_met gap (gauge s) l x y good legal left low = room_gauge gap s l x y legal left low
layout_met gap (beside a b) l x y good legal left low =
    let v = legal.2.0 in
    room_beside gap a b l x y v good.0 good.1 legal.2.1
    (layout_met gap a l.0 x y good.0 legal.0 left.0 low.0)
    (layout_met gap b l.1 (v + gap) y good.1 legal.1 legal.2.2 low.1)
layout_met gap (stacked a b) l x y good legal left low =
    let v = legal.2.0 in
    room_stacked gap a b l x y v good.0 good.1 legal.2.1
    (layout_met gap a l.0 x y good.0 legal.0 left.0 low.0)
    (layout_met gap b l.1 x (v + gap) good.1 legal.1 left.1 legal.2.2)

-- Places are counted from zero.
pub zero_corner : (t : Tree) (l : Layout t) → LeftsFrom t l 0 × BottomsFrom t l 0
zero_corner (gauge s) l = (omega arith, omega arith)
zero_corner (beside a b) l =
    let first = zero_corner a l.0 in
    let second = zero_corner b l.1 in ((first.0, second.0), (first.1, second.1))
zero_corner (stacked a b) l =
    let first = zero_corner a l.0 in
    let second = zero_corner b l.1 in ((first.0, second.0), (first.1, second.1))
