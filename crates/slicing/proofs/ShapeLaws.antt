-- The shape list of every part of a good tree: it is ordered, each item is the outer size of a choice, each choice is met, and it has at most n - g + 1 items.
-- Each holds at a gauge by what its sizes are, and at a join by what the merge of the two parts' lists is; a stacked join is the same, turned.
use mathlib.Core.Path.{refl, sym, ap₂}
use mathlib.Core.List.{List, Memᴰ}
use Prim.Native.Nat.{ℕ, ◌+◌, ◌≤◌}
use native.Mathlib.Omega.{arith}
use lib.ListN.{length}
use Rattle.slicing.specs.Item.{Item, size}
use Rattle.slicing.specs.Tree.{Tree, gauge, beside, stacked, gauge_count, size_count}
use Rattle.slicing.specs.Good.{Ordered, Good}
use Rattle.slicing.specs.Merge.{merge, swap, turn}
use Rattle.slicing.specs.Maxplus.{Meets}
use Rattle.slicing.specs.Shapes.{shapes}
use Rattle.slicing.specs.Choice.{Choice, extent}
use Rattle.slicing.specs.Demand2.{Chosen}
use Rattle.slicing.proofs.Counts.{gauges_joined, sizes_joined}
use Rattle.slicing.proofs.MergeLaws.{maxplus, merge_filled, merge_short}
use Rattle.slicing.proofs.TurnLaws.{turn_in, turn_out, turn_ordered, turn_length}
use Rattle.slicing.proofs.GaugeUseful.{gauge_useful}

pub shapes_ordered : (gap : ℕ) (t : Tree) → Good t → Ordered (shapes gap t)
unfolding shapes
shapes_ordered gap (gauge s) h = (gauge_useful s).sizes.order
shapes_ordered gap (beside a b) h =
    (maxplus gap (shapes gap a) (shapes gap b) (shapes_ordered gap a h.0) (shapes_ordered gap b h.1)).order
shapes_ordered gap (stacked a b) h =
    turn_ordered (merge gap (turn (shapes gap a)) (turn (shapes gap b)))
    (maxplus gap (turn (shapes gap a)) (turn (shapes gap b)) (turn_ordered (shapes gap a) (shapes_ordered gap a h.0))
    (turn_ordered (shapes gap b) (shapes_ordered gap b h.1))).order

turn_filled : (l : List Item) → 1 ≤ length l → 1 ≤ length (turn l)
turn_filled l h = omega (arith, turn_length l)

pub shapes_filled : (gap : ℕ) (t : Tree) → Good t → 1 ≤ length (shapes gap t)
unfolding shapes
shapes_filled gap (gauge s) h = (gauge_useful s).filled h.some
shapes_filled gap (beside a b) h =
    merge_filled gap (shapes gap a) (shapes gap b) (shapes_filled gap a h.0) (shapes_filled gap b h.1)
shapes_filled gap (stacked a b) h =
    turn_filled (merge gap (turn (shapes gap a)) (turn (shapes gap b)))
    (merge_filled gap (turn (shapes gap a)) (turn (shapes gap b)) (turn_filled (shapes gap a) (shapes_filled gap a h.0))
    (turn_filled (shapes gap b) (shapes_filled gap b h.1)))

-- At most n - g + 1 items.
pub shapes_short : (gap : ℕ) (t : Tree) → Good t → length (shapes gap t) + gauge_count t ≤ size_count t + 1
unfolding shapes
shapes_short gap (gauge s) h = omega (arith, (gauge_useful s).short)
shapes_short gap (beside a b) h =
    omega (
      arith,
      merge_short gap (shapes gap a) (shapes gap b) (shapes_filled gap a h.0) (shapes_filled gap b h.1),
      shapes_short gap a h.0,
      shapes_short gap b h.1,
      gauges_joined a b,
      sizes_joined a b,
    )
shapes_short gap (stacked a b) h =
    let x = turn (shapes gap a) in
    let y = turn (shapes gap b) in
    omega (
      arith,
      turn_length (merge gap x y),
      merge_short gap x y (turn_filled (shapes gap a) (shapes_filled gap a h.0)) (turn_filled (shapes gap b) (shapes_filled gap b h.1)),
      turn_length (shapes gap a),
      turn_length (shapes gap b),
      shapes_short gap a h.0,
      shapes_short gap b h.1,
      gauges_joined a b,
      sizes_joined a b,
    )

pub shapes_chosen : (gap : ℕ) (t : Tree) (z : Item) → Good t → Memᴰ z (shapes gap t) → Chosen gap t z
unfolding shapes
shapes_chosen gap (gauge s) z h i = record { choice = (z, (gauge_useful s).sizes.from_size z i); same = refl }
shapes_chosen gap (beside a b) z h i =
    let pair = (maxplus gap (shapes gap a) (shapes gap b) (shapes_ordered gap a h.0) (shapes_ordered gap b h.1)).from z i in
    let x = shapes_chosen gap a pair.first h.0 pair.first_in in
    let y = shapes_chosen gap b pair.second h.1 pair.second_in in
    record {
      choice = (x.choice, y.choice);
      same = rw (x.same, y.same) (ap₂ size (sym pair.m_is) (sym pair.p_is));
    }
shapes_chosen gap (stacked a b) z h i =
    let la = turn (shapes gap a) in
    let lb = turn (shapes gap b) in
    let oa = turn_ordered (shapes gap a) (shapes_ordered gap a h.0) in
    let ob = turn_ordered (shapes gap b) (shapes_ordered gap b h.1) in
    let pair = (maxplus gap la lb oa ob).from (swap z) (turn_out z (merge gap la lb) i) in
    let x = shapes_chosen gap a (swap pair.first) h.0 (turn_out pair.first (shapes gap a) pair.first_in) in
    let y = shapes_chosen gap b (swap pair.second) h.1 (turn_out pair.second (shapes gap b) pair.second_in) in
    record {
      choice = (x.choice, y.choice);
      same = rw (x.same, y.same) (ap₂ size (sym pair.p_is) (sym pair.m_is));
    }

-- A list that meets less meets more.
meets_more : (l : List Item) (m p m' p' : ℕ) → m ≤ m' → p ≤ p' → Meets l m p → Meets l m' p'
meets_more l m p m' p' h k x =
    record {
      item = x.item;
      item_in = x.item_in;
      not_taller = let n = x.not_taller in omega arith;
      no_wider = let n = x.no_wider in omega arith;
    }

pub shapes_meet : (gap : ℕ) (t : Tree) → Good t → (c : Choice t) → Meets (shapes gap t) (extent gap t c).m (extent gap t c).p
unfolding shapes
shapes_meet gap (gauge s) h c = (gauge_useful s).sizes.size_met c.0 c.1
shapes_meet gap (beside a b) h c =
    let x = shapes_meet gap a h.0 c.0 in
    let y = shapes_meet gap b h.1 c.1 in
    let xt = x.not_taller in
    let xw = x.no_wider in
    let yt = y.not_taller in
    let yw = y.no_wider in
    meets_more (merge gap (shapes gap a) (shapes gap b)) _ _ _ _ (omega arith) (omega arith)
    ((maxplus gap (shapes gap a) (shapes gap b) (shapes_ordered gap a h.0) (shapes_ordered gap b h.1)).met x.item y.item x.item_in y.item_in)
shapes_meet gap (stacked a b) h c =
    let x = shapes_meet gap a h.0 c.0 in
    let y = shapes_meet gap b h.1 c.1 in
    let xt = x.not_taller in
    let xw = x.no_wider in
    let yt = y.not_taller in
    let yw = y.no_wider in
    let la = turn (shapes gap a) in
    let lb = turn (shapes gap b) in
    let oa = turn_ordered (shapes gap a) (shapes_ordered gap a h.0) in
    let ob = turn_ordered (shapes gap b) (shapes_ordered gap b h.1) in
    let z = (maxplus gap la lb oa ob).met (swap x.item) (swap y.item) (turn_in x.item (shapes gap a) x.item_in) (turn_in y.item (shapes gap b) y.item_in) in
    let zt = z.not_taller in
    let zw = z.no_wider in
    record {
      item = swap z.item;
      item_in = turn_in z.item (merge gap la lb) z.item_in;
      not_taller = omega arith;
      no_wider = omega arith;
    }
