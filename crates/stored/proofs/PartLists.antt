-- A part's stored list, read the way of a join, is the shape list or that turned; the merge of two lists so read, whichever is first, is the join's own, and it is short; none is empty.
-- Stacked parts are stored by width and others by height, which is how the list of each is defined; turning keeps the number of items.
use mathlib.Core.Path.{◌≡◌, refl, sym, ap₂, subst, ◌∙◌}
use mathlib.Core.List.{List, Memᴰ}
use Prim.Native.Nat.{ℕ, ◌+◌, ◌*◌, ◌≤◌, ◌<◌}
use native.Mathlib.Omega.{arith}
use lib.ListN.{length}
use Rattle.slicing.specs.Item.{Item}
use Rattle.slicing.specs.Tree.{Tree, gauge, beside, stacked, gauge_count}
use Rattle.slicing.specs.Good.{Ordered, Good}
use Rattle.slicing.specs.Useful.{gauge_shapes}
use Rattle.slicing.specs.Merge.{merge, swap, turn}
use Rattle.slicing.specs.Shapes.{shapes}
use Rattle.slicing.proofs.Exchanged.{merge_exchanged}
use Rattle.slicing.proofs.Counts.{counted, gauges_joined}
use Rattle.slicing.proofs.ShapeLaws.{shapes_ordered, shapes_filled, shapes_short}
use Rattle.slicing.proofs.TurnLaws.{turn_turn, turn_ordered, turn_length, turn_out}
use Rattle.slicing.proofs.Reach.{shapes_low}
use Rattle.entries.specs.inside.Kinds.{kind_of, across, Cut, cut_beside, cut_stacked}
use Rattle.packed.specs.inside.Packed.{facing}
use Rattle.stored.specs.inside.Store.{own_shapes, Entry, Stored}

pub entry_of : (gap : ℕ) (s : List ℕ) (e : ℕ) (t : Tree) → Stored gap s e t → Entry s e (kind_of t) (gauge_count t) (own_shapes gap t)
entry_of gap s e (gauge z) h = h.0
entry_of gap s e (beside a b) h = h.0
entry_of gap s e (stacked a b) h = h.0

-- The list of a gauge is that of its useful sizes.
pub own_gauge : (gap : ℕ) (z : List Item) → own_shapes gap (gauge z) ≡ gauge_shapes z
unfolding own_shapes shapes
own_gauge gap z = refl

pub own_length : (gap : ℕ) (t : Tree) → length (own_shapes gap t) ≡ length (shapes gap t)
unfolding own_shapes
own_length gap (gauge s) = refl
own_length gap (beside a b) = refl
own_length gap (stacked a b) = turn_length (shapes gap (stacked a b))

pub own_beside : (gap : ℕ) (t : Tree) → facing (across (kind_of t) 0x02) (own_shapes gap t) ≡ shapes gap t
unfolding across own_shapes
own_beside gap (gauge s) = refl
own_beside gap (beside a b) = refl
own_beside gap (stacked a b) = turn_turn (shapes gap (stacked a b))

pub own_stacked : (gap : ℕ) (t : Tree) → facing (across (kind_of t) 0x03) (own_shapes gap t) ≡ turn (shapes gap t)
unfolding across own_shapes
own_stacked gap (gauge s) = refl
own_stacked gap (beside a b) = refl
own_stacked gap (stacked a b) = refl

pub own_merge : (gap kind : ℕ) (cut : Tree → Tree → Tree) → Cut kind cut → (a b : Tree) → merge gap (facing (across (kind_of a) kind) (own_shapes gap a)) (facing (across (kind_of b) kind) (own_shapes gap b)) ≡ own_shapes gap (cut a b)
unfolding own_shapes shapes
own_merge gap kind cut cut_beside a b = ap₂ (merge gap) (own_beside gap a) (own_beside gap b)
own_merge gap kind cut cut_stacked a b =
    ap₂ (merge gap) (own_stacked gap a) (own_stacked gap b) ∙ sym (turn_turn (merge gap (turn (shapes gap a)) (turn (shapes gap b))))

own_ordered : (gap kind : ℕ) (cut : Tree → Tree → Tree) → Cut kind cut → (t : Tree) → Good t → Ordered (facing (across (kind_of t) kind) (own_shapes gap t))
own_ordered gap kind cut cut_beside t good = subst Ordered (sym (own_beside gap t)) (shapes_ordered gap t good)
own_ordered gap kind cut cut_stacked t good =
    subst Ordered (sym (own_stacked gap t)) (turn_ordered (shapes gap t) (shapes_ordered gap t good))

-- The same with the newer part's list first.
pub own_exchanged : (gap kind : ℕ) (cut : Tree → Tree → Tree) → Cut kind cut → (a b : Tree) → Good a → Good b → merge gap (facing (across (kind_of b) kind) (own_shapes gap b)) (facing (across (kind_of a) kind) (own_shapes gap a)) ≡ own_shapes gap (cut a b)
own_exchanged gap kind cut is_cut a b good_a good_b =
    merge_exchanged gap _ _ (own_ordered gap kind cut is_cut b good_b) (own_ordered gap kind cut is_cut a good_a)
    ∙ own_merge gap kind cut is_cut a b

pub own_low : (gap kind : ℕ) (cut : Tree → Tree → Tree) → Cut kind cut → (t : Tree) → gap ≤ 20 → Good t → (z : Item) → Memᴰ z (facing (across (kind_of t) kind) (own_shapes gap t)) → z.p + 20 ≤ 1_020 * gauge_count t
own_low gap kind cut cut_beside t narrow good z i =
    (shapes_low gap t narrow good z (subst (λ (l : List Item). Memᴰ z l) (own_beside gap t) i)).1
own_low gap kind cut cut_stacked t narrow good z i =
    (shapes_low gap t narrow good (swap z) (turn_out z (shapes gap t) (subst (λ (l : List Item). Memᴰ z l) (own_stacked gap t) i))).0

pub kind_low : (t : Tree) → kind_of t < 256
kind_low (gauge s) = omega arith
kind_low (beside a b) = omega arith
kind_low (stacked a b) = omega arith

-- The items of a part are some, and few.
pub own_filled : (gap : ℕ) (t : Tree) → Good t → 1 ≤ length (own_shapes gap t)
own_filled gap t good = omega (arith, own_length gap t, shapes_filled gap t good)

pub own_few : (gap : ℕ) (t : Tree) → Good t → length (own_shapes gap t) ≤ 7 * gauge_count t + 1
own_few gap t good =
    let n = own_length gap t in
    let short = shapes_short gap t good in
    let most = (counted t good).most in
    omega arith

-- The same of both joins.
pub cut_gauges : (kind : ℕ) (cut : Tree → Tree → Tree) → Cut kind cut → (a b : Tree) → gauge_count (cut a b) ≡ gauge_count a + gauge_count b
cut_gauges kind cut cut_beside a b = gauges_joined a b
cut_gauges kind cut cut_stacked a b = gauges_joined a b

pub cut_short : (gap kind : ℕ) (cut : Tree → Tree → Tree) → Cut kind cut → (a b : Tree) → Good a → Good b → gauge_count a + gauge_count b ≤ 64 → length (own_shapes gap (cut a b)) ≤ 512
cut_short gap kind cut cut_beside a b x y few = let short = own_few gap (beside a b) (x, y) in let g = gauges_joined a b in omega arith
cut_short gap kind cut cut_stacked a b x y few = let short = own_few gap (stacked a b) (x, y) in let g = gauges_joined a b in omega arith
