-- How many items the shape lists of all joins of a face hold together: at most 7 (g (g + 1) / 2 - 1) + (g - 1) for g gauges, 14,616 for 64.
-- A join of g gauges holds at most 7 g + 1 items, and the sum is largest in a lopsided tree, since (l - 1) (r - 1) is not below 0.
use Prim.Native.Nat.{ℕ, zero, suc, ◌+◌, ◌*◌, ◌≤◌}
use native.Mathlib.Omega.{arith}
use lib.ListN.{length}
use Rattle.slicing.specs.Tree.{Tree, gauge, beside, stacked, gauge_count}
use Rattle.slicing.specs.Good.{Good}
use Rattle.slicing.specs.Shapes.{shapes}
use Rattle.slicing.proofs.Counts.{counted, gauges_joined}
use Rattle.slicing.proofs.ShapeLaws.{shapes_short}

-- The items of all joins of a part.
abbrev pub stored_items : ℕ → Tree → ℕ
stored_items gap (gauge s) = 0
stored_items gap (beside a b) = stored_items gap a + stored_items gap b + length (shapes gap (beside a b))
stored_items gap (stacked a b) = stored_items gap a + stored_items gap b + length (shapes gap (stacked a b))

both_some : (l r : ℕ) → 1 ≤ l → 1 ≤ r → l + r ≤ l * r + 1
both_some zero r h k = absurd (omega arith)
both_some (suc l) zero h k = absurd (omega arith)
both_some (suc l) (suc r) h k = omega arith

-- Twice the bound, so that no half is taken.
join_bound : (l r x y z : ℕ) → 1 ≤ l → 1 ≤ r → 2 * x + 16 ≤ 7 * (l * l) + 9 * l → 2 * y + 16 ≤ 7 * (r * r) + 9 * r → z ≤ 7 * (l + r) + 1 → 2 * (x + y + z) + 16 ≤ 7 * ((l + r) * (l + r)) + 9 * (l + r)
join_bound l r x y z h k p q m = omega (arith, both_some l r h k)

items_few : (gap : ℕ) (t : Tree) → Good t → length (shapes gap t) ≤ 7 * gauge_count t + 1
items_few gap t h = let c = counted t h in let s = c.most in omega (arith, shapes_short gap t h)

pub stored_few : (gap : ℕ) (t : Tree) → Good t → 2 * stored_items gap t + 16 ≤ 7 * (gauge_count t * gauge_count t) + 9 * gauge_count t
stored_few gap (gauge s) h = omega arith
stored_few gap (beside a b) h =
    rw (gauges_joined a b)
    (join_bound (gauge_count a) (gauge_count b) (stored_items gap a) (stored_items gap b) (length (shapes gap (beside a b)))
    (counted a h.0).some (counted b h.1).some (stored_few gap a h.0) (stored_few gap b h.1)
    (omega (arith, items_few gap (beside a b) h, gauges_joined a b)))
stored_few gap (stacked a b) h =
    rw (gauges_joined a b)
    (join_bound (gauge_count a) (gauge_count b) (stored_items gap a) (stored_items gap b) (length (shapes gap (stacked a b)))
    (counted a h.0).some (counted b h.1).some (stored_few gap a h.0) (stored_few gap b h.1)
    (omega (arith, items_few gap (stacked a b) h, gauges_joined a b)))
