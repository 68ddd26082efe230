-- How many gauges and sizes a tree has: a join has those of its two parts together, and a good tree has 1 to 8 sizes a gauge.
-- Both hold by going down the tree, since the gauges and sizes of a join are those of its parts one after the other.
use mathlib.Core.Path.{◌≡◌}
use Prim.Native.Nat.{◌+◌, ◌*◌, ◌≤◌}
use native.Mathlib.Omega.{arith}
use lib.ListN.{length-append}
use Rattle.slicing.specs.Tree.{Tree, gauge, beside, stacked, gauges_of, sizes_of, gauge_count, size_count}
use Rattle.slicing.specs.Good.{Good}

pub gauges_joined : (a b : Tree) → gauge_count (beside a b) ≡ gauge_count a + gauge_count b
gauges_joined a b = length-append (gauges_of a) (gauges_of b)

pub sizes_joined : (a b : Tree) → size_count (beside a b) ≡ size_count a + size_count b
sizes_joined a b = length-append (sizes_of a) (sizes_of b)

-- At least one gauge, and from 1 to 8 sizes a gauge.
pub record Counted (t : Tree) : Type 0 where
  pub some : 1 ≤ gauge_count t
  pub least : gauge_count t ≤ size_count t
  pub most : size_count t ≤ 8 * gauge_count t

counted_joined : (a b : Tree) → Counted a → Counted b → Counted (beside a b)
counted_joined a b x y =
    record {
      some = omega (arith, gauges_joined a b);
      least = omega (arith, gauges_joined a b, sizes_joined a b);
      most = omega (arith, gauges_joined a b, sizes_joined a b);
    }

pub counted : (t : Tree) → Good t → Counted t
counted (gauge s) h = record { some = omega arith; least = h.some; most = h.few }
counted (beside a b) h = counted_joined a b (counted a h.0) (counted b h.1)
counted (stacked a b) h =
    let c = counted_joined a b (counted a h.0) (counted b h.1) in
    record { some = c.some; least = c.least; most = c.most }
