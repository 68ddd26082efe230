-- No gauge of a tree has more joins above it than the tree has, and the tree has fewer joins than gauges.
-- A join adds one to the deeper of its parts, and each part has at least one gauge more than joins.
use Prim.Native.Nat.{◌≤◌, ◌<◌}
use native.Mathlib.Omega.{arith}
use Rattle.slicing.specs.Tree.{Tree, gauge, beside, stacked, gauge_count, least_depth, most_depth}
use Rattle.slicing.proofs.Counts.{gauges_joined}

pub depth_few : (t : Tree) → most_depth t < gauge_count t
depth_few (gauge s) = omega arith
depth_few (beside a b) = omega (arith, gauges_joined a b, depth_few a, depth_few b)
depth_few (stacked a b) = omega (arith, gauges_joined a b, depth_few a, depth_few b)

pub least_most : (t : Tree) → least_depth t ≤ most_depth t
least_most (gauge s) = omega arith
least_most (beside a b) = omega (arith, least_most a, least_most b)
least_most (stacked a b) = omega (arith, least_most a, least_most b)
