-- The slicing tree that a face file means, and what document 01 counts in it.
use Rattle.std.specs.Prelude.{List, [], ◌∷◌, ◌++◌, ℕ, suc, min, max, length}
use Rattle.slicing.specs.Item.{Item}

-- A part: a gauge with its printed sizes, or two parts joined. The first part of a join is the older, left or lower.
pub data Tree : Type 0 where
  gauge : List Item → Tree
  beside : Tree → Tree → Tree
  stacked : Tree → Tree → Tree

-- The gauges, each with its sizes, in file order: gauge k is the k-th, counted from 1.
abbrev pub gauges_of : Tree → List (List Item)
gauges_of (gauge s) = s ∷ []
gauges_of (beside a b) = gauges_of a ++ gauges_of b
gauges_of (stacked a b) = gauges_of a ++ gauges_of b

-- The sizes over the whole file, in file order: size r is the r-th, counted from 1.
abbrev pub sizes_of : Tree → List Item
sizes_of (gauge s) = s
sizes_of (beside a b) = sizes_of a ++ sizes_of b
sizes_of (stacked a b) = sizes_of a ++ sizes_of b

-- g
abbrev pub gauge_count : Tree → ℕ
gauge_count t = length (gauges_of t)

-- n
abbrev pub size_count : Tree → ℕ
size_count t = length (sizes_of t)

-- D, the smallest number of joins above a gauge
abbrev pub least_depth : Tree → ℕ
least_depth (gauge s) = 0
least_depth (beside a b) = suc (min (least_depth a) (least_depth b))
least_depth (stacked a b) = suc (min (least_depth a) (least_depth b))

-- E, the largest number of joins above a gauge
abbrev pub most_depth : Tree → ℕ
most_depth (gauge s) = 0
most_depth (beside a b) = suc (max (most_depth a) (most_depth b))
most_depth (stacked a b) = suc (max (most_depth a) (most_depth b))
