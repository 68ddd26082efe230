-- Demand 3 and document 01, "Fit": layouts, their edges, when one is legal and when it is inside an outline (the opening).
use Rattle.std.specs.Prelude.{List, ℕ, ◌+◌, ◌≤◌, ◌<◌, max, length, get_or}
use Rattle.slicing.specs.Item.{Item, size, height, width}
use Rattle.slicing.specs.Tree.{Tree, gauge, beside, stacked}

-- A gauge's size, by its index in the gauge from 0, and the place of its lower left corner.
pub record Placed : Type 0 where
  pub index : ℕ
  pub across : ℕ
  pub up : ℕ

-- "A layout gives each gauge one of its sizes and a place, the whole numbers across and up of its lower left corner, from zero."
abbrev pub Layout : Tree → Type 0
Layout (gauge s) = Placed
Layout (beside a b) = Layout a × Layout b
Layout (stacked a b) = Layout a × Layout b

-- The size that a gauge has in a layout.
abbrev pub size_in : List Item → Placed → Item
size_in s l = get_or s l.index (size 0 0)

-- "A layout's width and height are the furthest right and upper edges of its gauges"
abbrev pub rightmost : (t : Tree) → Layout t → ℕ
rightmost (gauge s) l = l.across + width (size_in s l)
rightmost (beside a b) l = max (rightmost a l.0) (rightmost b l.1)
rightmost (stacked a b) l = max (rightmost a l.0) (rightmost b l.1)

abbrev pub topmost : (t : Tree) → Layout t → ℕ
topmost (gauge s) l = l.up + height (size_in s l)
topmost (beside a b) l = max (topmost a l.0) (topmost b l.1)
topmost (stacked a b) l = max (topmost a l.0) (topmost b l.1)

-- Every left edge of the part is at v or right of it, and every lower edge at v or above it.
abbrev pub LeftsFrom : (t : Tree) → Layout t → ℕ → Type 0
LeftsFrom (gauge s) l v = v ≤ l.across
LeftsFrom (beside a b) l v = LeftsFrom a l.0 v × LeftsFrom b l.1 v
LeftsFrom (stacked a b) l v = LeftsFrom a l.0 v × LeftsFrom b l.1 v

abbrev pub BottomsFrom : (t : Tree) → Layout t → ℕ → Type 0
BottomsFrom (gauge s) l v = v ≤ l.up
BottomsFrom (beside a b) l v = BottomsFrom a l.0 v × BottomsFrom b l.1 v
BottomsFrom (stacked a b) l v = BottomsFrom a l.0 v × BottomsFrom b l.1 v

-- "At a side-by-side join some whole number across has every right edge of the left part at or below it, and every left edge of the right part at or above it; stacked likewise, upward." With a gap the line is a strip of that width.
abbrev pub Legal : ℕ → (t : Tree) → Layout t → Type 0
Legal gap (gauge s) l = l.index < length s
Legal gap (beside a b) l =
    Legal gap a l.0 × Legal gap b l.1
    × ((v : ℕ) × (rightmost a l.0 ≤ v) × LeftsFrom b l.1 (v + gap))
Legal gap (stacked a b) l =
    Legal gap a l.0 × Legal gap b l.1
    × ((v : ℕ) × (topmost a l.0 ≤ v) × BottomsFrom b l.1 (v + gap))

-- An outline: the opening's height and width.
pub record Outline : Type 0 where
  pub height : ℕ
  pub width : ℕ

abbrev pub outline : ℕ → ℕ → Outline
outline h w = record { height = h; width = w }

-- "it is inside an opening that is no smaller either way"
pub record Inside (o : Outline) (t : Tree) (l : Layout t) : Type 0 where
  pub low : topmost t l ≤ o.height
  pub narrow : rightmost t l ≤ o.width
