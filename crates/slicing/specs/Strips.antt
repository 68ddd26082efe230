-- Document 02, Paper 2: the strips of a layout, said of its gauges' rectangles alone.
use mathlib.Core.List.{List, [], ◌∷◌, ◌++◌, Memᴰ}
use Rattle.std.specs.Prelude.{◌⊎◌, ℕ, ◌+◌, ◌≤◌, ◌<◌, length, get_or}
use Rattle.slicing.specs.Item.{height, width}
use Rattle.slicing.specs.Tree.{Tree, gauge, beside, stacked}
use Rattle.slicing.specs.Layout.{Layout, size_in}

-- A gauge in a layout, by its four edges.
pub record Rectangle : Type 0 where
  pub left : ℕ
  pub right : ℕ
  pub lower : ℕ
  pub upper : ℕ

-- The gauges of a layout, in file order.
abbrev pub rectangles : (t : Tree) → Layout t → List Rectangle
rectangles (gauge s) l =
    record {
      left = l.across;
      right = l.across + width (size_in s l);
      lower = l.up;
      upper = l.up + height (size_in s l);
    }
    ∷ []
rectangles (beside a b) l = rectangles a l.0 ++ rectangles b l.1
rectangles (stacked a b) l = rectangles a l.0 ++ rectangles b l.1

-- Each gauge has one of its printed sizes.
abbrev pub HasSizes : (t : Tree) → Layout t → Type 0
HasSizes (gauge s) l = l.index < length s
HasSizes (beside a b) l = HasSizes a l.0 × HasSizes b l.1
HasSizes (stacked a b) l = HasSizes a l.0 × HasSizes b l.1

-- "a strip of that width, with the first part's gauges at or before it and the second part's at or after it": across, and upward.
pub record StripAcross (gap : ℕ) (first second : List Rectangle) : Type 0 where
  pub start : ℕ
  pub before : (x : Rectangle) → Memᴰ x first → x.right ≤ start
  pub after : (y : Rectangle) → Memᴰ y second → start + gap ≤ y.left

pub record StripUpward (gap : ℕ) (first second : List Rectangle) : Type 0 where
  pub start : ℕ
  pub before : (x : Rectangle) → Memᴰ x first → x.upper ≤ start
  pub after : (y : Rectangle) → Memᴰ y second → start + gap ≤ y.lower

-- A strip at each join, between the two parts of that join alone: "gauges outside the join may cross its prolongation".
abbrev pub Strips : ℕ → (t : Tree) → Layout t → Type 0
Strips gap (gauge s) l = Unit {0}
Strips gap (beside a b) l = Strips gap a l.0 × Strips gap b l.1 × StripAcross gap (rectangles a l.0) (rectangles b l.1)
Strips gap (stacked a b) l = Strips gap a l.0 × Strips gap b l.1 × StripUpward gap (rectangles a l.0) (rectangles b l.1)

-- x ends the gap or more before y starts, across or upward.
abbrev pub Clear : ℕ → Rectangle → Rectangle → Type 0
Clear gap x y = (x.right + gap ≤ y.left) ⊎ (x.upper + gap ≤ y.lower)

-- Each of the list against all after it.
abbrev pub AllClear : ℕ → List Rectangle → Type 0
AllClear gap [] = Unit {0}
AllClear gap (x ∷ l) = ((y : Rectangle) → Memᴰ y l → Clear gap x y) × AllClear gap l

-- The gauge at an index from 0, in file order; no gauge covers nothing.
abbrev pub gauge_in : (t : Tree) → Layout t → ℕ → Rectangle
gauge_in t l i = get_or (rectangles t l) i (record { left = 0; right = 0; lower = 0; upper = 0 })

-- The unit square with its lower left corner at u, v lies in the rectangle.
pub record Covers (x : Rectangle) (u v : ℕ) : Type 0 where
  pub from_left : x.left ≤ u
  pub to_right : u < x.right
  pub from_lower : x.lower ≤ v
  pub to_upper : v < x.upper
