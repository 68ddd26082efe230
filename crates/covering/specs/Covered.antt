-- Document 02, Paper 7: the areas of a layout's gauges, and the unit squares of its face that none of them covers.
use Rattle.std.specs.Prelude.{Bool, false, cond, not, ◌&&◌, ◌||◌, List, [], ◌∷◌, ◌++◌, ℕ, zero, suc, ◌+◌, ◌*◌, leb, ltb}
use Rattle.slicing.specs.Item.{Item}
use Rattle.slicing.specs.Tree.{Tree, gauge, beside, stacked}
use Rattle.slicing.specs.Layout.{Layout, size_in, rightmost, topmost}
use Rattle.slicing.specs.Fit.{area}
use Rattle.slicing.specs.Strips.{Rectangle, rectangles}

-- The sizes that the gauges have in a layout, in gauge order, which is that of the file.
abbrev pub sizes_in : (t : Tree) → Layout t → List Item
sizes_in (gauge s) l = size_in s l ∷ []
sizes_in (beside a b) l = sizes_in a l.0 ++ sizes_in b l.1
sizes_in (stacked a b) l = sizes_in a l.0 ++ sizes_in b l.1

-- The sum of the areas of sizes.
unfoldable pub total : List Item → ℕ
total [] = 0
total (z ∷ l) = area z + total l

-- "Used is the sum of the areas above it", those of the gauges.
abbrev pub used : (t : Tree) → Layout t → ℕ
used t l = total (sizes_in t l)

-- The unit square with its lower left corner at u, v lies in the rectangle.
unfoldable pub covers : Rectangle → ℕ → ℕ → Bool
covers x u v = leb x.left u && ltb u x.right && (leb x.lower v && ltb v x.upper)

-- It lies in one of them.
unfoldable pub covered : List Rectangle → ℕ → ℕ → Bool
unfolding covers
covered [] u v = false
covered (x ∷ l) u v = covers x u v || covered l u v

-- How many numbers below n pass a test.
unfoldable pub count : ℕ → (ℕ → Bool) → ℕ
count zero f = 0
count (suc n) f = count n f + cond (f n) 1 0

-- How many unit squares pass a test, of all in a face so wide and so high: column by column.
unfoldable pub squares : ℕ → ℕ → (ℕ → ℕ → Bool) → ℕ
unfolding count
squares zero high f = 0
squares (suc wide) high f = squares wide high f + count high (f wide)

-- "Blank is the number of unit squares of the face that no gauge covers, ribs included."
unfoldable pub blank : (t : Tree) → Layout t → ℕ
unfolding covered squares
blank t l = squares (rightmost t l) (topmost t l) (λ u v. not (covered (rectangles t l) u v))

-- The area of the layout's own face.
abbrev pub face_area : (t : Tree) → Layout t → ℕ
face_area t l = topmost t l * rightmost t l
