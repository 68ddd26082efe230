-- Document 01, "Outer sizes": the merge of Stockmeyer, as source document 004 states it in section II, Fig. 3, and turning.
use Rattle.std.specs.Prelude.{true, false, List, [], ◌∷◌, map, reverse, ℕ, ◌+◌, ltb, eqb}
use Rattle.slicing.specs.Item.{Item}

-- One item of each list with the m of either: the sum of the p, and the gap between the two parts. In document 01 parts touch, and the gap is 0.
abbrev pub sum : ℕ → ℕ → Item → Item → Item
sum gap m a b = record { m = m; p = a.p + gap + b.p }

-- The first item of larger m goes, with the other's p added to its own; where both have that m, both go. It ends with either list. A is the older part's list; m falls down both.
unfoldable pub merge : ℕ → List Item → List Item → List Item
merge gap [] bs = []
merge gap (a ∷ l) [] = []
merge gap (a ∷ l) (b ∷ k) =
    elim (ltb b.m a.m) [
      | true ↦ sum gap a.m a b ∷ merge gap l (b ∷ k)
      | false ↦ elim (eqb a.m b.m) [
        | true ↦ sum gap a.m a b ∷ merge gap l k
        | false ↦ sum gap b.m a b ∷ merge gap (a ∷ l) k
      ]
    ]

-- m and p change places
abbrev pub swap : Item → Item
swap z = record { m = z.p; p = z.m }

-- "m and p change places and the order reverses"
unfoldable pub turn : List Item → List Item
turn l = reverse (map swap l)
