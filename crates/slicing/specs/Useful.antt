-- Document 02, Paper 1: the list of a gauge whose sizes stand "in catalogue order, with repeats, and with sizes that no face would use", and the number that each size of it has.
use Rattle.std.specs.Prelude.{Bool, false, cond, not, ◌&&◌, ◌||◌, List, [], ◌∷◌, ℕ, suc, leb, ltb, eqb}
use Rattle.slicing.specs.Item.{Item, height, width}

-- An equal pair: the same height and the same width.
abbrev pub equal : Item → Item → Bool
equal y z = eqb (height y) (height z) && eqb (width y) (width z)

-- The index of a size among the printed sizes of a gauge: "of equal pairs the lowest number stays".
unfoldable pub index_of : Item → List Item → ℕ
index_of z [] = 0
index_of z (y ∷ l) = cond (equal y z) 0 (suc (index_of z l))

-- The sizes without those to which a test says yes, in the order that they have.
abbrev pub without : (Item → Bool) → List Item → List Item
without test [] = []
without test (z ∷ l) = cond (test z) (without test l) (z ∷ without test l)

-- Each size once, where the first of its equal pairs stands.
abbrev pub once : List Item → List Item
once [] = []
once (z ∷ l) = z ∷ without (equal z) (once l)

-- "An item is inferior where another is no taller and no wider": z is inferior to y. An equal pair is not another size.
abbrev pub inferior_to : Item → Item → Bool
inferior_to y z = leb (height y) (height z) && leb (width y) (width z) && not (equal y z)

-- The size is inferior to one of the printed sizes.
abbrev pub inferior : List Item → Item → Bool
inferior [] z = false
inferior (y ∷ l) z = inferior_to y z || inferior l z

-- "its sizes without inferior ones; of equal pairs the lowest number stays"
abbrev pub useful : List Item → List Item
useful s = without (inferior s) (once s)

-- The size before the first that is lower.
abbrev pub insert : Item → List Item → List Item
insert z [] = z ∷ []
insert z (y ∷ l) = cond (ltb (height y) (height z)) (z ∷ y ∷ l) (y ∷ insert z l)

-- "ordered by strictly falling height"
abbrev pub by_height : List Item → List Item
by_height [] = []
by_height (z ∷ l) = insert z (by_height l)

-- "The list of a gauge is then its sizes without inferior ones; of equal pairs the lowest number stays." Like the list of any part, it "is ordered by strictly falling height and strictly rising width".
unfoldable pub gauge_shapes : List Item → List Item
gauge_shapes s = by_height (useful s)
