-- Demand 3: what a pick says of all layouts.
use Rattle.std.specs.Prelude.{◌≡◌, ℕ, ◌*◌, ◌≤◌}
use Rattle.slicing.specs.Item.{Item, height, width}
use Rattle.slicing.specs.Tree.{Tree}
use Rattle.slicing.specs.Layout.{Layout, rightmost, topmost, Legal, Outline, Inside}
use Rattle.slicing.specs.Fit.{Pick, nothing, picked, place}

-- "A layout takes one listed size per gauge and any whole-number places from zero up, and has at each join a straight line between the two parts, on the sides the file names. Whatever the file, levels, opening and buffers, each face that the fit returns is a layout inside the opening, the one that document 01 picks under Fit. The width and height returned are that layout's own, and the area is their product. For every other layout inside the opening, whatever sizes and places it takes, width times height is at least that area."
pub record FaceFits (gap : ℕ) (t : Tree) (o : Outline) (z : Item) : Type 0 where
  pub legal : Legal gap t (place gap t z 0 0)
  pub inside : Inside o t (place gap t z 0 0)
  pub own_height : topmost t (place gap t z 0 0) ≡ height z
  pub own_width : rightmost t (place gap t z 0 0) ≡ width z
  pub least : (l : Layout t) → Legal gap t l → Inside o t l → height z * width z ≤ topmost t l * rightmost t l

-- Of the other answer: "Nothing fits" is answered exactly when every check made before it is passed and no layout inside the opening exists.
pub record NothingFits (gap : ℕ) (t : Tree) (o : Outline) : Type 0 where
  pub none : (l : Layout t) → Legal gap t l → Inside o t l → ⊥

abbrev pub FitMeans : ℕ → Tree → Outline → Pick → Type 0
FitMeans gap t o nothing = NothingFits gap t o
FitMeans gap t o (picked z) = FaceFits gap t o z
