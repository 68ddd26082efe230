-- Demand 3 of what the fit call answers and writes, in the demand's own words, with document 02's rib: "The smallest area is then meant among layouts with such strips". At rib 0 a strip is a line.
use Rattle.std.specs.Prelude.{◌≡◌, List, ℕ, ◌*◌}
use Rattle.checks.specs.Answer.{Answer, taken}
use Rattle.slicing.specs.Item.{Item}
use Rattle.slicing.specs.Tree.{Tree}
use Rattle.slicing.specs.Shapes.{shapes}
use Rattle.slicing.specs.Layout.{topmost, rightmost, Outline}
use Rattle.slicing.specs.Fit.{picked, smallest, place, words}
use Rattle.slicing.specs.FitMeans.{FaceFits, NothingFits}
use Rattle.lent.specs.Lent.{written_over}
use Rattle.placing.specs.declared.Fitted.{Fitted}

-- A face was returned: the item z of the face t was picked, and its layout was written.
pub record Returned (rib : ℕ) (t : Tree) (o : Outline) (r : Fitted) (old output : List ℕ) (z : Item) : Type 0 where
  -- "the one that document 01 picks under Fit"
  pub pick : smallest o (shapes rib t) ≡ picked z
  pub written : output ≡ written_over (words t (place rib t z 0 0)) old
  -- "a layout inside the opening"; "For every other layout inside the opening, whatever sizes and places it takes, width times height is at least that area."
  pub fits : FaceFits rib t o z
  -- "The width and height returned are that layout's own, and the area is their product."
  pub height_is : r.height ≡ topmost t (place rib t z 0 0)
  pub width_is : r.width ≡ rightmost t (place rib t z 0 0)
  pub area_is : r.area ≡ r.height * r.width

pub record Demand3 (checks : Answer Tree) (rib : ℕ) (o : Outline) (r : Fitted) (old output : List ℕ) : Type 0 where
  -- "Whatever the file, levels, opening and buffers, each face that the fit returns is a layout inside the opening"
  pub returned : r.number ≡ 0 → (t : Tree) × (checks ≡ taken t) × ((z : Item) × Returned rib t o r old output z)
  -- ""Nothing fits" is answered exactly when every check made before it is passed and no layout inside the opening exists."
  pub nothing_fits : r.number ≡ 19 → (t : Tree) × (checks ≡ taken t) × NothingFits rib t o
  pub exactly_then : (t : Tree) → checks ≡ taken t → NothingFits rib t o → r.number ≡ 19
