-- Document 02, Paper 7: what a taken sheet call leaves, in the paper's own words.
use Rattle.std.specs.Prelude.{◌≡◌, List, ℕ, ◌+◌, ◌≤◌, length, take, drop}
use Rattle.slicing.specs.Item.{Item}
use Rattle.slicing.specs.Tree.{Tree, gauge_count}
use Rattle.slicing.specs.Shapes.{shapes}
use Rattle.slicing.specs.Layout.{Outline}
use Rattle.slicing.specs.Fit.{picked, smallest, area, place}
use Rattle.slicing.specs.FitMeans.{FaceFits}
use Rattle.lent.specs.Lent.{Lent}
use Rattle.shapes.specs.Listing.{RootList}
use Rattle.covering.specs.Covered.{sizes_in, used, blank}
use Rattle.materiallines.specs.Lines.{sheet_text, sheet_bytes}
use Rattle.materialsheet.specs.declared.Printed.{Printed}

-- A sheet was printed of the face t, of its item z.
pub record SheetMeans (levels : List ℕ) (rib : ℕ) (o : Outline) (old : Lent) (r : Printed) (new : Lent) (t : Tree) (z : Item) : Type 0 where
  -- "The sheet's layout ... [is] the fit's"
  pub pick : smallest o (shapes rib t) ≡ picked z
  pub fits : FaceFits rib t o z
  -- "It has one line a gauge, in gauge order: number, width, height, area. Then come the lines `used`, `blank` and `face`, each with its number."
  pub text : take r.length new.output ≡ sheet_text (sizes_in t (place rib t z 0 0)) (blank t (place rib t z 0 0)) (area z)
  -- One line a gauge of the tree.
  pub lines : length (sizes_in t (place rib t z 0 0)) ≡ gauge_count t
  -- "Used and blank must add up to the face on every sheet."
  pub adds_up : used t (place rib t z 0 0) + blank t (place rib t z 0 0) ≡ area z
  -- "which check 18 wants 64 bytes long and 32 more a gauge": the text always fits.
  pub few : r.length ≤ sheet_bytes (gauge_count t)
  -- "bytes after the text stay"
  pub later : drop r.length new.output ≡ drop r.length old.output
  -- "its arena" is "the fit's"
  pub root : RootList levels rib new.arena t
