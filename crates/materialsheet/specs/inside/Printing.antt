-- The part of the sheet call after its checks. No public contract cites it.
use Rattle.std.specs.Prelude.{◌≡◌, List, ℕ, ◌≤◌, length}
use Rattle.checks.specs.Limits.{most_rib, buffer_words}
use Rattle.checks.specs.Answer.{taken}
use Rattle.slicing.specs.Tree.{Tree, gauge_count}
use Rattle.slicing.specs.Shapes.{shapes}
use Rattle.slicing.specs.Layout.{Outline}
use Rattle.slicing.specs.Fit.{smallest}
use Rattle.facefile.specs.Format.{face_of}
use Rattle.materiallines.specs.Lines.{sheet_bytes}
use Rattle.materialsheet.specs.Sheet.{sheet_found, sheet_written}
use Rattle.materialsheet.specs.declared.Printed.{Printed}

-- A taken file of so many gauges, a rib of at most 20, and room in the scratch and in the output.
pub record Printable (file : List ℕ) (gauges rib : ℕ) (scratch output : List ℕ) : Type 0 where
  pub tree : Tree
  pub face : face_of file ≡ taken tree
  pub counted : gauges ≡ gauge_count tree
  pub narrow : rib ≤ most_rib
  pub long : buffer_words ≤ length scratch
  pub room : sheet_bytes gauges ≤ length output

-- The sheet of the face that is picked was answered and written.
pub record PrintedFace (rib : ℕ) (t : Tree) (o : Outline) (r : Printed) (old output : List ℕ) : Type 0 where
  pub answer : r ≡ sheet_found rib t (smallest o (shapes rib t))
  pub written : output ≡ sheet_written rib t (smallest o (shapes rib t)) old

unfoldable pub PrintedIn : (file : List ℕ) (rib : ℕ) (o : Outline) (r : Printed) (old output : List ℕ) → Type 0
PrintedIn file rib o r old output = (t : Tree) → face_of file ≡ taken t → PrintedFace rib t o r old output
