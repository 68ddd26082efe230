-- The part of the fit call after its checks. No public contract cites it.
use Rattle.std.specs.Prelude.{◌≡◌, List, ℕ, ◌*◌, ◌≤◌, length}
use Rattle.checks.specs.Limits.{most_rib, buffer_words}
use Rattle.checks.specs.Answer.{taken}
use Rattle.slicing.specs.Tree.{Tree, gauge_count}
use Rattle.slicing.specs.Shapes.{shapes}
use Rattle.slicing.specs.Layout.{Outline}
use Rattle.slicing.specs.Fit.{smallest}
use Rattle.facefile.specs.Format.{face_of}
use Rattle.placing.specs.Found.{face_found, face_words}
use Rattle.placing.specs.declared.Fitted.{Fitted}

-- A taken file, a rib of at most 20, and room in the scratch and in the output.
pub record Placeable (file : List ℕ) (rib : ℕ) (scratch output : List ℕ) : Type 0 where
  pub tree : Tree
  pub face : face_of file ≡ taken tree
  pub narrow : rib ≤ most_rib
  pub long : buffer_words ≤ length scratch
  pub room : 5 * gauge_count tree ≤ length output

-- The face that is picked was answered, and its layout written.
pub record PlacedFace (rib : ℕ) (t : Tree) (o : Outline) (r : Fitted) (old output : List ℕ) : Type 0 where
  pub answer : r ≡ face_found rib t (smallest o (shapes rib t))
  pub written : output ≡ face_words rib t (smallest o (shapes rib t)) old

unfoldable pub PlacedIn : (file : List ℕ) (rib : ℕ) (o : Outline) (r : Fitted) (old output : List ℕ) → Type 0
PlacedIn file rib o r old output = (t : Tree) → face_of file ≡ taken t → PlacedFace rib t o r old output
