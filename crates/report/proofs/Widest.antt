-- Of every taken file an item is picked for the widest opening, so `faces` prints the text of a face and never `refused 19`.
-- A face has an item, and every item of a face of at most 64 gauges is at most 64,000 both ways.
use mathlib.Core.Path.{◌≡◌, refl, ap, ◌∙◌}
use mathlib.Core.List.{List}
use Prim.Native.Nat.{ℕ}
use native.Mathlib.Omega.{arith}
use lib.ListN.{get_or}
use Rattle.checks.specs.Answer.{taken}
use Rattle.slicing.specs.Item.{Item, size}
use Rattle.slicing.specs.Tree.{Tree}
use Rattle.slicing.specs.Shapes.{shapes}
use Rattle.slicing.specs.Fit.{Pick, nothing, picked, smallest, place, words}
use Rattle.slicing.proofs.ShapeLaws.{shapes_filled}
use Rattle.slicing.proofs.Reach.{shapes_touching}
use Rattle.slicing.proofs.Picking.{nothing_within}
use Rattle.facefile.specs.Format.{face_of}
use Rattle.facefile.proofs.Taken.{face_taken}
use Rattle.packed.proofs.StoredLists.{place_in}
use Rattle.rendering.specs.Text.{faces_text}
use Rattle.report.specs.Faces.{widest, pick_printed, faces_printed}

pub something_fits : (file : List ℕ) (t : Tree) → face_of file ≡ taken t → smallest widest (shapes 0 t) ≡ nothing → ⊥
something_fits file t face e =
    let known = face_taken file t face in
    let few = known.few in
    let first = get_or (shapes 0 t) 0 (size 0 0) in
    let is_in = place_in (shapes 0 t) 0 (shapes_filled 0 t known.good) in
    let low = shapes_touching t known.good first is_in in
    (nothing_within widest (shapes 0 t) e).none first is_in (record { low = omega arith; narrow = omega arith })

-- So the text of a taken file is that of an item that is picked.
pub face_printed : (file : List ℕ) (t : Tree) → face_of file ≡ taken t → (z : Item) × (smallest widest (shapes 0 t) ≡ picked z) × (faces_printed (face_of file) ≡ faces_text (shapes 0 t) z (words t (place 0 t z 0 0)))
unfolding faces_printed
face_printed file t face = by (smallest widest (shapes 0 t)) refl
  where
    by : (p : Pick) → smallest widest (shapes 0 t) ≡ p → (z : Item) × (smallest widest (shapes 0 t) ≡ picked z) × (faces_printed (face_of file) ≡ faces_text (shapes 0 t) z (words t (place 0 t z 0 0)))
    by nothing e = absurd (something_fits file t face e)
    by (picked z) e = (z, e, ap faces_printed face ∙ ap (pick_printed t) e)
