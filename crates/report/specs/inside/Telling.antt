-- What the functions inside `faces_text` ask of a taken file, and what they leave. No public contract cites it.
use Rattle.std.specs.Prelude.{◌≡◌, Result, Ok, Err, List, ℕ, ◌*◌, ◌≤◌, ◌<◌, length, get_or, take}
use Rattle.checks.specs.Check.{number_of}
use Rattle.checks.specs.declared.Check.{Check}
use Rattle.checks.specs.Answer.{taken}
use Rattle.text.specs.Printing.{Printed, Counted}
use Rattle.rendering.specs.Text.{refused_text}
use Rattle.slicing.specs.Item.{Item}
use Rattle.slicing.specs.Tree.{Tree, gauge_count, size_count}
use Rattle.slicing.specs.Shapes.{shapes}
use Rattle.slicing.specs.Fit.{picked, smallest, place, words}
use Rattle.facefile.specs.Format.{face_of}
use Rattle.writing.specs.Words.{list_words}
use Rattle.placing.specs.declared.Fitted.{Fitted}
use Rattle.placing.specs.Found.{face_found}
use Rattle.report.specs.Faces.{widest}

-- The file means a tree, with so many gauges and sizes.
pub record Tallied (file : List ℕ) (gauges sizes : ℕ) : Type 0 where
  pub tree : Tree
  pub face : face_of file ≡ taken tree
  pub gauges_is : gauges ≡ gauge_count tree
  pub sizes_is : sizes ≡ size_count tree

-- The same, and each of its sizes has a level from 1 to 8.
pub record Levelled (file levels : List ℕ) (gauges : ℕ) : Type 0 where
  pub tallied : Tallied file gauges (length levels)
  pub in_range : (i : ℕ) → i < length levels → (1 ≤ get_or levels i 0) × (get_or levels i 0 ≤ 8)

-- Of the face t, what placing it in the opening answered, the length of its list, and what stands from the start of the outputs of its list and of its layout.
pub record Worked (t : Tree) (face : Fitted) (count : ℕ) (items : List ℕ) (gauges : ℕ) (layout : List ℕ) : Type 0 where
  pub fitted_is : face ≡ face_found 0 t (smallest widest (shapes 0 t))
  pub listed : take (2 * count) items ≡ list_words (shapes 0 t)
  pub laid : (z : Item) → smallest widest (shapes 0 t) ≡ picked z → take (5 * gauges) layout ≡ words t (place 0 t z 0 0)

-- A text of at most so many bytes stands in the buffer, and the answer is its length; or the text is the line of the check that is answered, and the buffer is as it was.
abbrev pub Told : (most : ℕ) (text old : List ℕ) → Result ℕ Check → (new : List ℕ) → Type 0
Told most text old (Ok r) new = Printed text old new r × Counted most new r
Told most text old (Err c) new = (text ≡ refused_text (number_of c)) × (new ≡ old)
