-- Document 01, "Fit": what is answered of a face whose item was picked or not, and what is written of it.
use Rattle.std.specs.Prelude.{Result, Ok, Err, List, ℕ, length}
use Rattle.checks.specs.Check.{number_of}
use Rattle.checks.specs.declared.Check.{Check}
use Rattle.checks.specs.declared.Check.TheVariants.{Fits}
use Rattle.slicing.specs.Item.{height, width}
use Rattle.slicing.specs.Tree.{Tree}
use Rattle.slicing.specs.Shapes.{shapes}
use Rattle.slicing.specs.Fit.{Pick, nothing, picked, area, place, words}
use Rattle.lent.specs.Lent.{written_over}
use Rattle.placing.specs.declared.Placed.{Placed}
use Rattle.placing.specs.declared.Fitted.{Fitted}

-- "Fields beside the number are then zero."
abbrev pub no_face : ℕ → Fitted
no_face n = record { number = n; height = 0; width = 0; area = 0; count = 0 }

-- A face that is placed is answered with the number 0, a check that fails with its number alone.
abbrev pub fitted_as : Result Placed Check → Fitted
fitted_as (Ok p) = record { number = 0; height = p.height; width = p.width; area = p.area; count = p.count }
fitted_as (Err c) = no_face (number_of c)

-- "Does a layout fit? 19." "Returned: height and width of the layout written, area as their product, item count as the length of the root's list."
abbrev pub face_found : ℕ → Tree → Pick → Fitted
face_found rib t nothing = no_face (number_of Fits)
face_found rib t (picked z) = record { number = 0; height = height z; width = width z; area = area z; count = length (shapes rib t) }

-- "Output, per gauge: size number within the gauge, across, up, width, height." "words after 5g stay". "19 leaves the output".
abbrev pub face_words : ℕ → Tree → Pick → List ℕ → List ℕ
face_words rib t nothing old = old
face_words rib t (picked z) old = written_over (words t (place rib t z 0 0)) old
