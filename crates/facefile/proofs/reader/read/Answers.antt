-- `facefile::reader::read` meets its contract.
-- It is what `counts` answers, as a number with the counts beside it.
use mathlib.Core.Path.{ap, ◌∙◌}
use Rattle.facefile.specs.Format.{face_of}
use Rattle.facefile.specs.Summary.{answered}
use Rattle.facefile.proofs.Reading.{answer_summary}
use Rattle.facefile.proofs.reader.read.Goals as goal

pub returns : goal.returns
returns c = c.from.ensures ∙ ap answered c.counts.ensures ∙ answer_summary (face_of c.args.file.now)
