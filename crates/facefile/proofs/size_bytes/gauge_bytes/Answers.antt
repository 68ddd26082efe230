-- `facefile::size_bytes::gauge_bytes` meets its contract.
-- A refused file has no size bytes, and the search finds those of any other.
use mathlib.Core.Path.{sym, ◌∙◌}
use Rattle.facefile.proofs.Answered.{face_tree, no_face}
use Rattle.facefile.proofs.size_bytes.gauge_bytes.Goals as goal

pub returns-then-is_err : goal.returns-then-is_err
returns-then-is_err c = no_face _ _ _ c.counts.ensures (sym c.is_err.ensures.value ∙ c.if-is_err.true)

pub find_sizes-requires : goal.find_sizes-requires
find_sizes-requires c = face_tree _ _ c.counts.ensures (sym c.is_err.ensures.value ∙ c.if-is_err.false)
