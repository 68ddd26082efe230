-- `materiallines::lines::write_gauge` meets its contract.
-- The line is its four fields, written in turn.
use Rattle.text.proofs.Pages.{first_fits, rest_fits, both_wrote}
use Rattle.materiallines.specs.Lines.{gauge_line}
use Rattle.materiallines.proofs.lines.write_gauge.Goals as goal

pub field-requires : goal.field-requires
unfolding gauge_line
field-requires c = first_fits _ _ _ c.requires

pub field-requires-2 : goal.field-requires-2
unfolding gauge_line
field-requires-2 c = first_fits _ _ _ (rest_fits _ _ _ _ c.field.ensures c.requires)

pub field-requires-3 : goal.field-requires-3
unfolding gauge_line
field-requires-3 c =
    first_fits _ _ _ (rest_fits _ _ _ _ c.field-2.ensures (rest_fits _ _ _ _ c.field.ensures c.requires))

pub field-requires-4 : goal.field-requires-4
unfolding gauge_line
field-requires-4 c =
    rest_fits _ _ _ _ c.field-3.ensures (rest_fits _ _ _ _ c.field-2.ensures (rest_fits _ _ _ _ c.field.ensures c.requires))

pub returns : goal.returns
unfolding gauge_line
returns c =
    both_wrote _ _ _ _ c.field.ensures _
    (both_wrote _ _ _ _ c.field-2.ensures _ (both_wrote _ _ _ _ c.field-3.ensures _ c.field-4.ensures))
