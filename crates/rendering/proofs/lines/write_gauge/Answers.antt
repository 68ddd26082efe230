-- `rendering::lines::write_gauge` meets its contract.
-- The line is its four fields, written in turn.
use Rattle.text.proofs.Pages.{first_fits, rest_fits, both_wrote}
use Rattle.rendering.specs.Text.{gauge_line}
use Rattle.rendering.proofs.lines.write_gauge.Goals as goal

pub named-requires : goal.named-requires
unfolding gauge_line
named-requires c = first_fits _ _ _ c.requires

pub named-requires-2 : goal.named-requires-2
unfolding gauge_line
named-requires-2 c = first_fits _ _ _ (rest_fits _ _ _ _ c.named.ensures c.requires)

pub named-requires-3 : goal.named-requires-3
unfolding gauge_line
named-requires-3 c =
    first_fits _ _ _ (rest_fits _ _ _ _ c.named-2.ensures (rest_fits _ _ _ _ c.named.ensures c.requires))

pub field-requires : goal.field-requires
unfolding gauge_line
field-requires c =
    rest_fits _ _ _ _ c.named-3.ensures (rest_fits _ _ _ _ c.named-2.ensures (rest_fits _ _ _ _ c.named.ensures c.requires))

pub returns : goal.returns
unfolding gauge_line
returns c =
    both_wrote _ _ _ _ c.named.ensures _
    (both_wrote _ _ _ _ c.named-2.ensures _ (both_wrote _ _ _ _ c.named-3.ensures _ c.field.ensures))
