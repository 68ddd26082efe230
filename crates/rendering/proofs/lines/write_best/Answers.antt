-- `rendering::lines::write_best` meets its contract.
-- The line is its three fields, written in turn.
use Rattle.text.proofs.Pages.{first_fits, rest_fits, both_wrote}
use Rattle.rendering.specs.Text.{best_line}
use Rattle.rendering.proofs.lines.write_best.Goals as goal

pub named-requires : goal.named-requires
unfolding best_line
named-requires c = first_fits _ _ _ c.requires

pub field-requires : goal.field-requires
unfolding best_line
field-requires c = first_fits _ _ _ (rest_fits _ _ _ _ c.named.ensures c.requires)

pub field-requires-2 : goal.field-requires-2
unfolding best_line
field-requires-2 c = rest_fits _ _ _ _ c.field.ensures (rest_fits _ _ _ _ c.named.ensures c.requires)

pub returns : goal.returns
unfolding best_line
returns c = both_wrote _ _ _ _ c.named.ensures _ (both_wrote _ _ _ _ c.field.ensures _ c.field-2.ensures)
