-- `rendering::lines::write_item` meets its contract.
-- The line is its two fields, written in turn.
use Rattle.text.proofs.Pages.{first_fits, rest_fits, both_wrote}
use Rattle.rendering.specs.Text.{item_line}
use Rattle.rendering.proofs.lines.write_item.Goals as goal

pub field-requires : goal.field-requires
unfolding item_line
field-requires c = first_fits _ _ _ c.requires

pub field-requires-2 : goal.field-requires-2
unfolding item_line
field-requires-2 c = rest_fits _ _ _ _ c.field.ensures c.requires

pub returns : goal.returns
unfolding item_line
returns c = both_wrote _ _ _ _ c.field.ensures _ c.field-2.ensures
