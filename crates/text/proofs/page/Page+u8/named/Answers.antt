-- `text::page::Page::named` meets its contract.
-- The words go first, and then the field.
use Rattle.text.specs.Fields.{named}
use Rattle.text.proofs.Pages.{first_fits, rest_fits, both_wrote}
use Rattle.text.proofs.page.Page+u8.named.Goals as goal

pub copy-requires : goal.copy-requires
unfolding named
copy-requires c = first_fits _ _ _ c.requires

pub field-requires : goal.field-requires
unfolding named
field-requires c = rest_fits _ _ _ _ c.copy.ensures c.requires

pub returns : goal.returns
unfolding named
returns c = both_wrote _ _ _ _ c.copy.ensures _ c.field.ensures
