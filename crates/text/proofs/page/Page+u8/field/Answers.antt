-- `text::page::Page::field` meets its contract.
-- The field is the digits and one byte more.
use Rattle.text.specs.Fields.{field}
use Rattle.text.proofs.Pages.{first_fits, rest_fits, both_wrote}
use Rattle.text.proofs.page.Page+u8.field.Goals as goal

pub number-requires : goal.number-requires
unfolding field
number-requires c = first_fits _ _ _ c.requires

pub put-requires : goal.put-requires
unfolding field
put-requires c = rest_fits _ _ _ _ c.number.ensures c.requires

pub returns : goal.returns
unfolding field
returns c = both_wrote _ _ _ _ c.number.ensures _ c.put.ensures
