-- `sizes::field::size_at` meets its contract: the two fields from the place on are the size there.
-- A field of what is left at a place is the field that far behind the place.
use Rattle.sizes.proofs.SizeChecks.{size_at_is}
use Rattle.sizes.proofs.field.size_at.Goals as goal

pub returns : goal.returns
returns c =
    record { size_value = size_at_is c.args.file.now c.args.at _ _ c.field.ensures.0 c.field-2.ensures.0; fields_fit = (c.field.ensures.1, c.field-2.ensures.1) }
