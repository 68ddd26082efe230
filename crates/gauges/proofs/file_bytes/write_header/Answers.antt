-- `gauges::file_bytes::write_header` meets its contract.
-- The mark, the version and the number of entries are written in turn.
use native.Mathlib.Omega.{arith}
use mathlib.Core.List.{[], ◌∷◌}
use Rattle.written.specs.FileOf.{field_bytes}
use Rattle.text.proofs.Pages.{first_fits, rest_fits, both_wrote}
use Rattle.gauges.proofs.file_bytes.write_header.Goals as goal

pub copy-requires : goal.copy-requires
copy-requires c = first_fits _ (0x46 ∷ 0x43 ∷ 0x45 ∷ []) _ c.requires.1

pub write_field-requires : goal.write_field-requires
write_field-requires c = (omega arith, first_fits _ (field_bytes 2) _ (rest_fits _ (0x46 ∷ 0x43 ∷ 0x45 ∷ []) _ _ c.copy.ensures c.requires.1))

pub write_field-requires-2 : goal.write_field-requires-2
write_field-requires-2 c = (c.requires.0, rest_fits _ (field_bytes 2) _ _ c.write_field.ensures (rest_fits _ (0x46 ∷ 0x43 ∷ 0x45 ∷ []) _ _ c.copy.ensures c.requires.1))

pub returns : goal.returns
returns c = both_wrote _ _ _ _ c.copy.ensures _ (both_wrote _ _ _ _ c.write_field.ensures _ c.write_field-2.ensures)
