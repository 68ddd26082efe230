-- `gauges::file_bytes::write_field` meets its contract.
-- What it copies are the field's two bytes, by `last_two`.
use Rattle.text.proofs.Pages.{same_fit, same_wrote}
use mathlib.Core.Path.{sym}
use Rattle.gauges.proofs.FileBytes.{last_two}
use Rattle.gauges.proofs.file_bytes.write_field.Goals as goal

pub copy-requires : goal.copy-requires
copy-requires c = same_fit _ _ _ (sym (last_two _ _ c.requires.0 c.to_be_bytes-bytes.ensures)) c.requires.1

pub returns : goal.returns
returns c = same_wrote _ _ _ _ (last_two _ _ c.requires.0 c.to_be_bytes-bytes.ensures) c.copy.ensures
