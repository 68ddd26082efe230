-- `searching::search::may_pass` meets its contract.
-- The m of a record is compared with the key, and record 0, which stands for none, has an m below any key.
use Rattle.std.proofs.Common.{rules}
use Rattle.searching.proofs.SearchLaws.{floor_passes}
use Rattle.searching.proofs.search.may_pass.Goals as goal

pub get-requires : goal.get-requires
get-requires c = (c.requires.0.has, search rules)

pub returns : goal.returns
returns c = floor_passes _ _ _ _ c.requires c.get.ensures
