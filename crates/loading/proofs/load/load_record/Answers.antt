-- `loading::load::load_record` meets its contract.
-- Its first three stores are those of `written`, in the same order, and the links are those that `prepend` puts.
use borrow.Author.Rules.{rules}
use Rattle.loading.proofs.Written.{stored_level, stored_loaded}
use Rattle.loading.proofs.load.load_record.Goals as goal

pub prepend-requires : goal.prepend-requires
prepend-requires c =
    let level_is = stored_level _ _ _ _ _ _ _ _ _ _ c.store.ensures c.store-2.ensures c.store-3.ensures c.store-4.ensures c.requires.0.has in
    search rules

pub returns : goal.returns
returns c =
    stored_loaded _ _ _ _ _ _ _ _ _ _ c.store.ensures c.store-2.ensures c.store-3.ensures c.store-4.ensures c.requires.0.has _ _ c.prepend.ensures
