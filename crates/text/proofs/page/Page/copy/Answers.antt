-- `text::page::Page::copy` meets its contract.
-- The values are copied to the page's place, by `copied`.
use mathlib.Core.Path.{refl}
use borrow.Author.Rules.{rules}
use Rattle.text.proofs.Copies.{copied}
use Rattle.text.proofs.page.Page.copy.Goals as goal

pub returns : goal.returns
returns g c = record { same = refl; appended = copied _ _ _ _ c.requires.room (search rules) }
