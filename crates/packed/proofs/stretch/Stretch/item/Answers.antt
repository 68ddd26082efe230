-- `packed::stretch::Stretch::item` meets its contract.
-- Where the list is read turned, the word is that of the item as far from the other end, with its halves swapped.
use mathlib.Core.Path.{refl}
use Rattle.packed.proofs.Reading.{read_along, read_across}
use Rattle.packed.proofs.stretch.Stretch.item.Goals as goal

pub returns-then-self : goal.returns-then-self
returns-then-self c = read_across _ _ _ _ _ _ _ c.requires.3 c.if-self.true refl c.swapped.ensures

pub returns-else-self : goal.returns-else-self
returns-else-self c = read_along _ _ _ _ _ _ c.requires.3 c.if-self.false refl
