-- What is answered of a place, of which check 21 asks, from either end. The contracts inside the reading calls cite these, and no public one does.
use Rattle.std.specs.Prelude.{ℕ, List}
use Rattle.checks.specs.Answer.{Answer, taken, next}
use Rattle.slicing.specs.Item.{Item, size}
use Rattle.holding.specs.declared.items.Item.{Item as Laid}
use Rattle.maxplus.specs.declared.read_list.End.{End}
use Rattle.maxplus.specs.declared.read_list.End.TheVariants.{Top, Low}
use Rattle.maxplus.specs.Read.{read_item, read_low}

-- An answer with an item that stood in a row.
abbrev pub answered : Answer Laid → Answer Item
answered r = next r (λ z. taken (size z.m z.p))

-- The item at a place from an end.
abbrev pub read_from : End → List ℕ → ℕ → Answer Item
read_from Top a place = read_item a place
read_from Low a place = read_low a place
