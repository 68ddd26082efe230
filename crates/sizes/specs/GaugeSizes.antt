-- Document 01, "The face file" and "The checks, as questions": the sizes of a gauge, taken in turn, or the first of checks 8 and 9 that they fail. Document 02 has files whose sizes are not asked for their order (Paper 1), and sizes in words (Paper 3).
use Rattle.std.specs.Prelude.{Bool, true, cond, ◌&&◌, List, [], ◌∷◌, ℕ, zero, suc, ◌+◌, ◌*◌, get_or, drop, leb, ltb}
use Rattle.checks.specs.declared.Check.TheVariants.{Limits, Order}
use Rattle.checks.specs.Answer.{Answer, taken, ask, next}
use Rattle.slicing.specs.Item.{Item, size, height, width}
use Rattle.sizes.specs.Rules.{Rules, asks_order}

-- 16-bit fields have the high byte first: the field at a place of the bytes.
abbrev pub field : List ℕ → ℕ → ℕ
field s at = 256 * get_or s at 0 + get_or s (at + 1) 0

abbrev pub within : ℕ → ℕ → ℕ → Bool
within low high x = leb low x && leb x high

-- For each size a 16-bit height and a 16-bit width.
abbrev pub size_at : List ℕ → Item
size_at bytes = size (field bytes 0) (field bytes 2)

-- The rules of a file of some version: four bytes a size.
abbrev pub version_rules : ℕ → Rules
version_rules v = record { version = v; step = 4; size_of = size_at }

-- Height and width both 1 to 1,000?
abbrev pub limited : Item → Bool
limited z = within 1 1_000 (height z) && within 1 1_000 (width z)

-- Height less and width more than the size before?
abbrev pub ordered : Item → Item → Bool
ordered y z = ltb (height z) (height y) && ltb (width y) (width z)

-- The same, where it is asked.
abbrev pub in_order : Rules → Item → Item → Bool
in_order rules y z = cond (asks_order rules) (ordered y z) true

-- For each size in turn, where y is the size before: 8, then 9.
unfoldable pub sizes_after : Rules → Item → ℕ → List ℕ → Answer (List Item)
sizes_after rules y zero bytes = taken []
sizes_after rules y (suc k) bytes =
    ask (limited (rules.size_of bytes)) Limits
    (ask (in_order rules y (rules.size_of bytes)) Order
    (next (sizes_after rules (rules.size_of bytes) k (drop rules.step bytes)) (λ zs. taken (rules.size_of bytes ∷ zs))))

-- The first size has none before it.
unfoldable pub sizes_from : Rules → ℕ → List ℕ → Answer (List Item)
sizes_from rules zero bytes = taken []
sizes_from rules (suc k) bytes =
    ask (limited (rules.size_of bytes)) Limits
    (next (sizes_after rules (rules.size_of bytes) k (drop rules.step bytes)) (λ zs. taken (rules.size_of bytes ∷ zs)))
