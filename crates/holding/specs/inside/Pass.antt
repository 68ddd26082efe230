-- What the parts of the pass over a list answer.
use Rattle.std.specs.Prelude.{◌≡◌, List, [], ℕ, ◌≤◌, ◌<◌, leb, length, get_or, Option, Some, None}
use Rattle.checks.specs.declared.Check.TheVariants.{Buffers}
use Rattle.checks.specs.Limits.{most_sizes, buffer_words}
use Rattle.checks.specs.Answer.{Answer, taken, ask, next, outcome}
use Rattle.slicing.specs.Item.{Item, size}
use Rattle.slicing.specs.Recorded.{Recorded, items}
use Rattle.arena.specs.Arena.{level, back}
use Rattle.arena.specs.Lazy.{lazy_list}
use Rattle.holding.specs.declared.items.Item.{Item as Laid}

-- The list that an arena holds, where it is long enough: checks 17 and 20.
unfoldable pub arena_list : List ℕ → Answer (List Recorded)
arena_list a = ask (leb buffer_words (length a)) Buffers (lazy_list a)

-- An item as the row has it.
abbrev pub in_row : Item → Laid
in_row z = record { m = z.m; p = z.p }

-- The items stand in the row, from its start.
pub record Lies (l : List Item) (row : List Laid) : Type 0 where
  pub at : (i : ℕ) (d : Laid) → i < length l → get_or row i d ≡ in_row (get_or l i (size 0 0))

-- What a pass finds of the list r that an arena holds: the same refusal, or how many items it has, which are at most as many as a list can have and stand in the row from its start.
pub record LaidOut (r : Answer (List Recorded)) (row : List Laid) (c : Answer ℕ) : Type 0 where
  pub answer : c ≡ next r (λ l. taken (length l))
  pub few : outcome c 0 (λ n. n) ≤ most_sizes
  pub lies : Lies (outcome r [] items) row

-- Record r may stand on a list after `count` others, of which `last` is the last: a list has at most 512 records, numbered 1 to 512, of levels 1 to 8, each with the record before it as its back word.
pub record Stands (a : List ℕ) (count last r : ℕ) : Type 0 where
  pub room : count < most_sizes
  pub few : r ≤ most_sizes
  pub behind : back a r ≡ last
  pub some : 1 ≤ level a r
  pub most : level a r ≤ 8

-- An item may follow the one before it, where there is one: m falls and p rises.
abbrev pub Follows : Option Laid → Laid → Type 0
Follows None x = Unit {0}
Follows (Some y) x = (x.m < y.m) × (y.p < x.p)
