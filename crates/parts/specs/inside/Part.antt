-- The list of a part in the arena: its head, and its records, which are a range of the file's sizes. No public contract cites it.
use Rattle.std.specs.Prelude.{◌≡◌, ℕ, suc, ◌+◌, ◌-◌, ◌≤◌, ◌<◌, length, get_or}
use mathlib.Core.List.{List, [], ◌∷◌, Memᴰ}
use Rattle.checks.specs.Limits.{most_gauges, most_sizes, most_opening}
use Rattle.slicing.specs.Good.{Ordered}
use Rattle.slicing.specs.Tree.{Tree, size_count}
use Rattle.slicing.specs.Recorded.{Recorded, items, part_recorded}
use Rattle.arena.specs.Arena.{level}
use Rattle.arena.specs.Lazy.{held}
use Rattle.arena.specs.inside.Chain.{All}
use Rattle.arena.specs.inside.Built.{Built}
use Rattle.arena.specs.inside.Backs.{Backed}

-- The first record that is no size's, and so may be a head.
abbrev pub first_head : ℕ
first_head = suc most_sizes

-- The head of the part at place k of the stack.
abbrev pub head_of : ℕ → ℕ
head_of k = first_head + k

-- A join has two spare heads, for parts that are turned, above those of all places of the stack. The first is the older part's.
abbrev pub older_turned : ℕ
older_turned = first_head + most_gauges

abbrev pub newer_turned : ℕ
newer_turned = older_turned + 1

-- The last head.
abbrev pub last_head : ℕ
last_head = newer_turned

-- The head h has the items l, in records from lo up to hi, each with its lent level, and the way back along them.
pub record Part (levels a : List ℕ) (h lo hi : ℕ) (l : List Recorded) : Type 0 where
  pub list : List ℕ
  pub built : Built a h list
  pub backed : Backed a h list
  pub holds : held a h [] list ≡ l
  pub inside : All (λ x. (lo ≤ x) × (x < hi)) list
  pub level_is : All (λ x. level a x ≡ get_or levels (x - 1) 0) list

-- A list that can be merged: ordered, with no number above what 64 gauges and the ribs between them come to, and not too long.
pub record Suits (l : List Recorded) : Type 0 where
  pub ordered : Ordered (items l)
  pub some : (x : Recorded) → Memᴰ x l → 1 ≤ x.item.m
  pub low : (x : Recorded) → Memᴰ x l → (x.item.m ≤ most_opening) × (x.item.p ≤ most_opening)
  pub few : length l ≤ most_sizes

-- The parts of a stack, the newest first, have their heads and, one after the other, the records below hi.
abbrev pub Parts : ℕ → List ℕ → List ℕ → List Tree → ℕ → Type 0
Parts gap levels a [] hi = hi ≡ 1
Parts gap levels a (t ∷ stack) hi =
    (lo : ℕ) × (hi ≡ lo + size_count t) × Part levels a (head_of (length stack)) lo hi (part_recorded gap lo t) × Parts gap levels a stack lo
