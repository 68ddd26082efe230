-- Document 01's list call, with document 02's rib: its checks, what it answers, and what it leaves in the lent buffers.
use Rattle.std.specs.Prelude.{◌≡◌, ℕ, ◌+◌, ◌*◌, ◌-◌, length, get_or}
use mathlib.Core.List.{List, Memᴰ}
use Rattle.checks.specs.Limits.{buffer_words}
use Rattle.checks.specs.Answer.{Answer, refused, taken, Asked, also, number, outcome}
use Rattle.slicing.specs.Tree.{Tree, gauge_count, size_count}
use Rattle.slicing.specs.Shapes.{shapes}
use Rattle.slicing.specs.Recorded.{Recorded, part_recorded}
use Rattle.lent.specs.Lent.{Lent, written_over}
use Rattle.lent.specs.Questions.{levels_lent, rib_given, buffers_lent, output_lent}
use Rattle.lent.specs.Call.{call_on, FreeAfter}
use Rattle.arena.specs.Arena.{level}
use Rattle.arena.specs.Lazy.{lazy_list}
use Rattle.writing.specs.Words.{list_words}
use Rattle.shapes.specs.declared.Listed.{Listed}

-- Of a face of n sizes and g gauges, with buffers of so many words: "As many levels as sizes? 14. Each level 1 to 8? 15." "22 when the rib is above 20, right after 15". "Arena and scratch, each 16,384 32-bit words or more? 17. Output long enough? 18. The list call needs 2(n - g + 1) words".
unfoldable pub list_asks : ℕ → ℕ → List ℕ → ℕ → (arena scratch output : ℕ) → Asked
list_asks n g levels rib arena scratch output =
    also (levels_lent n levels)
    (also (rib_given rib) (also (buffers_lent buffer_words arena scratch) (output_lent (2 * (n - g + 1)) output)))

-- The list call makes checks 1 to 18 but 16, and 22. What is taken is the face.
unfoldable pub list_call : Answer Tree → List ℕ → ℕ → Lent → Answer Tree
list_call face levels rib old =
    call_on face
    (λ t. list_asks (size_count t) (gauge_count t) levels rib (length old.arena) (length old.scratch) (length old.output))

-- It "returns the item count", 0 where it is not taken.
abbrev pub listed : Answer Tree → ℕ → Listed
listed r rib = record { number = number r; count = outcome r 0 (λ t. length (shapes rib t)) }

-- It "writes height, width for each item from the output's start, leaves later words".
abbrev pub list_output : Answer Tree → ℕ → List ℕ → List ℕ
list_output r rib old = outcome r old (λ t. written_over (list_words (shapes rib t)) old)

-- "Fixed are the links, levels, m and true p of the records on the root's list, and the head's level and links. Other arena words are free."
pub record RootList (levels : List ℕ) (rib : ℕ) (a : List ℕ) (t : Tree) : Type 0 where
  -- The head's level and all links are right, and the items are in these records with this m and true p.
  pub holds : lazy_list a ≡ taken (part_recorded rib 1 t)
  -- "Records 1 to n are the file's sizes, each with its lent level".
  pub level_is : (x : Recorded) → Memᴰ x (part_recorded rib 1 t) → level a x.number ≡ get_or levels (x.number - 1) 0

-- The arena after the call: as it was where the call is not taken.
abbrev pub ListArena : Answer Tree → List ℕ → ℕ → List ℕ → List ℕ → Type 0
ListArena (refused c) levels rib old a = a ≡ old
ListArena (taken t) levels rib old a = RootList levels rib a t

-- What the call leaves, by the answer of its checks.
pub record ListLeaves (r : Answer Tree) (levels : List ℕ) (rib : ℕ) (old : Lent) (answer : Listed) (new : Lent) : Type 0 where
  pub answered : answer ≡ listed r rib
  pub output : new.output ≡ list_output r rib old.output
  pub arena : ListArena r levels rib old.arena new.arena
  pub scratch : FreeAfter r old.scratch new.scratch

-- The promise of the list call, of the face that its file means.
abbrev pub ListPromise : Answer Tree → List ℕ → ℕ → Lent → Listed → Lent → Type 0
ListPromise face levels rib old answer new = ListLeaves (list_call face levels rib old) levels rib old answer new
