-- What the list call does once it is taken. No public contract cites it.
use Rattle.std.specs.Prelude.{◌≡◌, List, ℕ, ◌+◌, ◌*◌, ◌-◌, ◌≤◌, length}
use Rattle.checks.specs.Check.{number_of}
use Rattle.checks.specs.Answer.{Answer, refused, taken}
use Rattle.slicing.specs.Tree.{Tree, gauge_count, size_count}
use Rattle.slicing.specs.Shapes.{shapes}
use Rattle.facefile.specs.Format.{face_of}
use Rattle.parts.specs.inside.Building.{Buildable}
use Rattle.lent.specs.Lent.{written_over}
use Rattle.shapes.specs.declared.Listed.{Listed}
use Rattle.shapes.specs.Listing.{RootList}
use Rattle.writing.specs.Words.{list_words}

pub record Writable (file levels : List ℕ) (rib : ℕ) (a out : List ℕ) : Type 0 where
  pub ready : Buildable file levels rib a
  pub room : 2 * (size_count ready.tree - gauge_count ready.tree + 1) ≤ length out

pub record WroteFace (levels : List ℕ) (rib : ℕ) (out a' out' : List ℕ) (count : ℕ) (t : Tree) : Type 0 where
  pub counted : count ≡ length (shapes rib t)
  pub output : out' ≡ written_over (list_words (shapes rib t)) out
  pub root : RootList levels rib a' t

unfoldable pub Wrote : (file levels : List ℕ) (rib : ℕ) (out a' out' : List ℕ) (count : ℕ) → Type 0
Wrote file levels rib out a' out' count = (t : Tree) → face_of file ≡ taken t → WroteFace levels rib out a' out' count t

-- The answer of the list call that an item count or a check stands for.
abbrev pub listed_as : Answer ℕ → Listed
listed_as (refused c) = record { number = number_of c; count = 0 }
listed_as (taken n) = record { number = 0; count = n }
