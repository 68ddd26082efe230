-- How the shape lists of every part come into the scratch, part by part in the order of the file's entries. No public contract cites it.
use Rattle.std.specs.Prelude.{◌≡◌, List, [], ◌∷◌, ℕ, ◌+◌, ◌*◌, ◌-◌, ◌≤◌, ◌<◌, length, get_or}
use Rattle.checks.specs.Limits.{most_rib, buffer_words}
use Rattle.checks.specs.Answer.{taken}
use Rattle.slicing.specs.Item.{Item}
use Rattle.slicing.specs.Tree.{Tree, gauge, beside, stacked, gauge_count}
use Rattle.facefile.specs.Format.{face_of}
use Rattle.stored.specs.inside.Store.{own_shapes, Entry, Stored}

-- The lists of the part e and of all parts of it stand after the table, before the place `to`, and so do the words behind the lists of gauges.
abbrev pub Between : ℕ → List ℕ → ℕ → ℕ → Tree → Type 0
Between gap s to e t = (508 ≤ get_or s (4 * e) 0) × (get_or s (4 * e) 0 + length (own_shapes gap t) ≤ to)

abbrev pub Lies : ℕ → List ℕ → ℕ → ℕ → Tree → Type 0
Lies gap s to e (gauge z) = Between gap s to e (gauge z) × (get_or s (4 * e) 0 + length (own_shapes gap (gauge z)) < to)
Lies gap s to e (beside a b) = Between gap s to e (beside a b) × Lies gap s to (e - 1) b × Lies gap s to (e - 2 * gauge_count b) a
Lies gap s to e (stacked a b) = Between gap s to e (stacked a b) × Lies gap s to (e - 1) b × Lies gap s to (e - 2 * gauge_count b) a

-- The part e was added to the scratch s: its list is l, from the place `to` on. The parts before it, and all lists before it, are as they were.
pub record Added (s z : List ℕ) (e to kind gauges : ℕ) (l : List Item) : Type 0 where
  pub length_kept : length z ≡ length s
  pub entry : Entry z e kind gauges l
  pub from_is : get_or z (4 * e) 0 ≡ to
  pub table_kept : (i : ℕ) → i < 4 * e → get_or z i 0 ≡ get_or s i 0
  pub lists_kept : (i : ℕ) → 508 ≤ i → i < to → get_or z i 0 ≡ get_or s i 0

-- The parts of the stack, the newest first, are the parts of the table before number e.
abbrev pub Rows : ℕ → List ℕ → ℕ → List Tree → ℕ → Type 0
Rows gap s to [] e = e ≡ 0
Rows gap s to (t ∷ stack) e =
    (below : ℕ) × (e + 1 ≡ below + 2 * gauge_count t) × Stored gap s (e - 1) t × Lies gap s to (e - 1) t × Rows gap s to stack below

-- A taken file, a rib of at most 20, and room.
pub record Fillable (file : List ℕ) (rib : ℕ) (s : List ℕ) : Type 0 where
  pub tree : Tree
  pub face : face_of file ≡ taken tree
  pub narrow : rib ≤ most_rib
  pub long : buffer_words ≤ length s

-- The whole face is the last part.
pub record Filled (gap : ℕ) (s z : List ℕ) (e : ℕ) (t : Tree) : Type 0 where
  pub length_kept : length z ≡ length s
  pub last : e + 2 ≡ 2 * gauge_count t
  pub stored : Stored gap z e t
