-- The entries of a taken file in turn: what was read up to a place between two of them, and what comes next there. No public contract cites it.
pub mod Gives
use Rattle.std.specs.Prelude.{◌≡◌, true, List, ◌∷◌, ℕ, ◌+◌, ◌/◌, ◌≤◌, length, take, drop}
use Rattle.checks.specs.Answer.{Answer, taken, next}
use Rattle.slicing.specs.Tree.{Tree, gauge}
use Rattle.slicing.specs.Good.{Ordered}
use Rattle.sizes.specs.Rules.{Rules, asks_order}
use Rattle.sizes.specs.inside.Sizes.{sizes_in, Sized}
use Rattle.entries.specs.Entry.{State, entries}
use Rattle.entries.specs.inside.Kinds.{byte_of, Cut}
use Rattle.entries.specs.declared.kinds.Kind.{Kind}
use Rattle.facefile.specs.Format.{rules_of, start, at_end, face_of}

-- A run of entries by some rules, in bytes or words that mean a face: so many were read from the beginning, which left these bytes or words and the parts of the stack, the newest first, and those that are left give the face.
pub record Run (whole : Answer Tree) (rules : Rules) (begin : State) (face : Tree) (rest : List ℕ) (stack : List Tree) : Type 0 where
  pub means : whole ≡ taken face
  pub gauges : ℕ
  pub done : ℕ
  pub read : entries rules done begin ≡ taken (record { rest = rest; stack = stack; gauges = gauges })
  pub left : ℕ
  pub gives : next (entries rules left (record { rest = rest; stack = stack; gauges = gauges })) at_end ≡ taken face

-- The run of a file's entries.
abbrev pub Walk : List ℕ → Tree → List ℕ → List Tree → Type 0
Walk file face rest stack = Run (face_of file) (rules_of file) (start file) face rest stack

-- The bytes are what is left somewhere between two entries of a taken file.
abbrev pub Stands : List ℕ → Type 0
Stands rest = (file : List ℕ) × (face : Tree) × (stack : List Tree) × Walk file face rest stack

-- How many sizes stand in bytes.
abbrev pub count_of : List ℕ → ℕ
count_of bytes = length bytes / 4

-- The gauge of the sizes in bytes.
abbrev pub gauge_of : List ℕ → Tree
gauge_of bytes = gauge (sizes_in (count_of bytes) bytes)

-- A gauge comes, with the bytes of its sizes after its kind and its count, and then these bytes are left.
pub record GaugeNext (file : List ℕ) (face : Tree) (stack : List Tree) (rest sizes behind : List ℕ) : Type 0 where
  pub own : sizes ≡ take (length sizes) (drop 2 rest)
  pub after : behind ≡ drop (2 + length sizes) rest
  pub sized : Sized (count_of sizes) sizes
  pub some : 1 ≤ count_of sizes
  pub few : count_of sizes ≤ 8
  pub order : asks_order (rules_of file) ≡ true → Ordered (sizes_in (count_of sizes) sizes)
  pub walk : Walk file face behind (gauge_of sizes ∷ stack)

-- A join of the two newest parts comes, and W holds behind it of the parts with the join in their place.
pub record JoinNext (W : List ℕ → List Tree → Type 0) (stack : List Tree) (rest : List ℕ) (kind : Kind) (behind : List ℕ) : Type 0 where
  pub after : behind ≡ drop 1 rest
  pub cut : Tree → Tree → Tree
  pub older : Tree
  pub newer : Tree
  pub below : List Tree
  pub is_cut : Cut (byte_of kind) cut
  pub two : stack ≡ newer ∷ older ∷ below
  pub walk : W behind (cut older newer ∷ below)
