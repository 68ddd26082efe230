-- How the reader's cursor stands for a state of the format's definition. The contracts inside the reader cite it, and no public one does.
use Rattle.std.specs.Prelude.{◌≡◌, List, [], ◌∷◌, ◌++◌, ℕ, ◌+◌, ◌*◌, ◌≤◌, length, get_or, drop, ltb}
use Rattle.checks.specs.declared.Check.TheVariants.{Present}
use Rattle.checks.specs.Answer.{Answer, refused, taken, ask}
use Rattle.slicing.specs.Tree.{Tree, gauges_of, sizes_of}
use Rattle.entries.specs.Entry.{State}
use Rattle.entries.specs.declared.Cursor.{Cursor}

-- The lists of the parts of a stack, the oldest first.
abbrev pub flat : {A : Type 0} → (Tree → List A) → List Tree → List A
flat f [] = []
flat f (t ∷ parts) = flat f parts ++ f t

-- The cursor is one that the reader can come to.
pub record Fair (file : List ℕ) (c : Cursor) : Type 0 where
  pub inside : c.at ≤ length file
  pub parts_few : c.parts ≤ c.gauges
  pub gauges_few : c.gauges ≤ 64
  pub sizes_few : c.sizes ≤ 8 * c.gauges

-- The cursor stands for the state: the same bytes are left, and it counts what the state holds.
pub record Tracks (file : List ℕ) (c : Cursor) (s : State) : Type 0 where
  pub rest : s.rest ≡ drop c.at file
  pub parts : length s.stack ≡ c.parts
  pub gauges : s.gauges ≡ c.gauges
  pub gauge_total : length (flat gauges_of s.stack) ≡ c.gauges
  pub size_total : length (flat sizes_of s.stack) ≡ c.sizes

-- What is read says what the definition answers: the same check, or a cursor for the state that it takes.
abbrev pub Follows : List ℕ → Answer State → Answer Cursor → Type 0
Follows file (refused k) (refused e) = e ≡ k
Follows file (refused k) (taken c) = ⊥
Follows file (taken s) (refused e) = ⊥
Follows file (taken s) (taken c) = Fair file c × Tracks file c s

-- From any state that the cursor stands for, what is read says what f answers.
unfoldable pub Does : (State → Answer State) → List ℕ → Cursor → Answer Cursor → Type 0
Does f file c r = (s : State) → Tracks file c s → Follows file (f s) r

-- The cursor so many bytes or words on.
abbrev pub advance : Cursor → ℕ → Cursor
advance c k = record { at = c.at + k; parts = c.parts; gauges = c.gauges; sizes = c.sizes }

-- The byte or word at the cursor, if it is present, and the cursor after it.
abbrev pub unit_at : List ℕ → Cursor → Answer (ℕ × Cursor)
unit_at file c = ask (ltb c.at (length file)) Present (taken (get_or file c.at 0, advance c 1))

-- Before the first entry, which begins at a place: no part, no gauge.
abbrev pub begun : List ℕ → ℕ → State
begun file at = record { rest = drop at file; stack = []; gauges = 0 }
