-- What a call on a face is lent to write into, and what it leaves there.
use Rattle.std.specs.Prelude.{List, ◌++◌, ℕ, length, drop}

-- The buffers of a call, before it or after it. The output is of words or, for a text, of bytes.
pub record Lent : Type 0 where
  pub arena : List ℕ
  pub scratch : List ℕ
  pub output : List ℕ

abbrev pub lent : (arena scratch output : List ℕ) → Lent
lent arena scratch output = record { arena = arena; scratch = scratch; output = output }

-- Words from the buffer's start, and its later words as they were.
unfoldable pub written_over : List ℕ → List ℕ → List ℕ
written_over words old = words ++ drop (length words) old
