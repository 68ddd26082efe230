-- What the functions that write a text into a lent buffer from its start leave.
use Rattle.std.specs.Prelude.{◌≡◌, List, ◌++◌, ℕ, ◌≤◌, ◌<◌, length, take, drop}

-- The text stands from the buffer's start, the later bytes are as they were, and the answer is the text's length.
pub record Printed (text old new : List ℕ) (r : ℕ) : Type 0 where
  pub count : r ≡ length text
  pub bytes : new ≡ text ++ drop (length text) old

-- The answer counts at most `most` bytes at the buffer's start. The second part follows from the first and the buffer's length; it is stated so that a caller may lend them as `&text[..r]`.
abbrev pub Counted : ℕ → List ℕ → ℕ → Type 0
Counted most new r = (r ≤ most) × (r ≡ length (take r new))

-- The text stands in a buffer of `most` bytes or more, with room for every text, and the answer is its length. A shorter buffer is as it was, and the answer is 0.
pub record PrintedWithin (most : ℕ) (text old new : List ℕ) (r : ℕ) : Type 0 where
  pub long : most ≤ length old → Printed text old new r
  pub short : length old < most → (r ≡ 0) × (new ≡ old)
