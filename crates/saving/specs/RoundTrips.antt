-- Document 02, Paper 3: "What is written must be read as the same entries, and a taken version 2 file, read to words and written again, must give its own bytes." What the second call of a round trip is to answer and leave.
use Rattle.std.specs.Prelude.{◌≡◌, List, ℕ, length}
use Rattle.lent.specs.Lent.{written_over}
use Rattle.saving.specs.declared.Saved.{Saved}
use Rattle.saving.specs.declared.Worded.{Worded}

-- The writing call, lent an output `old`, is taken, and has written just these bytes.
pub record WroteFile (file old : List ℕ) (r : Saved) (new : List ℕ) : Type 0 where
  pub number : r.number ≡ 0
  pub long : r.length ≡ length file
  pub output : new ≡ written_over file old

-- The reading call, lent an output `old`, is taken, and has written just these words.
pub record WroteWords (words old : List ℕ) (r : Worded) (new : List ℕ) : Type 0 where
  pub number : r.number ≡ 0
  pub long : r.count ≡ length words
  pub output : new ≡ written_over words old
