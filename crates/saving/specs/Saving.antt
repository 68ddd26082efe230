-- Document 02, Paper 3: the calls that write the words of a face to a file, and a file to words: their checks, what they answer, and what they leave in the lent output.
use Rattle.std.specs.Prelude.{◌≡◌, List, ℕ, length}
use Rattle.checks.specs.Answer.{Answer, number, outcome}
use Rattle.slicing.specs.Tree.{Tree}
use Rattle.lent.specs.Lent.{written_over}
use Rattle.lent.specs.Questions.{output_lent}
use Rattle.lent.specs.Call.{call_on}
use Rattle.written.specs.FileOf.{file_of}
use Rattle.facewords.specs.Words.{words_of}
use Rattle.saving.specs.declared.Saved.{Saved}
use Rattle.saving.specs.declared.Worded.{Worded}

-- The writing call makes the checks of the words, "and 18 last", for the bytes of the file. What is taken is the face.
unfoldable pub save_call : Answer Tree → List ℕ → Answer Tree
save_call face output = call_on face (λ t. output_lent (length (file_of t)) (length output))

-- "Out comes version 2 of the file and its length", 0 where it is not taken.
abbrev pub saved : Answer Tree → Saved
saved r = record { number = number r; length = outcome r 0 (λ t. length (file_of t)) }

-- "Bytes after the written length stay."
abbrev pub saved_output : Answer Tree → List ℕ → List ℕ
saved_output r old = outcome r old (λ t. written_over (file_of t) old)

-- The promise of the writing call, of the face that its words mean.
pub record SavePromise (face : Answer Tree) (old : List ℕ) (r : Saved) (new : List ℕ) : Type 0 where
  pub answered : r ≡ saved (save_call face old)
  pub output : new ≡ saved_output (save_call face old) old

-- "Reading to words makes checks 1 to 13, then 18 for too few words".
unfoldable pub word_call : Answer Tree → List ℕ → Answer Tree
word_call face output = call_on face (λ t. output_lent (length (words_of t)) (length output))

-- "it returns the word count", 0 where it is not taken.
abbrev pub worded : Answer Tree → Worded
worded r = record { number = number r; count = outcome r 0 (λ t. length (words_of t)) }

-- "and words after those written stay".
abbrev pub word_output : Answer Tree → List ℕ → List ℕ
word_output r old = outcome r old (λ t. written_over (words_of t) old)

-- The promise of the reading call, of the face that its file means.
pub record WordPromise (face : Answer Tree) (old : List ℕ) (r : Worded) (new : List ℕ) : Type 0 where
  pub answered : r ≡ worded (word_call face old)
  pub output : new ≡ word_output (word_call face old) old
