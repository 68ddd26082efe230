-- Words that are written are read again as the same words, and a file that is read is written again as itself, with version 2 where it had version 1.
-- Taken words are those of their tree and a taken file of version 2 is that of its tree, so each call gives what the other was given.
use mathlib.Core.Path.{◌≡◌, sym, ap, subst, ◌∙◌}
use mathlib.Core.List.{List}
use Prim.Native.Nat.{ℕ, ◌≤◌}
use lib.ListN.{length, set, take, length-set}
use borrow.Author.Tests.{le-leb}
use Rattle.checks.specs.Answer.{Answer, taken}
use Rattle.checks.proofs.Answers.{number_taken}
use Rattle.slicing.specs.Tree.{Tree}
use Rattle.sizes.specs.GaugeSizes.{field}
use Rattle.facefile.specs.Format.{Bytes, face_of}
use Rattle.facefile.proofs.Taken.{face_taken}
use Rattle.lent.specs.Questions.{output_lent}
use Rattle.lent.specs.Call.{call_on}
use Rattle.lent.proofs.Calling.{call_taken}
use Rattle.lent.proofs.Starts.{starts}
use Rattle.written.specs.FileOf.{file_of}
use Rattle.written.proofs.FileOf.{file_read, file_written, as_version_2}
use Rattle.facewords.specs.Words.{words_face, words_of}
use Rattle.facewords.proofs.WordsOf.{words_read, words_taken}
use Rattle.saving.specs.declared.Saved.{Saved}
use Rattle.saving.specs.declared.Worded.{Worded}
use Rattle.saving.specs.Saving.{save_call, saved, saved_output, SavePromise, word_call, worded, word_output, WordPromise}
use Rattle.saving.specs.RoundTrips.{WroteFile, WroteWords}

-- A call that asks for the room of what it writes of a face, and has it, is taken.
with_room : (face : Answer Tree) (t : Tree) (code : Tree → List ℕ) (output : ℕ) → face ≡ taken t → length (code t) ≤ output → call_on face (λ u. output_lent (length (code u)) output) ≡ taken t
unfolding output_lent
with_room face t code output e room = rw e (simp (le-leb (length (code t)) output room))

-- The writing call, where the words mean the face t.
module _ (words old : List ℕ) (r : Saved) (new : List ℕ) (w : SavePromise (words_face words) old r new) where
  wrote : (t : Tree) → save_call (words_face words) old ≡ taken t → WroteFile (file_of t) old r new
  wrote t e =
      let answer = w.answered ∙ ap saved e in
      record {
        number = ap (λ (x : Saved). x.number) answer;
        long = ap (λ (x : Saved). x.length) answer;
        output = w.output ∙ ap (λ (a : Answer Tree). saved_output a old) e;
      }

  pub writes_face : (t : Tree) → words_face words ≡ taken t → length (file_of t) ≤ length old → WroteFile (file_of t) old r new
  unfolding save_call
  writes_face t e room = wrote t (with_room (words_face words) t file_of (length old) e room)

  -- Where its number is 0, they do, and the file of the face is written.
  pub wrote_face : r.number ≡ 0 → (t : Tree) × (words_face words ≡ taken t) × (take r.length new ≡ file_of t)
  unfolding save_call
  wrote_face zero =
      let answer = number_taken (save_call (words_face words) old) (sym (ap (λ (x : Saved). x.number) w.answered) ∙ zero) in
      let t = answer.0 in
      let all = wrote t answer.1 in (
        t,
        (call_taken (words_face words) (λ u. output_lent (length (file_of u)) (length old)) t answer.1).0,
        starts r.length (file_of t) old new all.output all.long,
      )

-- The reading call, where the file means the face t.
module _ (file old : List ℕ) (r : Worded) (new : List ℕ) (w : WordPromise (face_of file) old r new) where
  read : (t : Tree) → word_call (face_of file) old ≡ taken t → WroteWords (words_of t) old r new
  read t e =
      let answer = w.answered ∙ ap worded e in
      record {
        number = ap (λ (x : Worded). x.number) answer;
        long = ap (λ (x : Worded). x.count) answer;
        output = w.output ∙ ap (λ (a : Answer Tree). word_output a old) e;
      }

  pub reads_face : (t : Tree) → face_of file ≡ taken t → length (words_of t) ≤ length old → WroteWords (words_of t) old r new
  unfolding word_call
  reads_face t e room = read t (with_room (face_of file) t words_of (length old) e room)

  -- Where its number is 0, it does, and the words of the face are written.
  pub read_face : r.number ≡ 0 → (t : Tree) × (face_of file ≡ taken t) × (take r.count new ≡ words_of t)
  unfolding word_call
  read_face zero =
      let answer = number_taken (word_call (face_of file) old) (sym (ap (λ (x : Worded). x.number) w.answered) ∙ zero) in
      let t = answer.0 in
      let all = read t answer.1 in (
        t,
        (call_taken (face_of file) (λ u. output_lent (length (words_of u)) (length old)) t answer.1).0,
        starts r.count (words_of t) old new all.output all.long,
      )

-- "What is written must be read as the same entries": the file means the face that the words mean.
pub written_read : (words old : List ℕ) (r : Saved) (new : List ℕ) → SavePromise (words_face words) old r new → r.number ≡ 0 → (t : Tree) × (words_face words ≡ taken t) × (face_of (take r.length new) ≡ taken t)
written_read words old r new w zero =
    let all = wrote_face words old r new w zero in
    let t = all.0 in
    let known = words_taken words t all.1 in
    (t, all.1, ap face_of all.2 ∙ file_read t known.good known.few)

-- And by the reading call it is read to the same words, wherever there is room for them.
pub words_again : (words old : List ℕ) (r : Saved) (new : List ℕ) → SavePromise (words_face words) old r new → r.number ≡ 0
    → (old₂ : List ℕ) (r₂ : Worded) (new₂ : List ℕ) → WordPromise (face_of (take r.length new)) old₂ r₂ new₂ → length words ≤ length old₂ → WroteWords words old₂ r₂ new₂
words_again words old r new w zero old₂ r₂ new₂ again room =
    let file = written_read words old r new w zero in
    let t = file.0 in
    let same = (words_taken words t file.1).same in
    subst (λ (l : List ℕ). WroteWords l old₂ r₂ new₂) (sym same)
    (reads_face (take r.length new) old₂ r₂ new₂ again t file.2 (subst (λ (l : List ℕ). length l ≤ length old₂) same room))

-- A file that was read to words, which are written again: as the file of its face.
module _ (file old : List ℕ) (r : Worded) (new : List ℕ) (w : WordPromise (face_of file) old r new) (zero : r.number ≡ 0) where
  abbrev face_read : (t : Tree) × (face_of file ≡ taken t) × (take r.count new ≡ words_of t)
  face_read = read_face file old r new w zero

  again : (old₂ : List ℕ) (r₂ : Saved) (new₂ : List ℕ) (l : List ℕ) → SavePromise (words_face (take r.count new)) old₂ r₂ new₂ → l ≡ file_of face_read.0 → length l ≤ length old₂ → WroteFile l old₂ r₂ new₂
  again old₂ r₂ new₂ l written same room =
      let t = face_read.0 in
      let known = face_taken file t face_read.1 in
      let means = ap words_face face_read.2 ∙ words_read t known.good known.few in
      subst (λ (x : List ℕ). WroteFile x old₂ r₂ new₂) (sym same)
      (writes_face (take r.count new) old₂ r₂ new₂ written t means (subst (λ (x : List ℕ). length x ≤ length old₂) same room))

-- "a taken version 2 file, read to words and written again, must give its own bytes", wherever there is room for them.
pub file_again : (file old : List ℕ) (r : Worded) (new : List ℕ) → Bytes file → field file 3 ≡ 2 → WordPromise (face_of file) old r new → r.number ≡ 0
    → (old₂ : List ℕ) (r₂ : Saved) (new₂ : List ℕ) → SavePromise (words_face (take r.count new)) old₂ r₂ new₂ → length file ≤ length old₂ → WroteFile file old₂ r₂ new₂
file_again file old r new b two w zero old₂ r₂ new₂ written room =
    let face = read_face file old r new w zero in
    again file old r new w zero old₂ r₂ new₂ file written (file_written file face.0 b face.1 two) room

-- A file of either version gives the version 2 file of the same entries: its own bytes, but for the version.
pub version_2_again : (file old : List ℕ) (r : Worded) (new : List ℕ) → Bytes file → WordPromise (face_of file) old r new → r.number ≡ 0
    → (old₂ : List ℕ) (r₂ : Saved) (new₂ : List ℕ) → SavePromise (words_face (take r.count new)) old₂ r₂ new₂ → length file ≤ length old₂ → WroteFile (set file 4 0x02) old₂ r₂ new₂
version_2_again file old r new b w zero old₂ r₂ new₂ written room =
    let face = read_face file old r new w zero in
    again file old r new w zero old₂ r₂ new₂ (set file 4 0x02) written (sym (as_version_2 file face.0 b face.1)) (simp length-set room)
