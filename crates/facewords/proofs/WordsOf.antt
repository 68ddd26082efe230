-- The words of a tree are taken as that tree, and words that are taken are those of their tree, a good one of at most 64 gauges.
-- The entries are those of a file with another coding of the sizes, and the first word is the number of entries.
use mathlib.Core.Path.{◌≡◌, refl, sym, ap, ◌∙◌}
use mathlib.Core.List.{List, [], ◌∷◌, append-nil}
use Prim.Native.Nat.{ℕ, suc, ◌+◌, ◌*◌, ◌≤◌}
use native.Mathlib.Omega.{arith}
use lib.ListN.{length, get_or, drop}
use lib.Seq.{drop-cons}
use borrow.Author.Tests.{lt-ltb}
use Rattle.checks.specs.Answer.{Answer, taken, next}
use Rattle.checks.proofs.Answers.{next_taken}
use Rattle.slicing.specs.Tree.{Tree, gauge_count, size_count}
use Rattle.slicing.specs.Good.{Good}
use Rattle.sizes.proofs.SizeChecks.{within_of}
use Rattle.entries.specs.Entry.{State, entries}
use Rattle.entries.proofs.Took.{state}
use Rattle.facefile.specs.Format.{one_part, at_end}
use Rattle.facefile.proofs.Taken.{end_read, Sound, reads_sound}
use Rattle.writing.specs.Words.{list_words}
use Rattle.written.specs.EntriesOf.{entries_of, entry_count}
use Rattle.written.proofs.Written.{all_written}
use Rattle.written.proofs.ReadBack.{entries_long, tree_puts}
use Rattle.written.proofs.FileOf.{entry_total, entry_range}
use Rattle.facewords.specs.Words.{word_rules, first_word, words_start, words_face, words_of}
use Rattle.facewords.proofs.FirstWord.{first_taken}
use Rattle.facewords.proofs.WordCoding.{words_code, words_decode}

first_word_is : (t : Tree) → gauge_count t ≤ 64 → first_word (words_of t) ≡ taken (entry_count t)
unfolding first_word words_of
first_word_is t few =
    let range = entry_range t few in
    simp (lt-ltb 0 (suc (length (entries_of list_words t))) (omega arith), within_of 1 127 (entry_count t) range.0 range.1)

pub words_read : (t : Tree) → Good t → gauge_count t ≤ 64 → words_face (words_of t) ≡ taken t
unfolding words_face words_of at_end one_part
words_read t h few =
    ap (λ (a : Answer ℕ). next a (λ count. next (entries word_rules count (words_start (words_of t))) at_end)) (first_word_is t few)
    ∙ ap (λ (l : List ℕ). next (entries word_rules (entry_count t) (state l [] 0)) at_end) (sym (append-nil (entries_of list_words t)))
    ∙ ap (λ (a : Answer State). next a at_end) (tree_puts word_rules list_words words_code t h [] [] 0 (omega arith))

pub words_count : (t : Tree) → length (words_of t) ≡ 3 * gauge_count t + 2 * size_count t
unfolding words_of
words_count t = omega (arith, entries_long word_rules list_words words_code t, entry_total t)

-- A tree that words mean.
pub record TakenWords (words : List ℕ) (t : Tree) : Type 0 where
  pub good : Good t
  pub few : gauge_count t ≤ 64
  pub same : words ≡ words_of t

start_sound : (words : List ℕ) → Sound 0 (words_start words)
start_sound words = record { good = tt; counted = refl; few = omega arith; balance = refl }

pub words_taken : (words : List ℕ) (t : Tree) → words_face words ≡ taken t → TakenWords words t
unfolding words_face words_of
words_taken words t e =
    let all = next_taken (first_word words) (λ count. next (entries word_rules count (words_start words)) at_end) t e in
    let first = first_taken words all.0 all.1 in
    let read = end_read word_rules all.0 (words_start words) t all.2 in
    let sound = reads_sound 0 all.0 (words_start words) (state [] (t ∷ []) read.0) (start_sound words) read.1 in
    let balance = sound.balance in
    let gauges : gauge_count t ≡ read.0 = sound.counted in
    let total = entry_total t in
    let few = sound.few in
    let count : get_or words 0 0 ≡ entry_count t = omega (arith, first.is) in
    let rest = all_written word_rules list_words (λ l. Unit {0}) words_decode all.0 (drop 1 words) t read.0 tt read.1 in
    record { good = sound.good.0; few = omega arith; same = drop-cons words 0 0 first.some ∙ rw (count, rest) }
