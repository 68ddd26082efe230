-- The reading call's ways out: a refusal leaves the output, and a taken file has its face's words written.
-- Which way it goes is the law of a call that asks for room only, with 3g + 2n words; the first word is written, and the entries' words after it.
use mathlib.Core.Path.{◌≡◌, sym, ap, ◌∙◌}
use mathlib.Core.List.{List, [], ◌∷◌}
use Prim.Native.Nat.{ℕ, ◌+◌, ◌*◌, ◌-◌, ◌≤◌}
use native.Mathlib.Omega.{arith}
use lib.ListN.{length}
use Rattle.std.specs.Borrow.{MutBor}
use Rattle.checks.specs.Limits.{most_gauges, most_sizes}
use Rattle.checks.specs.declared.Check.{Check}
use Rattle.checks.specs.Answer.{Answer, refused, taken}
use Rattle.slicing.specs.Tree.{Tree}
use Rattle.facefile.specs.declared.Counts.{Counts}
use Rattle.facefile.specs.Format.{face_of}
use Rattle.facefile.specs.Summary.{counted}
use Rattle.facefile.proofs.Taken.{face_taken}
use Rattle.lent.specs.Lent.{written_over}
use Rattle.lent.specs.Questions.{output_lent}
use Rattle.lent.proofs.Calling.{refused_by_file}
use Rattle.writing.specs.Words.{list_words}
use Rattle.written.specs.EntriesOf.{entries_of}
use Rattle.facewords.specs.Words.{words_of}
use Rattle.facewords.proofs.WordsOf.{words_count}
use Rattle.text.specs.Printing.{Printed}
use Rattle.text.specs.declared.page.Page.{Page}
use Rattle.text.specs.inside.Writing.{Fits, Wrote}
use Rattle.text.proofs.Pages.{blank, blank_fits, blank_printed, same_fit, same_wrote, first_fits, rest_fits, both_wrote}
use Rattle.saving.specs.inside.Answers.{worded_as}
use Rattle.saving.specs.Saving.{word_call, worded, word_output, WordPromise}
use Rattle.saving.proofs.OutputCall.{Few, Passing, few_counts, call_no_room, call_passes}

file_few : (file : List ℕ) (t : Tree) → face_of file ≡ taken t → Few t
file_few file t e = let known = face_taken file t e in (known.few, known.most)

pub file_counts : (file : List ℕ) (n : Counts) → taken n ≡ counted (face_of file) → (n.gauges ≤ most_gauges) × (n.sizes ≤ most_sizes)
file_counts file n read = few_counts (face_of file) (file_few file) n read

module _ (file output : List ℕ) where
  refused_so : (c : Check) → word_call (face_of file) output ≡ refused c → WordPromise (face_of file) output (worded_as (refused c)) output
  refused_so c bad =
      record { answered = ap worded (sym bad); output = ap (λ (a : Answer Tree). word_output a output) (sym bad) }

  -- Checks 1 to 13.
  pub words_no_file : (c : Check) → refused c ≡ counted (face_of file) → WordPromise (face_of file) output (worded_as (refused c)) output
  unfolding word_call
  words_no_file c is =
      refused_so c (refused_by_file (face_of file) (λ t. output_lent (length (words_of t)) (length output)) c is)

  module _ (n : Counts) where
    -- The call is taken.
    abbrev pub Wordable : Type 0
    Wordable = Passing (face_of file) n (λ t. length (words_of t)) (length output)

    module _ (read : taken n ≡ counted (face_of file)) (count : ℕ) (so_many : count ≡ 3 * n.gauges + 2 * n.sizes) where
      -- Check 18.
      pub words_no_room : (c : Check) → refused c ≡ output_lent count (length output) → WordPromise (face_of file) output (worded_as (refused c)) output
      unfolding word_call
      words_no_room c is =
          refused_so c (call_no_room (face_of file) (file_few file) n read (λ t. length (words_of t)) (length output) count (λ t g s. omega (arith, words_count t)) c is)

      pub words_taken : taken tt ≡ output_lent count (length output) → Wordable
      words_taken fits =
          call_passes (face_of file) (file_few file) n read (λ t. length (words_of t)) (length output) count (λ t g s. omega (arith, words_count t)) fits

-- The first word is written, and then those of the entries.
module _ (file : List ℕ) (buffer : MutBor (List ℕ)) (n : Counts) (k : Wordable file buffer.now n) (page : Page ℕ) (empty : page ≡ blank buffer) where
  all_fit : Fits page ((2 * n.gauges - 1) ∷ entries_of list_words k.tree)
  unfolding words_of
  all_fit =
      same_fit page (words_of k.tree) ((2 * n.gauges - 1) ∷ entries_of list_words k.tree)
      (ap (λ (m : ℕ). m ∷ entries_of list_words k.tree) (sym k.entries)) (blank_fits buffer page empty (words_of k.tree) k.room)

  pub first_word_room : Fits page ((2 * n.gauges - 1) ∷ [])
  first_word_room = first_fits page ((2 * n.gauges - 1) ∷ []) (entries_of list_words k.tree) all_fit

  module _ (mid : Page ℕ) (begun : Wrote page ((2 * n.gauges - 1) ∷ []) mid) where
    pub entries_room : (t : Tree) × (face_of file ≡ taken t) × Fits mid (entries_of list_words t)
    entries_room = (
      k.tree,
      k.face_is,
      rest_fits page ((2 * n.gauges - 1) ∷ []) (entries_of list_words k.tree) mid begun all_fit,
    )

    module _ (last : Page ℕ) (put : (t : Tree) → face_of file ≡ taken t → Wrote mid (entries_of list_words t) last) where
      all_put : Wrote page (words_of k.tree) last
      unfolding words_of
      all_put =
          same_wrote page ((2 * n.gauges - 1) ∷ entries_of list_words k.tree) (words_of k.tree) last
          (ap (λ (m : ℕ). m ∷ entries_of list_words k.tree) k.entries)
          (both_wrote page ((2 * n.gauges - 1) ∷ []) (entries_of list_words k.tree) mid begun last (put k.tree k.face_is))

      module _ (new : List ℕ) (end : new ≡ last.buffer.now) where
        all : Printed (words_of k.tree) buffer.now new last.at
        all = blank_printed buffer page empty (words_of k.tree) last all_put new end k.room

        pub words_few : last.at ≤ 3 * most_gauges + 2 * most_sizes
        words_few =
            let count = all.count in
            let few = k.few in
            omega (arith, words_count k.tree)

        pub words_done : WordPromise (face_of file) buffer.now (worded_as (taken last.at)) new
        unfolding word_call written_over
        words_done =
            record {
              answered = ap (λ (m : ℕ). worded_as (taken m)) all.count ∙ ap worded (sym k.call);
              output = all.bytes ∙ ap (λ (a : Answer Tree). word_output a buffer.now) (sym k.call);
            }
