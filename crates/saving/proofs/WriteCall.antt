-- The writing call's ways out: a refusal leaves the output, and taken words have their face's file written.
-- Which way it goes is the law of a call that asks for room only, with 6 + 3g + 4n bytes; the header is written, and the entries' bytes after it.
use mathlib.Core.Path.{◌≡◌, sym, ap, ◌∙◌}
use mathlib.Core.List.{List, ◌++◌}
use Prim.Native.Nat.{ℕ, ◌+◌, ◌*◌, ◌-◌, ◌≤◌, ◌<◌}
use native.Mathlib.Omega.{arith}
use lib.ListN.{length}
use Rattle.std.specs.Borrow.{MutBor}
use Rattle.checks.specs.Limits.{most_gauges, most_sizes}
use Rattle.checks.specs.declared.Check.{Check}
use Rattle.checks.specs.Answer.{Answer, refused, taken}
use Rattle.slicing.specs.Tree.{Tree}
use Rattle.slicing.proofs.Counts.{counted as tree_counted}
use Rattle.facefile.specs.declared.Counts.{Counts}
use Rattle.facefile.specs.Gauge.{size_bytes}
use Rattle.facefile.specs.Summary.{counted}
use Rattle.lent.specs.Lent.{written_over}
use Rattle.lent.specs.Questions.{output_lent}
use Rattle.lent.proofs.Calling.{refused_by_file}
use Rattle.written.specs.EntriesOf.{entries_of}
use Rattle.written.specs.FileOf.{header_bytes, file_of}
use Rattle.written.proofs.FileOf.{file_long}
use Rattle.facewords.specs.Words.{words_face}
use Rattle.facewords.proofs.WordsOf.{words_taken}
use Rattle.text.specs.Printing.{Printed}
use Rattle.text.specs.declared.page.Page.{Page}
use Rattle.text.specs.inside.Writing.{Fits, Wrote}
use Rattle.text.proofs.Pages.{blank, blank_fits, blank_printed, same_fit, same_wrote, first_fits, rest_fits, both_wrote}
use Rattle.saving.specs.inside.Answers.{saved_as}
use Rattle.saving.specs.Saving.{save_call, saved, saved_output, SavePromise}
use Rattle.saving.proofs.OutputCall.{Few, Passing, few_counts, call_no_room, call_passes}

words_few : (words : List ℕ) (t : Tree) → words_face words ≡ taken t → Few t
words_few words t e =
    let known = words_taken words t e in
    let few = known.few in
    let most = (tree_counted t known.good).most in
    (few, omega arith)

pub words_counts : (words : List ℕ) (n : Counts) → taken n ≡ counted (words_face words) → (n.gauges ≤ most_gauges) × (n.sizes ≤ most_sizes)
words_counts words n read = few_counts (words_face words) (words_few words) n read

module _ (words output : List ℕ) where
  refused_so : (c : Check) → save_call (words_face words) output ≡ refused c → SavePromise (words_face words) output (saved_as (refused c)) output
  refused_so c bad =
      record { answered = ap saved (sym bad); output = ap (λ (a : Answer Tree). saved_output a output) (sym bad) }

  -- The checks of the words.
  pub file_no_words : (c : Check) → refused c ≡ counted (words_face words) → SavePromise (words_face words) output (saved_as (refused c)) output
  unfolding save_call
  file_no_words c is =
      refused_so c (refused_by_file (words_face words) (λ t. output_lent (length (file_of t)) (length output)) c is)

  module _ (n : Counts) where
    -- The call is taken.
    abbrev pub Savable : Type 0
    Savable = Passing (words_face words) n (λ t. length (file_of t)) (length output)

    module _ (read : taken n ≡ counted (words_face words)) (count : ℕ) (so_many : count ≡ 6 + 3 * n.gauges + 4 * n.sizes) where
      -- Check 18.
      pub file_no_room : (c : Check) → refused c ≡ output_lent count (length output) → SavePromise (words_face words) output (saved_as (refused c)) output
      unfolding save_call
      file_no_room c is =
          refused_so c (call_no_room (words_face words) (words_few words) n read (λ t. length (file_of t)) (length output) count (λ t g s. omega (arith, file_long t)) c is)

      pub file_taken : taken tt ≡ output_lent count (length output) → Savable
      file_taken fits =
          call_passes (words_face words) (words_few words) n read (λ t. length (file_of t)) (length output) count (λ t g s. omega (arith, file_long t)) fits

-- The header is written, and then the entries.
module _ (words : List ℕ) (buffer : MutBor (List ℕ)) (n : Counts) (k : Savable words buffer.now n) (page : Page ℕ) (empty : page ≡ blank buffer) where
  all_fit : Fits page (header_bytes (2 * n.gauges - 1) ++ entries_of size_bytes k.tree)
  unfolding file_of
  all_fit =
      same_fit page (file_of k.tree) (header_bytes (2 * n.gauges - 1) ++ entries_of size_bytes k.tree)
      (ap (λ (m : ℕ). header_bytes m ++ entries_of size_bytes k.tree) (sym k.entries)) (blank_fits buffer page empty (file_of k.tree) k.room)

  pub header_room : (2 * n.gauges - 1 < 65_536) × Fits page (header_bytes (2 * n.gauges - 1))
  header_room =
      let few = k.few in
      let gauges = k.gauges in
      (omega arith, first_fits page (header_bytes (2 * n.gauges - 1)) (entries_of size_bytes k.tree) all_fit)

  module _ (mid : Page ℕ) (begun : Wrote page (header_bytes (2 * n.gauges - 1)) mid) where
    pub entries_room : (t : Tree) × (words_face words ≡ taken t) × Fits mid (entries_of size_bytes t)
    entries_room = (
      k.tree,
      k.face_is,
      rest_fits page (header_bytes (2 * n.gauges - 1)) (entries_of size_bytes k.tree) mid begun all_fit,
    )

    module _ (last : Page ℕ) (put : (t : Tree) → words_face words ≡ taken t → Wrote mid (entries_of size_bytes t) last) where
      all_put : Wrote page (file_of k.tree) last
      unfolding file_of
      all_put =
          same_wrote page (header_bytes (2 * n.gauges - 1) ++ entries_of size_bytes k.tree) (file_of k.tree) last
          (ap (λ (m : ℕ). header_bytes m ++ entries_of size_bytes k.tree) k.entries)
          (both_wrote page (header_bytes (2 * n.gauges - 1)) (entries_of size_bytes k.tree) mid begun last (put k.tree k.face_is))

      module _ (new : List ℕ) (end : new ≡ last.buffer.now) where
        all : Printed (file_of k.tree) buffer.now new last.at
        all = blank_printed buffer page empty (file_of k.tree) last all_put new end k.room

        pub file_few : last.at ≤ 6 + 3 * most_gauges + 4 * most_sizes
        file_few =
            let count = all.count in
            let few = k.few in
            omega (arith, file_long k.tree)

        pub file_done : SavePromise (words_face words) buffer.now (saved_as (taken last.at)) new
        unfolding save_call written_over
        file_done =
            record {
              answered = ap (λ (m : ℕ). saved_as (taken m)) all.count ∙ ap saved (sym k.call);
              output = all.bytes ∙ ap (λ (a : Answer Tree). saved_output a buffer.now) (sym k.call);
            }
