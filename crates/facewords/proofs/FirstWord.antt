-- What the reader answers by the first word is what the definition says.
-- The definition's two questions are the code's two tests.
use mathlib.Core.Path.{◌≡◌, sym, ap, ◌∙◌}
use mathlib.Core.Bool.{Bool, true, false, not}
use mathlib.Core.List.{List}
use Prim.Native.Nat.{ℕ, ◌≤◌, ◌<◌}
use lib.ListN.{length, get_or}
use lib.Dec.{ltb}
use borrow.Author.Tests.{lt-ltb, le-ltb, ltb-true, not-true, not-false}
use Rattle.checks.specs.Answer.{Answer, refused, taken, next}
use Rattle.checks.specs.declared.Check.{Check}
use Rattle.checks.specs.declared.Check.TheVariants.{Present, Entries}
use Rattle.checks.proofs.Answers.{same_taken, ask_taken}
use Rattle.sizes.specs.GaugeSizes.{within}
use Rattle.sizes.proofs.SizeChecks.{within_true}
use Rattle.entries.specs.Entry.{entries}
use Rattle.facefile.specs.Format.{at_end}
use Rattle.facefile.specs.Summary.{counted}
use Rattle.facewords.specs.Words.{word_rules, first_word, words_start, words_face}

-- One law for each way out.
module _ (words : List ℕ) where
  pub first_missing : length words ≤ 0 → refused Present ≡ first_word words
  unfolding first_word
  first_missing none = simp (le-ltb 0 (length words) none)

  -- The first word n, of which the code asks the test b.
  module _ (some : 0 < length words) (n : ℕ) (is : n ≡ get_or words 0 0) (b : Bool) (e : b ≡ within 1 127 n) where
    pub first_out : not b ≡ true → refused Entries ≡ first_word words
    unfolding first_word
    first_out out = simp (lt-ltb 0 (length words) some, ← is, sym e ∙ not-true b out)

    pub first_fine : not b ≡ false → taken n ≡ first_word words
    unfolding first_word
    first_fine fine = simp (lt-ltb 0 (length words) some, ← is, sym e ∙ not-false b fine)

-- What a taken first word says.
pub record FirstTaken (words : List ℕ) (count : ℕ) : Type 0 where
  pub some : 1 ≤ length words
  pub is : get_or words 0 0 ≡ count
  pub most : count ≤ 127

pub first_taken : (words : List ℕ) (count : ℕ) → first_word words ≡ taken count → FirstTaken words count
unfolding first_word
first_taken words count e =
    let some = ask_taken (ltb 0 (length words)) _ _ count e in
    let range = ask_taken (within 1 127 (get_or words 0 0)) _ _ count some.1 in
    let is = same_taken (get_or words 0 0) count range.1 in
    record {
      some = ltb-true 0 (length words) some.0;
      is = is;
      most = rw (← is) (within_true 1 127 (get_or words 0 0) range.0).1;
    }

-- All words, by the first.
pub read_first : (words : List ℕ) (e : Check) → refused e ≡ first_word words → refused e ≡ counted (words_face words)
unfolding words_face counted
read_first words e first =
    ap (λ (a : Answer ℕ). counted (next a (λ count. next (entries word_rules count (words_start words)) at_end))) first

module _ (words : List ℕ) (k : ℕ) (first : taken k ≡ first_word words) where
  pub first_there : 1 ≤ length words
  first_there = (first_taken words k (sym first)).some

  pub by_count : (j : ℕ) → j ≡ k → next (entries word_rules j (words_start words)) at_end ≡ words_face words
  unfolding words_face
  by_count j same =
      ap (λ (i : ℕ). next (entries word_rules i (words_start words)) at_end) same
      ∙ ap (λ (a : Answer ℕ). next a (λ i. next (entries word_rules i (words_start words)) at_end)) first
