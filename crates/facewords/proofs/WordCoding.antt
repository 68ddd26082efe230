-- Two words a size: how sizes are coded in words, and that sizes which are read from words stand there as they are coded.
-- A size is read as its two words, and any words will do.
use mathlib.Core.Path.{◌≡◌, refl, sym, ap, ◌∙◌}
use mathlib.Core.List.{List, [], ◌∷◌}
use Prim.Native.Nat.{ℕ, zero, suc, ◌*◌, ◌≤◌}
use native.Mathlib.Omega.{arith}
use lib.ListN.{length, take}
use Rattle.sizes.specs.inside.Sizes.{sizes_by}
use Rattle.sizes.proofs.SizesIn.{from_by}
use Rattle.writing.specs.Words.{list_words}
use Rattle.writing.proofs.WordLaws.{words_length}
use Rattle.written.proofs.Written.{Decodes}
use Rattle.written.proofs.ReadBack.{Codes}
use Rattle.facewords.specs.Words.{size_in_words, word_rules}

pub words_code : Codes word_rules list_words
unfolding list_words
words_code =
    record {
      any_order = λ e. omega arith;
      long = words_length;
      first = λ z s rest. refl;
      after = λ z s rest. refl;
    }

-- The words of sizes are these sizes, coded.
words_in : (k : ℕ) (l : List ℕ) → 2 * k ≤ length l → take (2 * k) l ≡ list_words (sizes_by 2 size_in_words k l)
unfolding list_words
words_in zero l h = refl
words_in (suc k) [] h = absurd (omega arith)
words_in (suc k) (a ∷ []) h = absurd (omega arith)
words_in (suc k) (a ∷ b ∷ l) h =
    let more : 2 * suc k ≡ suc (suc (2 * k)) = omega arith in
    rw more (ap (λ (x : List ℕ). a ∷ b ∷ x) (words_in k l (omega arith)))

-- Any words will do.
pub words_decode : Decodes word_rules list_words (λ l. Unit {0})
words_decode =
    record {
      on = λ k l p. tt;
      coded = λ count l z p present sized. words_in count l present ∙ ap list_words (sym (from_by word_rules count l z sized));
    }
