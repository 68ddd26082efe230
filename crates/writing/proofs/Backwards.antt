-- The words of a turned list are those of the list, from the last to the first; so they are written over a buffer that holds the list's own words by turning these round.
-- Each item is turned too, so that its two words change places with it.
use mathlib.Core.Path.{◌≡◌, refl, sym, ap, ap₂, ◌∙◌}
use mathlib.Core.List.{List, [], ◌∷◌, ◌++◌}
use Prim.Native.Nat.{ℕ, ◌*◌}
use native.Mathlib.Omega.{arith}
use lib.ListN.{length, take, drop}
use lib.Seq.{take_at, drop_at}
use Rattle.std.specs.Prelude.{reverse}
use Rattle.std.proofs.lemmas.List.{reverse-append}
use Rattle.slicing.specs.Item.{Item, height, width}
use Rattle.slicing.specs.Recorded.{items}
use Rattle.slicing.specs.Merge.{turn}
use Rattle.slicing.proofs.TurnLaws.{turn_length}
use Rattle.arena.specs.Arena.{adjust}
use Rattle.arena.specs.Lazy.{held}
use Rattle.lent.specs.Lent.{written_over}
use Rattle.writing.specs.Words.{list_words}
use Rattle.writing.specs.inside.Writing.{Listable}
use Rattle.writing.proofs.WordLaws.{words_length, words_turned}
use Rattle.writing.proofs.ItemLaws.{items_length, items_held}

words_backwards : (l : List Item) → reverse (list_words l) ≡ list_words (turn l)
unfolding list_words turn
words_backwards [] = refl
words_backwards (z ∷ l) =
    reverse-append (height z ∷ width z ∷ []) (list_words l)
    ∙ ap (λ (ws : List ℕ). ws ++ (width z ∷ height z ∷ [])) (words_backwards l) ∙ sym (words_turned z l)

module _ (l : List Item) (old out back : List ℕ) (k : ℕ) (long : k ≡ 2 * length l) (forth : out ≡ written_over (list_words l) old) (turned : back ≡ reverse (take k out)) where
  as_long : length (list_words l) ≡ k
  as_long =
      let words = words_length l in
      omega arith

  turned_as_long : length (list_words (turn l)) ≡ k
  turned_as_long =
      let words = words_length (turn l) in
      let same = turn_length l in
      omega arith

  over_backwards : back ++ drop k out ≡ written_over (list_words (turn l)) old
  unfolding written_over
  over_backwards =
      let words = list_words l in
      let rest = drop (length words) old in
      ap₂ (λ (front : List ℕ) (all : List ℕ). front ++ drop k all) turned forth
      ∙ ap (λ (all : List ℕ). reverse (take k all) ++ drop k (words ++ rest)) forth
      ∙ ap₂ (λ (front : List ℕ) (behind : List ℕ). reverse front ++ behind) (take_at words rest k as_long) (drop_at words rest k as_long)
      ∙ ap₂ (λ (front : List ℕ) (n : ℕ). front ++ drop n old) (words_backwards l) (as_long ∙ sym turned_as_long)

-- So a list that was written and counted is written turned.
pub turned_over : (a : List ℕ) (h : ℕ) (old out back : List ℕ) (n : ℕ) → ((rs : List ℕ) → Listable a h rs old → (n ≡ length rs) × (out ≡ written_over (list_words (items (held a h [] rs))) old)) → back ≡ reverse (take (2 * n) out) → (rs : List ℕ) → Listable a h rs old → (n ≡ length rs) × (back ++ drop (2 * n) out ≡ written_over (list_words (turn (items (held a h [] rs)))) old)
turned_over a h old out back n written turned rs ready =
    let forth = written rs ready in
    let counted = forth.0 in
    let many : length (items (held a h [] rs)) ≡ length rs = ap length (sym (items_held a h rs)) ∙ items_length a (adjust a h) rs in (
      counted,
      over_backwards (items (held a h [] rs)) old out back (2 * n) (omega arith) forth.1 turned,
    )
