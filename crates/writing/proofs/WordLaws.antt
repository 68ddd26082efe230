-- The words of items: how many they are, what one more item at either end of them writes, and that items written one by one from the start are their words over the buffer.
-- Each goes down the words; a store past the words written leaves them.
use mathlib.Core.Path.{◌≡◌, refl, ap, ap₂, ◌∙◌}
use mathlib.Core.List.{List, [], ◌∷◌, ◌++◌}
use Prim.Native.Nat.{ℕ, suc, ◌+◌, ◌*◌, ◌≤◌}
use native.Mathlib.Numerals.{add-one}
use native.Mathlib.Omega.{arith}
use lib.ListN.{length, set, drop, length-set}
use lib.Seq.{sets, sets-eq}
use Rattle.slicing.specs.Item.{Item, height, width}
use Rattle.slicing.specs.Merge.{swap, turn}
use Rattle.slicing.proofs.TurnLaws.{turn_cons}
use Rattle.lent.specs.Lent.{written_over}
use Rattle.writing.specs.Words.{list_words}
use Rattle.writing.specs.inside.Writing.{item_at}

pub words_length : (l : List Item) → length (list_words l) ≡ 2 * length l
unfolding list_words
words_length [] = refl
words_length (z ∷ l) =
    let rest = words_length l in
    omega arith

words_end : (l : List Item) (z : Item) → list_words (l ++ (z ∷ [])) ≡ list_words l ++ (height z ∷ width z ∷ [])
unfolding list_words
words_end [] z = refl
words_end (y ∷ l) z = ap (λ (ws : List ℕ). height y ∷ width y ∷ ws) (words_end l z)

-- The first item is the last of the turned list.
pub words_turned : (z : Item) (l : List Item) → list_words (turn (z ∷ l)) ≡ list_words (turn l) ++ (width z ∷ height z ∷ [])
words_turned z l = ap list_words (turn_cons z l) ∙ words_end (turn l) (swap z)

-- Words from the buffer's start are stores of theirs in turn.
pub over_sets : (ws out : List ℕ) → length ws ≤ length out → sets out 0 ws ≡ written_over ws out
unfolding written_over
over_sets ws out room =
    let all : 0 + length ws ≡ length ws = omega arith in
    sets-eq ws out 0 (omega arith) ∙ ap (λ (n : ℕ). ws ++ drop n out) all

-- The stores of an item's words, and then of those after it.
pub sets_more : (out : List ℕ) (at x y : ℕ) (ws : List ℕ) → sets (item_at out at x y) (at + 2) ws ≡ sets out at (x ∷ y ∷ ws)
unfolding item_at
sets_more out at x y ws =
    let two : at + 2 ≡ suc (suc at) = omega arith in
    ap₂ (λ (i : ℕ) (j : ℕ). sets (set (set out at x) i y) j ws) (add-one at) two

pub length_item : (out : List ℕ) (at x y : ℕ) → length (item_at out at x y) ≡ length out
unfolding item_at
length_item out at x y = simp length-set
