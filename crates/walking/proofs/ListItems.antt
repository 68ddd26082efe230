-- The items that stand in a buffer's words: the first of those left, how many they are, that the words of a list are its items, and that a height written after them leaves them.
-- Each goes down the items, two words at a time.
use mathlib.Core.Path.{◌≡◌, refl, sym, ap, ap₂, ◌∙◌}
use mathlib.Core.List.{List, [], ◌∷◌, ◌++◌}
use Prim.Native.Nat.{ℕ, zero, suc, ◌+◌, ◌*◌, ◌-◌, ◌≤◌, ◌<◌}
use native.Mathlib.Omega.{arith}
use lib.ListN.{length, get_or, set, drop, length-set}
use lib.Seq.{get_or-set_same, get_or-set_other}
use Rattle.slicing.specs.Item.{Item, size}
use Rattle.lent.specs.Lent.{written_over}
use Rattle.writing.specs.Words.{list_words}
use Rattle.walking.specs.Walk.{present_width}
use Rattle.walking.specs.inside.Walking.{items_at, items_left, ClosedOver}

-- The item at a place.
abbrev pub item_at : List ℕ → ℕ → Item
item_at words i = size (get_or words (2 * i) 0) (get_or words (2 * i + 1) 0)

pub left_more : (words : List ℕ) (items i : ℕ) → i < items → items_left words items i ≡ item_at words i ∷ items_left words items (i + 1)
unfolding items_left
left_more words items i less =
    let one_more : items - i ≡ suc (items - (i + 1)) = omega arith in
    let next : suc i ≡ i + 1 = omega arith in
    ap (λ (n : ℕ). items_at words i n) one_more ∙ ap (λ (j : ℕ). item_at words i ∷ items_at words j (items - (i + 1))) next

pub left_none : (words : List ℕ) (items i : ℕ) → items ≤ i → items_left words items i ≡ []
unfolding items_left
left_none words items i over =
    let none : items - i ≡ 0 = omega arith in
    ap (λ (n : ℕ). items_at words i n) none

-- The width of the first of those left.
pub width_present : (words : List ℕ) (items i : ℕ) → i < items → get_or words (2 * i + 1) 0 ≡ present_width (items_left words items i)
width_present words items i less = ap present_width (sym (left_more words items i less))

at_length : (words : List ℕ) (i n : ℕ) → length (items_at words i n) ≡ n
at_length words i zero = refl
at_length words i (suc n) = ap suc (at_length words (suc i) n)

pub left_length : (words : List ℕ) (items : ℕ) → length (items_left words items 0) ≡ items
unfolding items_left
left_length words items =
    let all : items - 0 ≡ items = omega arith in
    ap (λ (n : ℕ). length (items_at words 0 n)) all ∙ at_length words 0 items

-- Two words before the others are an item before the others.
items_after : (h w : ℕ) (words : List ℕ) (i n : ℕ) → items_at (h ∷ w ∷ words) (suc i) n ≡ items_at words i n
items_after h w words i zero = refl
items_after h w words i (suc n) =
    let two : 2 * suc i ≡ suc (suc (2 * i)) = omega arith in
    let three : 2 * suc i + 1 ≡ suc (suc (2 * i + 1)) = omega arith in
    ap₂ ◌∷◌ (ap₂ (λ (j : ℕ) (k : ℕ). size (get_or (h ∷ w ∷ words) j 0) (get_or (h ∷ w ∷ words) k 0)) two three)
    (items_after h w words (suc i) n)

items_words : (l : List Item) (rest : List ℕ) → items_at (list_words l ++ rest) 0 (length l) ≡ l
unfolding list_words
items_words [] rest = refl
items_words (z ∷ l) rest = ap (λ (k : List Item). z ∷ k) (items_after z.m z.p (list_words l ++ rest) 0 (length l) ∙ items_words l rest)

-- The items in a buffer over whose start a list was written.
pub left_written : (l : List Item) (old : List ℕ) → items_left (written_over (list_words l) old) (length l) 0 ≡ l
unfolding items_left written_over
left_written l old =
    let all : length l - 0 ≡ length l = omega arith in
    let words : List ℕ = list_words l ++ drop (length (list_words l)) old in
    ap (λ (n : ℕ). items_at words 0 n) all ∙ items_words l (drop (length (list_words l)) old)

-- A word after the items is none of theirs.
items_before : (words : List ℕ) (j x i n : ℕ) → 2 * (i + n) ≤ j → items_at (set words j x) i n ≡ items_at words i n
items_before words j x i zero below = refl
items_before words j x i (suc n) below =
    ap₂ ◌∷◌ (ap₂ size (get_or-set_other words j (2 * i) x 0 (λ e. omega arith)) (get_or-set_other words j (2 * i + 1) x 0 (λ e. omega arith)))
    (items_before words j x (suc i) n (omega arith))

-- The height 0 written after the last.
pub closed_over : (words : List ℕ) (items : ℕ) → 2 * items + 1 < length words → ClosedOver words items (set words (2 * items) 0)
unfolding items_left
closed_over words items has =
    let long = length-set words (2 * items) 0 in
    record {
      closed = record { has = omega arith; no_height = get_or-set_same words (2 * items) 0 0 (omega arith) };
      same = items_before words (2 * items) 0 0 (items - 0) (omega arith);
    }
