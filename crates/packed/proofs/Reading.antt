-- The word of a stored list that a place of the list, or of the list turned, is read from.
-- Item k of the list turned is the item as far from the other end, swapped, and swapping the halves of its word swaps the item.
use mathlib.Core.Path.{◌≡◌, refl, sym, ap, ◌∙◌}
use mathlib.Core.Bool.{Bool, true, false}
use mathlib.Core.List.{List, [], ◌∷◌}
use Prim.Native.Nat.{ℕ, suc, ◌+◌, ◌*◌, ◌-◌, ◌/◌, ◌%◌, ◌<◌}
use native.Mathlib.Omega.{arith}
use lib.Dec.{ltb}
use borrow.Author.Tests.{ltb-true, ltb-false}
use lib.ListN.{length, get_or, get_or-append}
use lib.Seq.{get_or_at}
use Rattle.slicing.specs.Item.{Item, size}
use Rattle.slicing.specs.Merge.{swap, turn}
use Rattle.slicing.proofs.TurnLaws.{turn_cons, turn_length}
use Rattle.packed.specs.inside.Packed.{pack, facing, HasList}

-- The last item of the list turned is the first, swapped; the others are those of the rest.
pub turn_at : (l : List Item) (k : ℕ) → k < length l → get_or (turn l) k (size 0 0) ≡ swap (get_or l (length l - 1 - k) (size 0 0))
turn_at [] k h = absurd (omega arith)
turn_at (x ∷ l) k h = step (ltb k (length l)) refl (turn_at l k)
  where
    step : (b : Bool) → ltb k (length l) ≡ b
        → (k < length l → get_or (turn l) k (size 0 0) ≡ swap (get_or l (length l - 1 - k) (size 0 0)))
        → get_or (turn (x ∷ l)) k (size 0 0) ≡ swap (get_or (x ∷ l) (suc (length l) - 1 - k) (size 0 0))
    step true e rest =
        let less = ltb-true k (length l) e in
        let place : suc (length l) - 1 - k ≡ suc (length l - 1 - k) = omega arith in
        let inside : k < length (turn l) = omega (arith, turn_length l) in
        ap (λ (z : List Item). get_or z k (size 0 0)) (turn_cons x l)
        ∙ get_or-append (turn l) (swap x ∷ []) (size 0 0) k inside
        ∙ rest less
        ∙ ap (λ (n : ℕ). swap (get_or (x ∷ l) n (size 0 0))) (sym place)
    step false e rest =
        let more = ltb-false k (length l) e in
        let place : suc (length l) - 1 - k ≡ 0 = omega arith in
        let end : length (turn l) ≡ k = omega (arith, turn_length l) in
        ap (λ (z : List Item). get_or z k (size 0 0)) (turn_cons x l)
        ∙ get_or_at (turn l) (swap x) [] (size 0 0) k end
        ∙ ap (λ (n : ℕ). swap (get_or (x ∷ l) n (size 0 0))) (sym place)

halves_swapped : (z : Item) → z.m < 65_536 → z.p < 65_536 → 65_536 * (pack z % 65_536) + pack z / 65_536 ≡ pack (swap z)
unfolding pack
halves_swapped z h k = omega arith

-- What is read for item k of a stored list of `count` items, of the list turned where `across` is true: the item's word.
abbrev pub ItemWord : List ℕ → ℕ → ℕ → Bool → ℕ → ℕ → Type 0
ItemWord s from count across k r = (l : List Item) → HasList s from l → count ≡ length l → r ≡ pack (get_or (facing across l) k (size 0 0))

-- It is read of the list as it runs, or of the list turned.
pub read_along : (s : List ℕ) (from count : ℕ) (across : Bool) (k r : ℕ) → k < count → across ≡ false → r ≡ get_or s (from + k) 0 → ItemWord s from count across k r
read_along s from count across k r h e f l has same =
    f ∙ has.at k (omega arith) ∙ rw e

pub read_across : (s : List ℕ) (from count : ℕ) (across : Bool) (k w r : ℕ) → k < count → across ≡ true → w ≡ get_or s (from + (count - 1 - k)) 0 → r ≡ 65_536 * (w % 65_536) + w / 65_536 → ItemWord s from count across k r
read_across s from count across k w r h e f g l has same =
    let place : count - 1 - k < length l = omega arith in
    let low = has.low (count - 1 - k) place in
    let word : w ≡ pack (get_or l (count - 1 - k) (size 0 0)) = f ∙ has.at (count - 1 - k) place in
    g ∙ ap (λ (n : ℕ). 65_536 * (n % 65_536) + n / 65_536) word
    ∙ halves_swapped (get_or l (count - 1 - k) (size 0 0)) low.0 low.1
    ∙ ap (λ (n : ℕ). pack (swap (get_or l (n - 1 - k) (size 0 0)))) same
    ∙ ap pack (sym (turn_at l k (omega arith)))
    ∙ rw e
