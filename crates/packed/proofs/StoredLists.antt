-- A stored list, read either way, has as many items, and each is what the halves of its word say; it is the only list of its length at its place, and has one item more by a word written after its last.
-- Items below 65,536 both ways are got back from their words, and everything else goes item by item.
use mathlib.Core.Path.{◌≡◌, refl, sym, ap, ap₂, ◌∙◌}
use mathlib.Core.Bool.{Bool, true, false}
use mathlib.Core.List.{List, [], ◌∷◌, ◌++◌, Memᴰ}
use Prim.Native.Nat.{ℕ, zero, suc, ◌+◌, ◌-◌, ◌/◌, ◌%◌, ◌<◌}
use native.Mathlib.Omega.{arith}
use lib.Dec.{ltb}
use borrow.Author.Tests.{ltb-true, ltb-false}
use lib.ListN.{length, get_or, set, length-set, length-append, get_or-append}
use lib.Seq.{get_or_at, get_or-set_same, get_or-set_other, ext_get_or}
use Rattle.slicing.specs.Item.{Item, size}
use Rattle.slicing.proofs.TurnLaws.{turn_length}
use Rattle.packed.specs.inside.Packed.{pack, facing, HasList}
use Rattle.packed.proofs.Reading.{turn_at}

-- The list, read either way, has as many items, below 65,536 both ways.
pub facing_length : (across : Bool) (l : List Item) → length (facing across l) ≡ length l
facing_length true l = turn_length l
facing_length false l = refl

abbrev pub Low : Item → Type 0
Low z = (z.m < 65_536) × (z.p < 65_536)

pub facing_low : (across : Bool) (s : List ℕ) (from : ℕ) (l : List Item) → HasList s from l → (i : ℕ) → i < length l → Low (get_or (facing across l) i (size 0 0))
facing_low true s from l has i h =
    let low = has.low (length l - 1 - i) (omega arith) in rw (turn_at l i h) (low.1, low.0)
facing_low false s from l has i h = has.low i h

-- What is at a place is in the list.
pub place_in : (l : List Item) (i : ℕ) → i < length l → Memᴰ (get_or l i (size 0 0)) l
place_in [] i h = absurd (omega arith)
place_in (x ∷ l) zero h = Memᴰ.head refl
place_in (x ∷ l) (suc i) h = Memᴰ.tail (place_in l i (omega arith))

-- The halves of an item's word are the item.
pub m_is : (z : Item) (w h : ℕ) → Low z → w ≡ pack z → h ≡ w / 65_536 → h ≡ z.m
unfolding pack
m_is z w h low e f = omega arith

pub p_is : (z : Item) (w h : ℕ) → Low z → w ≡ pack z → h ≡ w % 65_536 → h ≡ z.p
unfolding pack
p_is z w h low e f = omega arith

pack_one : (y z : Item) → Low y → Low z → pack y ≡ pack z → y ≡ z
pack_one y z h k e =
    ap₂ size (sym (m_is y (pack z) (pack z / 65_536) h (sym e) refl) ∙ m_is z (pack z) (pack z / 65_536) k refl refl)
    (sym (p_is y (pack z) (pack z % 65_536) h (sym e) refl) ∙ p_is z (pack z) (pack z % 65_536) k refl refl)

-- A place has one list of a length.
pub has_one : (s : List ℕ) (from : ℕ) (l k : List Item) → HasList s from l → HasList s from k → length l ≡ length k → l ≡ k
has_one s from l k h g e =
    ext_get_or (size 0 0) l k e
    (λ i inside. pack_one (get_or l i (size 0 0)) (get_or k i (size 0 0)) (h.low i inside) (g.low i (omega arith)) (sym (h.at i inside) ∙ g.at i (omega arith)))

-- An item more, written after the last.
module _ (s : List ℕ) (from to : ℕ) (l : List Item) (y : Item) (word : ℕ) (has : HasList s from l) (end : from + length l ≡ to) (inside : to < length s) (word_is : word ≡ pack y) (low : Low y) where
  grown_at : (i : ℕ) (b : Bool) → ltb i (length l) ≡ b → i < length (l ++ (y ∷ [])) → get_or (set s to word) (from + i) 0 ≡ pack (get_or (l ++ (y ∷ [])) i (size 0 0))
  grown_at i true e h =
      let less = ltb-true i (length l) e in
      get_or-set_other s to (from + i) word 0 (λ k. omega arith)
      ∙ has.at i less
      ∙ ap pack (sym (get_or-append l (y ∷ []) (size 0 0) i less))
  grown_at i false e h =
      let more = ltb-false i (length l) e in
      let last : length l ≡ i = omega (arith, length-append l (y ∷ [])) in
      let place : from + i ≡ to = omega arith in
      ap (λ (n : ℕ). get_or (set s to word) n 0) place
      ∙ get_or-set_same s to word 0 inside
      ∙ word_is
      ∙ ap pack (sym (get_or_at l y [] (size 0 0) i last))

  grown_low : (i : ℕ) (b : Bool) → ltb i (length l) ≡ b → i < length (l ++ (y ∷ [])) → Low (get_or (l ++ (y ∷ [])) i (size 0 0))
  grown_low i true e h =
      let less = ltb-true i (length l) e in rw (get_or-append l (y ∷ []) (size 0 0) i less) (has.low i less)
  grown_low i false e h =
      let more = ltb-false i (length l) e in
      let last : length l ≡ i = omega (arith, length-append l (y ∷ [])) in rw (get_or_at l y [] (size 0 0) i last) low

  pub has_grown : HasList (set s to word) from (l ++ (y ∷ []))
  has_grown =
      record {
        inside = omega (arith, length-append l (y ∷ []), length-set s to word);
        at = λ i h. grown_at i (ltb i (length l)) refl h;
        low = λ i h. grown_low i (ltb i (length l)) refl h;
      }
