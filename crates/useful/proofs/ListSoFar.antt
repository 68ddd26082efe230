-- The word of a gauge's list, digit by digit: it has the digits of the items that are not lower than the present height.
-- The next item of the list is the narrowest of the lower sizes, and where no size is lower the list has no more items.
use mathlib.Core.Path.{◌≡◌, refl, sym, ap, subst, ◌∙◌}
use mathlib.Core.Bool.{Bool, true, false}
use mathlib.Core.List.{List}
use Rattle.std.specs.Prelude.{Some, None}
use Prim.Native.Nat.{ℕ, ◌+◌, ◌*◌, ◌≤◌, ◌<◌}
use native.Mathlib.Nat.{pow-le-pow_right}
use native.Mathlib.Omega.{arith}
use lib.ListN.{length}
use lib.Dec.{ltb}
use borrow.Author.Tests.{ltb-true, ltb-false}
use Rattle.slicing.specs.Item.{Item, size, height}
use Rattle.slicing.specs.Useful.{gauge_shapes}
use Rattle.slicing.proofs.Indexes.{index_found}
use Rattle.slicing.proofs.GaugeUseful.{gauge_useful}
use Rattle.sizes.specs.inside.Sizes.{sizes_in}
use Rattle.sizes.specs.declared.Size.{Size}
use Rattle.sizes.proofs.SizesIn.{in_length}
use Rattle.useful.specs.inside.Order.{GaugeBytes, list_places, first_digits, order_word}
use Rattle.useful.specs.inside.Narrowest.{size_no, Narrowest, NextBelow}
use Rattle.useful.proofs.Digits.{digits_more, digits_none, digits_all, digits_fit}
use Rattle.useful.proofs.Places.{places_length, place_is, place_low}
use Rattle.useful.proofs.SizesFit.{Bytes, sizes_fit}
use Rattle.useful.proofs.NextItem.{HighItems, NextItem, item_printed, items_fall, next_item}

-- An item of the list is lower than h where every size is.
item_lower : (s : List Item) (h : ℕ) → ((i : ℕ) → i < length s → height (size_no s i) < h) → (j : ℕ) → j < length (gauge_shapes s) → height (size_no (gauge_shapes s) j) < h
item_lower s h lower j less =
    let found = index_found _ s (size 0 0) (item_printed s j less) in
    let same = ap height found.same in
    let low = lower _ found.index in
    omega arith

-- The list goes on at the height of its next item.
high_more : (s : List Item) (h i : ℕ) → HighItems s h i → i < length (gauge_shapes s) → HighItems s (height (size_no (gauge_shapes s) i)) (i + 1)
high_more s h i known less =
    record {
      to_end = omega arith;
      higher = λ j before. step j before (ltb j i) refl;
      lower = λ j after inside. items_fall s i j (omega arith) inside;
    }
  where
    step : (j : ℕ) → j < i + 1 → (b : Bool) → ltb j i ≡ b → height (size_no (gauge_shapes s) i) ≤ height (size_no (gauge_shapes s) j)
    step j before true e = let lower = items_fall s j i (ltb-true j i e) less in omega arith
    step j before false e =
        let over = ltb-false j i e in
        let place : j ≡ i = omega arith in
        let same = ap (λ (n : ℕ). height (size_no (gauge_shapes s) n)) place in
        omega arith

-- The word of the items that are not lower than h.
pub record SoFar (s : List Item) (word h : ℕ) : Type 0 where
  items : ℕ
  high : HighItems s h items
  word_is : word ≡ first_digits (list_places s) items
  few : length s ≤ 8

module _ (bytes : List ℕ) (count : ℕ) where
  abbrev s : List Item
  s = sizes_in count bytes

  as_many : length s ≡ count
  as_many = in_length count bytes

  pub none_yet : Bytes bytes → GaugeBytes count bytes → SoFar s 0 65_536
  none_yet fit gauge =
      record {
        items = 0;
        high = record {
          to_end = omega arith;
          higher = λ j before. absurd (omega arith);
          lower = λ j after less. item_lower s 65_536 (λ i inside. (sizes_fit count bytes fit i (omega (arith, as_many))).low) j less;
        };
        word_is = sym (digits_none (list_places s));
        few = omega (arith, as_many);
      }

  -- Where no size is lower, no item is left.
  no_more : (word h : ℕ) (known : SoFar s word h) → NextBelow s h None → known.items < length (gauge_shapes s) → ⊥
  no_more word h known none less =
      let found = index_found _ s (size 0 0) (item_printed s known.items less) in
      let same = ap height found.same in
      let tall = none _ found.index in
      let low = known.high.lower known.items (omega arith) less in
      omega arith

  pub all_listed : (word h : ℕ) → SoFar s word h → NextBelow s h None → word ≡ order_word s
  unfolding order_word
  all_listed word h known last =
      let none = no_more word h known last in
      let all : known.items ≡ length (list_places s) = omega (arith, known.high.to_end, places_length s) in
      known.word_is ∙ ap (first_digits (list_places s)) all ∙ digits_all (list_places s)

  module _ (word h k : ℕ) (z : Size) (known : SoFar s word h) (below : NextBelow s h (Some (k, z))) where
    narrowest : Narrowest s h k
    narrowest = below.0

    pub place_inside : k < count
    place_inside = omega (arith, narrowest.inside, as_many)

    item : NextItem s known.items k
    item = next_item s h k narrowest known.items known.high

    listed : known.items < length (list_places s)
    listed = omega (arith, item.inside, places_length s)

    -- A list of eight items has at most seven digits before the last.
    pub digit_fits : word < 268_435_456
    digit_fits =
        let fits = digits_fit (list_places s) (place_low s known.few) known.items (omega (arith, listed)) in
        let short : known.items ≤ 7 = omega (arith, known.few, item.inside, (gauge_useful s).short) in
        let power = pow-le-pow_right {n = 16} (omega arith) short in
        omega (arith, known.word_is)

    digit_more : 16 * word + (k + 1) ≡ first_digits (list_places s) (known.items + 1)
    digit_more =
        let more = digits_more (list_places s) known.items listed in
        let place = place_is s known.items listed in
        omega (arith, known.word_is, item.index)

    -- The size is the next item.
    same_height : z.height ≡ height (size_no s k)
    same_height = ap height below.1

    pub falls : z.height < h
    falls = omega (arith, same_height, narrowest.lower)

    pub one_more : SoFar s (16 * word + (k + 1)) z.height
    one_more =
        let at_item = same_height ∙ sym (ap height item.same) in
        record {
          items = known.items + 1;
          high = subst (λ (n : ℕ). HighItems s n (known.items + 1)) (sym at_item) (high_more s h known.items known.high item.inside);
          word_is = digit_more;
          few = known.few;
        }
