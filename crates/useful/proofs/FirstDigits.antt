-- The word of sizes that stand in order has the digits 1 to their number, and each such word is a shift of that of eight sizes.
-- Sizes in order are their own list, and the index of each is its place.
use mathlib.Core.Path.{◌≡◌, sym, ap, ◌∙◌}
use mathlib.Core.List.{List}
use Prim.Native.Nat.{ℕ, zero, suc, ◌+◌, ◌-◌, ◌*◌, ◌/◌, ◌^◌, ◌≤◌, ◌<◌}
use native.Mathlib.Numerals.{add-one}
use native.Mathlib.Omega.{arith}
use lib.ListN.{length, get_or}
use Rattle.slicing.specs.Item.{Item, size}
use Rattle.slicing.specs.Good.{Ordered}
use Rattle.slicing.specs.Useful.{index_of, gauge_shapes}
use Rattle.slicing.proofs.ByPlace.{index_at}
use Rattle.slicing.proofs.GaugeUseful.{ordered_same}
use Rattle.sizes.specs.inside.Sizes.{sizes_in}
use Rattle.sizes.proofs.SizesIn.{in_length}
use Rattle.useful.specs.inside.Order.{list_places, first_digits, order_word, counting_word}
use Rattle.useful.proofs.Digits.{digits_more, digits_none, digits_all}
use Rattle.useful.proofs.Places.{places_length, place_is}
use Rattle.useful.proofs.Shifts.{shifted}

counting_before : (i : ℕ) → i < 8 → counting_word (i + 1) / 16 ≡ counting_word i
unfolding counting_word
counting_before i less = let more = ap counting_word (add-one i) in omega arith

pub first_digits_are : (count : ℕ) → 1 ≤ count → count ≤ 8 → 305_419_896 / 2 ^ (4 * (8 - count)) ≡ counting_word count
unfolding counting_word
first_digits_are count some few =
    let all : count + (8 - count) ≡ 8 = omega arith in
    ap (λ (k : ℕ). counting_word k / 2 ^ (4 * (8 - count))) (sym all) ∙ shifted counting_word 8 counting_before (8 - count) count (omega arith)

module _ (s : List Item) (order : Ordered s) where
  same_list : gauge_shapes s ≡ s
  same_list = ordered_same s order

  as_many : length (list_places s) ≡ length s
  as_many = places_length s ∙ ap length same_list

  in_place : (i : ℕ) → i < length s → get_or (list_places s) i 0 ≡ i
  in_place i less =
      place_is s i (omega (arith, as_many))
      ∙ ap (λ (l : List Item). index_of (get_or l i (size 0 0)) s) same_list
      ∙ index_at s order i less

  counted : (i : ℕ) → i ≤ length s → first_digits (list_places s) i ≡ counting_word i
  unfolding counting_word
  counted zero inside = digits_none (list_places s)
  counted (suc i) inside =
      let before = counted i (omega arith) in
      let place = in_place i (omega arith) in
      let more = digits_more (list_places s) i (omega (arith, as_many)) in
      let same = ap (first_digits (list_places s)) (add-one i) in
      omega arith

  ordered_word : order_word s ≡ counting_word (length s)
  unfolding order_word
  ordered_word =
      sym (digits_all (list_places s)) ∙ ap (first_digits (list_places s)) as_many ∙ counted (length s) (omega arith)

pub first_word_is : (count : ℕ) (bytes : List ℕ) (r : ℕ) → Ordered (sizes_in count bytes) → r ≡ counting_word count → r ≡ order_word (sizes_in count bytes)
first_word_is count bytes r order e =
    e ∙ sym (ordered_word (sizes_in count bytes) order ∙ ap counting_word (in_length count bytes))
