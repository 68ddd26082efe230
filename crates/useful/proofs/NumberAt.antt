-- The digit that stands so many digits before the end of a gauge's word is the number of the size at that place of the list.
-- A shift drops the digits behind it, and the last digit of what is left is the number of the place's size.
use mathlib.Core.Path.{◌≡◌, sym, ap, ◌∙◌}
use mathlib.Core.List.{List}
use Prim.Native.Nat.{ℕ, ◌+◌, ◌-◌, ◌*◌, ◌/◌, ◌%◌, ◌^◌, ◌≤◌, ◌<◌}
use native.Mathlib.Omega.{arith}
use lib.ListN.{length, get_or}
use Rattle.slicing.specs.Item.{Item, size}
use Rattle.slicing.specs.Useful.{index_of, gauge_shapes}
use Rattle.slicing.proofs.GaugeUseful.{gauge_useful}
use Rattle.useful.specs.inside.Order.{list_places, first_digits, order_word, InOrder}
use Rattle.useful.proofs.Digits.{digit_last, digits_before, digits_all}
use Rattle.useful.proofs.Places.{places_length, place_is, place_low}
use Rattle.useful.proofs.Shifts.{shifted}

-- A gauge's list has at most 8 items.
pub list_short : (s : List Item) (order count place : ℕ) → InOrder s order count place → count ≤ 8
list_short s order count place known = let short = (gauge_useful s).short in omega arith

module _ (s : List Item) (order count place : ℕ) (known : InOrder s order count place) where
  abbrev places : List ℕ
  places = list_places s

  all_places : length places ≡ count
  all_places = places_length s ∙ sym known.count_is

  low : (i : ℕ) → i < length places → get_or places i 0 < 15
  low = place_low s known.few

  whole : order ≡ first_digits places count
  unfolding order_word
  whole = known.order_is ∙ sym (digits_all places) ∙ ap (first_digits places) all_places

  left_over : order / 2 ^ (4 * (count - 1 - place)) ≡ first_digits places (place + 1)
  left_over =
      let behind : place + 1 + (count - 1 - place) ≡ count = omega arith in
      ap (λ (w : ℕ). w / 2 ^ (4 * (count - 1 - place))) (whole ∙ ap (first_digits places) (sym behind))
      ∙ shifted (first_digits places) (length places) (λ i less. digits_before places i less (low i less)) (count - 1 - place) (place + 1) (omega (arith, all_places))

  pub number_at : order / 2 ^ (4 * (count - 1 - place)) % 16 ≡ index_of (get_or (gauge_shapes s) place (size 0 0)) s + 1
  number_at =
      let less : place < length places = omega (arith, all_places) in
      ap (λ (w : ℕ). w % 16) left_over ∙ digit_last places place less (low place less) ∙ ap (λ (k : ℕ). k + 1) (place_is s place less)
