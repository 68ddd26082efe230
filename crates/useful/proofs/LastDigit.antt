-- A loop that takes the digits of a gauge's word off from the last: the digit names the next size before those that were taken, and no word is left where no size is.
-- The word that is left is that of the first places of the list, and the size that is printed at a place of the list is the list's item.
use mathlib.Core.Path.{◌≡◌, refl, sym, ap, ◌∙◌}
use mathlib.Core.List.{List, ◌∷◌}
use Prim.Native.Nat.{ℕ, zero, suc, ◌+◌, ◌-◌, ◌/◌, ◌%◌, ◌≤◌, ◌<◌}
use native.Mathlib.Numerals.{add-one}
use native.Mathlib.Omega.{arith}
use lib.ListN.{length, get_or, drop}
use lib.Seq.{drop-cons}
use Rattle.slicing.specs.Item.{Item, size}
use Rattle.slicing.specs.Useful.{gauge_shapes}
use Rattle.sizes.specs.declared.Size.{Size}
use Rattle.sizes.specs.inside.Sizes.{sizes_in, SizeIn}
use Rattle.sizes.proofs.SizesIn.{in_length}
use Rattle.useful.specs.inside.Order.{list_places, first_digits}
use Rattle.useful.proofs.Digits.{digit_last, digits_before, digits_none, digits_some}
use Rattle.useful.proofs.Places.{places_length, place_inside, place_size}

-- The last digit of the word of the first i places names place j of the list, and the word without it is that of the places before.
pub record Digit (s : List Item) (left i : ℕ) : Type 0 where
  pub j : ℕ
  pub before_i : i ≡ j + 1
  pub in_list : j < length (list_places s)
  pub some : 1 ≤ left % 16
  pub place : left % 16 - 1 ≡ get_or (list_places s) j 0
  pub low : left % 16 - 1 < length s
  pub rest : left / 16 ≡ first_digits (list_places s) j

pub digit : (s : List Item) (left i : ℕ) → length s ≤ 8 → i ≤ length (list_places s) → left ≡ first_digits (list_places s) i → 0 < left → Digit s left i
digit s left zero few inside left_is some = let none = digits_none (list_places s) in absurd (omega arith)
digit s left (suc j) few inside left_is some =
    let less : j < length (list_places s) = omega arith in
    let low = place_inside s j less in
    let word : left ≡ first_digits (list_places s) (j + 1) = left_is ∙ ap (first_digits (list_places s)) (sym (add-one j)) in
    let last = digit_last (list_places s) j less (omega arith) in
    let before = digits_before (list_places s) j less (omega arith) in
    record {
      j = j;
      before_i = omega arith;
      in_list = less;
      some = omega arith;
      place = omega arith;
      low = omega arith;
      rest = omega arith;
    }

-- No word is left where no place is.
pub none_left : (l : List ℕ) (i left : ℕ) → i ≤ length l → left ≡ first_digits l i → left ≤ 0 → i ≡ 0
none_left l zero left inside left_is none = refl
none_left l (suc i) left inside left_is none = let some = digits_some l (suc i) (omega arith) inside in absurd (omega arith)

-- What a list has from a place on.
pub rest_step : {A : Type 0} (l : List A) (k : ℕ) (d : A) → k < length l → drop k l ≡ get_or l k d ∷ drop (k + 1) l
rest_step l k d p = rw (add-one, drop-cons l k d)

-- The size that is read where the digit says is the item of the list at that place.
pub size_read : (bytes : List ℕ) (n left i : ℕ) (z : Size) (d : Digit (sizes_in n bytes) left i) → SizeIn bytes (left % 16 - 1) z → drop d.j (gauge_shapes (sizes_in n bytes)) ≡ size z.height z.width ∷ drop (d.j + 1) (gauge_shapes (sizes_in n bytes))
size_read bytes n left i z d read =
    let s = sizes_in n bytes in
    let l = gauge_shapes s in
    let many = places_length s in
    let inside = d.in_list in
    let printed : left % 16 - 1 < n = omega (arith, d.low, in_length n bytes) in
    let item : size z.height z.width ≡ get_or l d.j (size 0 0) = read.same n printed ∙ ap (λ (x : ℕ). get_or s x (size 0 0)) d.place ∙ place_size s d.j d.in_list in
    rest_step l d.j (size 0 0) (omega arith) ∙ ap (λ (y : Item). y ∷ drop (d.j + 1) l) (sym item)
