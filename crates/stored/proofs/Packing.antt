-- The useful sizes of a gauge packed from the last to the first: so long as i are left, those from the i-th on stand before the end; and a gauge so packed is a part.
-- The last digit of what is left of the word names the size before those that stand, and each turn writes it in front of them.
use mathlib.Core.Path.{◌≡◌, refl, sym, ap, subst, ◌∙◌}
use mathlib.Core.List.{List, [], ◌∷◌}
use Prim.Native.Nat.{ℕ, zero, suc, ◌+◌, ◌*◌, ◌-◌, ◌/◌, ◌%◌, ◌^◌, ◌≤◌, ◌<◌}
use native.Mathlib.Omega.{arith}
use lib.ListN.{length, get_or, set, drop, length-set, drop_of_length-le}
use lib.Seq.{get_or-set_same, get_or-set_other}
use Rattle.slicing.specs.Item.{Item, size}
use Rattle.slicing.specs.Useful.{gauge_shapes}
use Rattle.slicing.proofs.GaugeUseful.{gauge_useful}
use Rattle.sizes.specs.declared.Size.{Size}
use Rattle.sizes.specs.inside.Sizes.{sizes_in, Sized, SizeIn}
use Rattle.sizes.proofs.SizesIn.{in_length}
use Rattle.useful.specs.inside.Order.{GaugeBytes, list_places, first_digits, order_word}
use Rattle.useful.proofs.Digits.{digits_all}
use Rattle.useful.proofs.Places.{places_length, places_few}
use Rattle.useful.proofs.LastDigit.{Digit, digit, none_left, size_read}
use Rattle.packed.specs.inside.Packed.{pack, HasList}
use Rattle.packed.proofs.StoredLists.{Low}
use Rattle.stored.specs.inside.PartWords.{entry_at}
use Rattle.stored.specs.inside.Adding.{Room, PackedBefore, GaugeAdded}
use Rattle.stored.proofs.EntryLaws.{entry_other, entry_added}

-- An item more, written before the first.
has_before : (s : List ℕ) (from : ℕ) (l : List Item) (y : Item) (word : ℕ) → HasList s (from + 1) l → word ≡ pack y → Low y → from < length s → HasList (set s from word) from (y ∷ l)
has_before s from l y word has word_is low inside =
    record {
      inside = let within = has.inside in let same = length-set s from word in omega arith;
      at = at;
      low = lows;
    }
  where
    at : (i : ℕ) → i < length (y ∷ l) → get_or (set s from word) (from + i) 0 ≡ pack (get_or (y ∷ l) i (size 0 0))
    at zero less =
        let place : from + 0 ≡ from = omega arith in
        ap (λ (n : ℕ). get_or (set s from word) n 0) place ∙ get_or-set_same s from word 0 inside ∙ word_is
    at (suc i) less =
        let place : from + suc i ≡ from + 1 + i = omega arith in
        get_or-set_other s from (from + suc i) word 0 (λ e. omega arith)
        ∙ ap (λ (n : ℕ). get_or s n 0) place
        ∙ has.at i (omega arith)

    lows : (i : ℕ) → i < length (y ∷ l) → Low (get_or (y ∷ l) i (size 0 0))
    lows zero less = low
    lows (suc i) less = has.low i (omega arith)

-- What is asked: the word is that of so many sizes, and there is room for them before the end.
abbrev pub Packable : List ℕ → ℕ → List ℕ → ℕ → Type 0
Packable s end bytes named =
    (n : ℕ) × GaugeBytes n bytes × (named ≡ order_word (sizes_in n bytes)) × (n ≤ end) × (end ≤ length s)

-- What the loop keeps: the sizes that the first i digits name are left, and those after them stand.
pub record Packing (s₀ : List ℕ) (end : ℕ) (bytes : List ℕ) (s : List ℕ) (at left : ℕ) : Type 0 where
  pub n : ℕ
  pub gauge : GaugeBytes n bytes
  pub enough : n ≤ end
  pub inside : end ≤ length s₀
  pub i : ℕ
  pub within : i ≤ length (list_places (sizes_in n bytes))
  pub left_is : left ≡ first_digits (list_places (sizes_in n bytes)) i
  pub at_is : at + (length (list_places (sizes_in n bytes)) - i) ≡ end
  pub length_kept : length s ≡ length s₀
  pub written : HasList s at (drop i (gauge_shapes (sizes_in n bytes)))
  pub before : (j : ℕ) → j < at → get_or s j 0 ≡ get_or s₀ j 0
  pub behind : (j : ℕ) → end ≤ j → get_or s j 0 ≡ get_or s₀ j 0

pub packing_start : (s : List ℕ) (end : ℕ) (bytes : List ℕ) (named : ℕ) → Packable s end bytes named → Packing s end bytes s end named
unfolding order_word
packing_start s end bytes named p =
    let sizes = sizes_in p.0 bytes in
    let many = places_length sizes in
    let inside = p.4 in
    let none : drop (length (list_places sizes)) (gauge_shapes sizes) ≡ [] = drop_of_length-le (gauge_shapes sizes) {i = length (list_places sizes)} (omega arith) in
    record {
      n = p.0;
      gauge = p.1;
      enough = p.3;
      inside = inside;
      i = length (list_places sizes);
      within = omega arith;
      left_is = p.2 ∙ sym (digits_all (list_places sizes));
      at_is = omega arith;
      length_kept = refl;
      written =
          subst (λ (l : List Item). HasList s end l) (sym none)
          (record { inside = omega arith; at = λ i less. absurd (omega arith); low = λ i less. absurd (omega arith) });
      before = λ j less. refl;
      behind = λ j more. refl;
    }

module _ (s₀ : List ℕ) (end : ℕ) (bytes : List ℕ) (s : List ℕ) (at left : ℕ) (g : Packing s₀ end bytes s at left) where
  abbrev sizes : List Item
  sizes = sizes_in g.n bytes

  abbrev places : List ℕ
  places = list_places sizes

  module _ (more : 0 < left) where
    taken : Digit sizes left g.i
    taken =
        let many = in_length g.n bytes in
        let few = g.gauge.few in
        digit sizes left g.i (omega arith) g.within g.left_is more

    abbrev here : ℕ
    here = taken.j

    pub packing_digit : 1 ≤ left % 16
    packing_digit = taken.some

    pub packing_size : (n : ℕ) × Sized n bytes × (left % 16 - 1 < n)
    packing_size = (g.n, g.gauge.sized, omega (arith, taken.low, in_length g.n bytes))

    pub packing_some : 1 ≤ at
    packing_some =
        let is = g.at_is in
        let short = places_few sizes in
        let many = in_length g.n bytes in
        let enough = g.enough in
        let one = taken.before_i in
        let inside = g.within in
        omega arith

    pub packing_room : at - 1 < length s
    packing_room =
        let is = g.at_is in
        let same = g.length_kept in
        let inside = g.inside in
        let some = packing_some in
        omega arith

    pub packing_more : (z : Size) (v : ℕ) → SizeIn bytes (left % 16 - 1) z → v ≡ 65_536 * z.height + z.width → Packing s₀ end bytes (set s (at - 1) v) (at - 1) (left / 16)
    unfolding pack
    packing_more z v read word =
        let y = size z.height z.width in
        let is = g.at_is in
        let one = taken.before_i in
        let within = g.within in
        let some = packing_some in
        let back : at ≡ at - 1 + 1 = omega arith in
        let standing : HasList s (at - 1 + 1) (drop (here + 1) (gauge_shapes sizes)) = subst (λ (x : ℕ). HasList s x (drop (here + 1) (gauge_shapes sizes))) back (subst (λ (i : ℕ). HasList s at (drop i (gauge_shapes sizes))) one g.written) in
        let low : Low y = (read.height_fits, read.width_fits) in
        let grown = has_before s (at - 1) (drop (here + 1) (gauge_shapes sizes)) y v standing word low packing_room in
        record {
          n = g.n;
          gauge = g.gauge;
          enough = g.enough;
          inside = g.inside;
          i = here;
          within = omega arith;
          left_is = taken.rest;
          at_is = omega arith;
          length_kept = length-set s (at - 1) v ∙ g.length_kept;
          written = subst (λ (l : List Item). HasList (set s (at - 1) v) (at - 1) l) (sym (size_read bytes g.n left g.i z taken read)) grown;
          before = λ j less. get_or-set_other s (at - 1) j v 0 (λ e. omega arith) ∙ g.before j (omega arith);
          behind = λ j less. get_or-set_other s (at - 1) j v 0 (λ e. omega arith) ∙ g.behind j less;
        }

  module _ (over : left ≤ 0) where
    all_packed : g.i ≡ 0
    all_packed = none_left places g.i left g.within g.left_is over

    pub packing_done : (n : ℕ) → GaugeBytes n bytes → PackedBefore s₀ s at end (gauge_shapes (sizes_in n bytes))
    packing_done n gauge =
        let sized = gauge.sized in
        let kept = g.gauge.sized in
        let same : g.n ≡ n = omega arith in
        let none = all_packed in
        let is = g.at_is in
        let many = places_length sizes in
        subst (λ (m : ℕ). PackedBefore s₀ s at end (gauge_shapes (sizes_in m bytes))) same
        (record {
          list = subst (λ (i : ℕ). HasList s at (drop i (gauge_shapes sizes))) all_packed g.written;
          to_end = omega arith;
          before = g.before;
          behind = g.behind;
        })

-- Adding a gauge: a word is stored behind the places of its sizes, and the useful ones are packed before it.
module _ (s₀ : List ℕ) (e to n : ℕ) (bytes : List ℕ) (word : ℕ) (room : Room s₀ e to (n + 1)) where
  pub gauge_packable : (named : ℕ) → GaugeBytes n bytes → named ≡ order_word (sizes_in n bytes) → Packable (set s₀ (to + n) word) (to + n) bytes named
  gauge_packable named gauge is_named =
      let items = room.items in
      let long = room.long in
      let same = length-set s₀ (to + n) word in
      (n, gauge, is_named, omega arith, omega arith)

  module _ (s : List ℕ) (from : ℕ) (kept : length s ≡ length (set s₀ (to + n) word)) (packed : PackedBefore (set s₀ (to + n) word) s from (to + n) (gauge_shapes (sizes_in n bytes))) where
    pub gauge_length : length s ≡ length s₀
    gauge_length = kept ∙ length-set s₀ (to + n) word

    pub gauge_upward : from ≤ to + n
    gauge_upward = let to_end = packed.to_end in omega arith

    from_low : to ≤ from
    from_low =
        let short = (gauge_useful (sizes_in n bytes)).short in
        let many = in_length n bytes in
        let to_end = packed.to_end in
        omega arith

    pub gauge_fits : (4 * e + 4 ≤ length s) × (from < 65_536) × (to + n - from < 65_536) × (e < 127) × (1 < 2 ^ 32)
    gauge_fits =
        let same = gauge_length in
        let upward = gauge_upward in
        let items = room.items in
        let long = room.long in
        let few = room.part in
        (omega arith, omega arith, omega arith, few, omega arith)

    -- It is a part once its words stand in the table, where the word behind it is the one that names its sizes.
    pub gauge_added : (z : List ℕ) → z ≡ entry_at s e from (to + n - from) 1 1 → word ≡ order_word (sizes_in n bytes) → GaugeAdded s₀ z e to (to + n) (sizes_in n bytes)
    gauge_added z stored is_named =
        let long = room.long in
        let few = room.part in
        let after = room.from in
        let items = room.items in
        let low = from_low in
        let to_end = packed.to_end in
        let before : (i : ℕ) → i < from → get_or s i 0 ≡ get_or s₀ i 0 = λ i less. packed.before i less ∙ get_or-set_other s₀ (to + n) i word 0 (λ k. omega arith) in
        subst (λ (x : List ℕ). GaugeAdded s₀ x e to (to + n) (sizes_in n bytes)) (sym stored)
        (record {
          from = from;
          low = low;
          to_end = to_end;
          added = entry_added s e from (to + n - from) 1 1 (omega arith) s₀ (gauge_shapes (sizes_in n bytes)) few (omega arith) (omega arith) packed.list gauge_length before;
          named =
              entry_other s e from (to + n - from) 1 1 (to + n) (λ u. omega arith) (λ u. omega arith) (λ u. omega arith) (λ u. omega arith)
              ∙ packed.behind (to + n) (omega arith)
              ∙ get_or-set_same s₀ (to + n) word 0 (omega arith)
              ∙ is_named;
        })
