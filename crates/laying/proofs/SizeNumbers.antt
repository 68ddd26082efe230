-- The number of the size at a place of a stored gauge's list is read off the word behind the list.
-- The table says where the list starts and how long it is, and a word that names a size is not 0 and so stands in the scratch.
use mathlib.Core.Path.{◌≡◌, ap, ap₂, ◌∙◌}
use mathlib.Core.List.{List}
use Prim.Native.Nat.{ℕ, ◌+◌, ◌*◌, ◌≤◌, ◌<◌}
use native.Mathlib.Omega.{arith}
use lib.ListN.{length, get_or}
use Rattle.slicing.specs.Item.{Item, size}
use Rattle.slicing.specs.Useful.{index_of, gauge_shapes}
use Rattle.slicing.specs.Tree.{gauge}
use Rattle.useful.specs.inside.Order.{list_places, order_word, InOrder}
use Rattle.useful.proofs.Digits.{digits_some, digits_all}
use Rattle.useful.proofs.Places.{places_length}
use Rattle.stored.proofs.PartLists.{own_gauge}
use Rattle.laying.specs.inside.Laying.{GaugePlace}
use Rattle.laying.proofs.StretchLaws.{word_inside, table_inside}

-- Some stored gauge, and a place of its list.
abbrev pub AtPlace : List ℕ → ℕ → ℕ → Type 0
AtPlace s part k = (gap : ℕ) × (sizes : List Item) × GaugePlace gap s part sizes k

-- The number is that of the size at the place, of any such gauge.
abbrev pub NumberIs : List ℕ → ℕ → ℕ → ℕ → Type 0
NumberIs s part k n =
    (gap : ℕ) (sizes : List Item) → GaugePlace gap s part sizes k → n ≡ index_of (get_or (gauge_shapes sizes) k (size 0 0)) sizes + 1

order_some : (sizes : List Item) → 1 ≤ length (gauge_shapes sizes) → 1 ≤ order_word sizes
unfolding order_word
order_some sizes some =
    let many = places_length sizes in
    let all = digits_all (list_places sizes) in
    let one = digits_some (list_places sizes) (length (list_places sizes)) (omega arith) (omega arith) in
    omega arith

module _ {s : List ℕ} {part k : ℕ} where
  pub number_table : AtPlace s part k → 4 * part + 3 < length s
  number_table pre = table_inside pre.0 s part (gauge pre.1) pre.2.stored

  -- With the words that are read of the table.
  module _ {from count : ℕ} (from_is : from ≡ get_or s (4 * part) 0) (count_is : count ≡ get_or s (4 * part + 1) 0) where
    module _ (gap : ℕ) (sizes : List Item) (g : GaugePlace gap s part sizes k) where
      as_many : count ≡ length (gauge_shapes sizes)
      as_many = count_is ∙ g.stored.0.count_is ∙ ap length (own_gauge gap sizes)

      named : get_or s (from + count) 0 ≡ order_word sizes
      named =
          let long = count_is ∙ g.stored.0.count_is in
          ap₂ (λ (f n : ℕ). get_or s (f + n) 0) from_is long ∙ g.stored.1

      in_order : InOrder sizes (get_or s (from + count) 0) count k
      in_order =
          record {
            few = g.few;
            order_is = named;
            count_is = as_many;
            in_list = let many = as_many in let less = g.in_list in omega arith;
          }

      behind_inside : from + count < length s
      behind_inside =
          let less = g.in_list in
          let word = named in
          let some = order_some sizes (omega arith) in
          word_inside s (from + count) (omega arith)

    pub number_inside : AtPlace s part k → from + count < length s
    number_inside pre = behind_inside pre.0 pre.1 pre.2

    pub number_ready : AtPlace s part k → (sizes : List Item) × InOrder sizes (get_or s (from + count) 0) count k
    number_ready pre = (pre.1, in_order pre.0 pre.1 pre.2)

    pub number_is : {n : ℕ} → ((sizes : List Item) → InOrder sizes (get_or s (from + count) 0) count k → n ≡ index_of (get_or (gauge_shapes sizes) k (size 0 0)) sizes + 1) → NumberIs s part k n
    number_is read gap sizes g = read sizes (in_order gap sizes g)
