-- The narrowest size that is lower than a height is the first item of the gauge's list that is lower than that height.
-- An item that meets it is no wider, so it is no other; and a higher item of the list would be narrower still.
use mathlib.Core.Path.{◌≡◌, refl, sym, ap, ap₂, ◌∙◌}
use mathlib.Core.List.Memᴰ
use mathlib.Core.List.{List, Memᴰ}
use Prim.Native.Nat.{ℕ, ◌≤◌, ◌<◌}
use native.Mathlib.Omega.{arith}
use lib.ListN.{length}
use Rattle.slicing.specs.Item.{Item, size, height, width}
use Rattle.slicing.specs.Useful.{index_of, gauge_shapes}
use Rattle.slicing.proofs.ByPlace.{at_index, falling}
use Rattle.slicing.proofs.Indexes.{index_found, index_only}
use Rattle.slicing.proofs.NoTaller.{only_itself}
use Rattle.slicing.proofs.GaugeUseful.{gauge_useful}
use Rattle.useful.specs.inside.Narrowest.{size_no, Narrowest}
use Rattle.useful.proofs.NoWorse.{NoWorse}

-- The first i items of a gauge's list are those that are not lower than h.
pub record HighItems (s : List Item) (h i : ℕ) : Type 0 where
  pub to_end : i ≤ length (gauge_shapes s)
  pub higher : (j : ℕ) → j < i → h ≤ height (size_no (gauge_shapes s) j)
  pub lower : (j : ℕ) → i ≤ j → j < length (gauge_shapes s) → height (size_no (gauge_shapes s) j) < h

-- The list has an item i, which is the size at the place k, the first of its equal pairs.
pub record NextItem (s : List Item) (i k : ℕ) : Type 0 where
  pub inside : i < length (gauge_shapes s)
  pub same : size_no (gauge_shapes s) i ≡ size_no s k
  pub index : index_of (size_no (gauge_shapes s) i) s ≡ k

-- An item of the list is printed.
pub item_printed : (s : List Item) (j : ℕ) → j < length (gauge_shapes s) → Memᴰ (size_no (gauge_shapes s) j) s
item_printed s j less = (gauge_useful s).sizes.from_size _ (at_index (gauge_shapes s) j (size 0 0) less)

pub items_fall : (s : List Item) (i j : ℕ) → i < j → j < length (gauge_shapes s) → height (size_no (gauge_shapes s) j) < height (size_no (gauge_shapes s) i)
items_fall s = falling (gauge_shapes s) (gauge_useful s).sizes.order

module _ (s : List Item) (h k : ℕ) (best : Narrowest s h k) where
  abbrev z : Item
  z = size_no s k

  abbrev l : List Item
  l = gauge_shapes s

  no_worse : (x : Item) → Memᴰ x s → x.m < h → NoWorse z x
  no_worse x printed low =
      let found = index_found x s (size 0 0) printed in
      let m_same = ap height found.same in
      let p_same = ap width found.same in
      let narrow = best.narrowest (index_of x s) found.index (omega arith) in
      record {
        no_wider = omega arith;
        not_taller = λ same. let low = best.lowest (index_of x s) found.index (omega arith) (omega arith) in omega arith;
      }

  on_list : Memᴰ z l
  on_list =
      let met = (gauge_useful s).sizes.size_met z (at_index s k (size 0 0) best.inside) in
      let low = best.lower in
      let worse = no_worse met.item ((gauge_useful s).sizes.from_size met.item met.item_in) (omega arith) in
      let p_same : met.item.p ≡ z.p = omega arith in
      let tall = worse.not_taller p_same in
      let m_same : met.item.m ≡ z.m = omega arith in
      Memᴰ.cast (sym (ap₂ size m_same p_same)) met.item_in

  -- It is the item at the place i, before which no item is lower and behind which all are.
  module _ (i : ℕ) (known : HighItems s h i) where
    not_before : (j : ℕ) → j < i → size_no l j ≡ z → ⊥
    not_before j less same =
        let m_same = ap height same in
        let high = known.higher j less in
        let low = best.lower in
        omega arith

    not_after : (j : ℕ) → i < j → j < length l → size_no l j ≡ z → ⊥
    not_after j less inside same =
        let falls = items_fall s i j less inside in
        let worse = no_worse (size_no l i) (item_printed s i (omega arith)) (known.lower i (omega arith) (omega arith)) in
        let m_same = ap height same in
        let p_same = ap width same in
        let wide = worse.no_wider in
        let later = at_index l j (size 0 0) inside in
        let earlier = at_index l i (size 0 0) (omega arith) in
        let itself = only_itself l (gauge_useful s).sizes.order _ _ later earlier (omega arith) (omega arith) in
        let no_lower = ap height itself in
        omega arith

    pub next_item : NextItem s i k
    next_item =
        let j = index_of z l in
        let found = index_found z l (size 0 0) on_list in
        let above : j < i → ⊥ = λ less. not_before j less found.same in
        let below : i < j → ⊥ = λ less. not_after j less found.index found.same in
        let place : i ≡ j = omega arith in
        let same = ap (size_no l) place ∙ found.same in
        record {
          inside = omega (arith, found.index);
          same = same;
          index = ap (λ (x : Item). index_of x s) same ∙ index_only z s (size 0 0) k best.inside refl best.first;
        }
