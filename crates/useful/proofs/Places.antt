-- The places of a gauge's list: each is the place of a printed size, the size there is that of the list, and no two are the same.
-- A size of the list is printed, so its index finds it, and sizes of an ordered list differ.
use mathlib.Core.Path.{◌≡◌, refl, sym, ap, ◌∙◌}
use mathlib.Core.List.{List, [], ◌∷◌, map, Memᴰ}
use Prim.Native.Nat.{ℕ, zero, suc, ◌≤◌, ◌<◌}
use native.Mathlib.Omega.{arith}
use lib.ListN.{length, get_or, length-map}
use Rattle.slicing.specs.Item.{Item, size, height}
use Rattle.slicing.specs.Useful.{index_of, gauge_shapes}
use Rattle.slicing.proofs.ByPlace.{at_index, falling}
use Rattle.slicing.proofs.Indexes.{index_found}
use Rattle.slicing.proofs.GaugeUseful.{gauge_useful}
use Rattle.useful.specs.inside.Order.{list_places}

map_at : (f : Item → ℕ) (l : List Item) (i : ℕ) → i < length l → get_or (map f l) i 0 ≡ f (get_or l i (size 0 0))
map_at f [] i less = absurd (omega arith)
map_at f (z ∷ l) zero less = refl
map_at f (z ∷ l) (suc i) less = map_at f l i (omega arith)

module _ (s : List Item) where
  pub places_length : length (list_places s) ≡ length (gauge_shapes s)
  unfolding list_places
  places_length = length-map (gauge_shapes s) (λ (z : Item). index_of z s)

  pub places_few : length (list_places s) ≤ length s
  places_few = let short = (gauge_useful s).short in omega (arith, places_length)

  module _ (i : ℕ) (less : i < length (list_places s)) where
    abbrev here : Item
    here = get_or (gauge_shapes s) i (size 0 0)

    pub place_is : get_or (list_places s) i 0 ≡ index_of here s
    unfolding list_places
    place_is = map_at (λ (z : Item). index_of z s) (gauge_shapes s) i (omega (arith, places_length))

    here_in : Memᴰ here (gauge_shapes s)
    here_in = at_index (gauge_shapes s) i (size 0 0) (omega (arith, places_length))

    printed : Memᴰ here s
    printed = (gauge_useful s).sizes.from_size here here_in

    pub place_inside : get_or (list_places s) i 0 < length s
    place_inside =
        let found = (index_found here s (size 0 0) printed).index in
        let same = place_is in
        omega arith

    -- The size that is printed at the place is the item of the list.
    pub place_size : get_or s (get_or (list_places s) i 0) (size 0 0) ≡ here
    place_size = ap (λ (k : ℕ). get_or s k (size 0 0)) place_is ∙ (index_found here s (size 0 0) printed).same

  -- The number of the size is one digit.
  pub place_low : length s ≤ 8 → (i : ℕ) → i < length (list_places s) → get_or (list_places s) i 0 < 15
  place_low few i less = let inside = place_inside i less in omega arith

  pub places_apart : (i j : ℕ) → i < j → j < length (list_places s) → get_or (list_places s) i 0 ≡ get_or (list_places s) j 0 → ⊥
  places_apart i j before less e =
      let first = place_size i (omega arith) in
      let second = place_size j less in
      let same = ap height (sym first ∙ ap (λ (k : ℕ). get_or s k (size 0 0)) e ∙ second) in
      let falls = falling (gauge_shapes s) (gauge_useful s).sizes.order i j before (omega (arith, places_length)) in
      omega arith
