-- The width for a height over the outer sizes and the layouts of a face: that of the narrowest no taller, and 0 exactly where none is as low.
-- Every legal layout has an outer size no taller and no wider than it, every outer size has a layout of just that size, and none has the width 0.
use mathlib.Core.Path.{◌≡◌, subst}
use mathlib.Core.List.{Memᴰ}
use mathlib.Core.Logic.{⊎_elim}
use Prim.Native.Nat.{ℕ, ◌≤◌}
use native.Mathlib.Omega.{arith}
use Rattle.slicing.specs.Item.{Item, width}
use Rattle.slicing.specs.Tree.{Tree, gauge, beside, stacked}
use Rattle.slicing.specs.Good.{Good}
use Rattle.slicing.specs.Shapes.{shapes}
use Rattle.slicing.specs.Choice.{Choice, extent}
use Rattle.slicing.specs.Layout.{Layout, Legal}
use Rattle.slicing.specs.Fit.{place}
use Rattle.slicing.proofs.ShapeLaws.{shapes_chosen}
use Rattle.slicing.proofs.LayoutMet.{HasRoom, layout_met, zero_corner}
use Rattle.slicing.proofs.Placing.{placed}
use Rattle.walking.specs.Widths.{width_for}
use Rattle.walking.specs.WidthMeans.{LeastWidth, AllTaller, NarrowestLayout, NoLayout, WidthMeans, met, not_met}
use Rattle.walking.proofs.WidthLaws.{width_decided}

-- No outer size of a good tree has the width 0.
extent_wide : (gap : ℕ) (t : Tree) → Good t → (c : Choice t) → 1 ≤ width (extent gap t c)
extent_wide gap (gauge s) h c = (h.limited c.0 c.1).wide
extent_wide gap (beside a b) h c = let x = extent_wide gap a h.0 c.0 in omega arith
extent_wide gap (stacked a b) h c = let x = extent_wide gap a h.0 c.0 in omega arith

shapes_wide : (gap : ℕ) (t : Tree) → Good t → (z : Item) → Memᴰ z (shapes gap t) → 1 ≤ width z
shapes_wide gap t h z i =
    let chosen = shapes_chosen gap t z h i in
    subst (λ (y : Item). 1 ≤ width y) chosen.same (extent_wide gap t h chosen.choice)

module _ (gap h : ℕ) (t : Tree) (good : Good t) where
  -- The outer size no taller and no wider than a layout.
  room : (l : Layout t) → Legal gap t l → HasRoom gap t l 0 0
  room l legal = let corner = zero_corner t l in layout_met gap t l 0 0 good legal corner.0 corner.1

  narrowest : (w : ℕ) → LeastWidth h (shapes gap t) w → NarrowestLayout gap h t w
  narrowest w r =
      let sits = placed gap t r.item 0 0 good r.item_in in
      let top = sits.top in
      let right = sits.right in
      let same = r.same in
      let low = r.not_taller in
      record {
        layout = place gap t r.item 0 0;
        legal = sits.legal;
        not_taller = omega arith;
        same = omega arith;
        least = λ l legal low_too.
            let own = room l legal in
            let tall = own.not_taller in
            let wide = own.no_wider in
            let narrow = r.least own.item own.item_in (omega arith) in
            omega arith;
      }

  no_layout : AllTaller h (shapes gap t) → NoLayout gap h t
  no_layout all =
      record {
        none = λ l legal low.
            let own = room l legal in
            let tall = own.not_taller in
            let taller = all.taller own.item own.item_in in
            omega arith;
      }

-- "Each width must be the least among the outer sizes no taller than that height, found for it by itself"; "0 stands for a height that no face meets", and for no other.
pub width_means : (gap h : ℕ) (t : Tree) → Good t → WidthMeans gap h t (width_for h (shapes gap t))
width_means gap h t good =
    ⊎_elim
    (λ (r : LeastWidth h (shapes gap t) (width_for h (shapes gap t))).
    let some = shapes_wide gap t good r.item r.item_in in
    let same = r.same in
    met (omega arith) r (narrowest gap h t good _ r))
    (λ (none : AllTaller h (shapes gap t) × (width_for h (shapes gap t) ≡ 0)).
    not_met none.1 none.0 (no_layout gap h t good none.0))
    (width_decided h (shapes gap t))
