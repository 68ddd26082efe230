-- Document 02, Paper 5: what the width for a height is, with no word on how it is found: over a list of outer sizes, and over all layouts of a face.
use Rattle.std.specs.Prelude.{◌≡◌, ℕ, ◌≤◌, ◌<◌}
use mathlib.Core.List.{List, Memᴰ}
use Rattle.slicing.specs.Item.{Item, height, width}
use Rattle.slicing.specs.Tree.{Tree}
use Rattle.slicing.specs.Layout.{Layout, rightmost, topmost, Legal}
use Rattle.slicing.specs.Shapes.{shapes}

-- w is the width of an item of the list no taller than h, and no such item is narrower.
pub record LeastWidth (h : ℕ) (l : List Item) (w : ℕ) : Type 0 where
  pub item : Item
  pub item_in : Memᴰ item l
  pub not_taller : height item ≤ h
  pub same : width item ≡ w
  pub least : (y : Item) → Memᴰ y l → height y ≤ h → w ≤ width y

-- Every item of the list is taller than h.
pub record AllTaller (h : ℕ) (l : List Item) : Type 0 where
  pub taller : (y : Item) → Memᴰ y l → h < height y

-- w is the width of a layout no taller than h, and no such layout is narrower.
pub record NarrowestLayout (gap h : ℕ) (t : Tree) (w : ℕ) : Type 0 where
  pub layout : Layout t
  pub legal : Legal gap t layout
  pub not_taller : topmost t layout ≤ h
  pub same : rightmost t layout ≡ w
  pub least : (l : Layout t) → Legal gap t l → topmost t l ≤ h → w ≤ rightmost t l

-- No layout is as low as h.
pub record NoLayout (gap h : ℕ) (t : Tree) : Type 0 where
  pub none : (l : Layout t) → Legal gap t l → topmost t l ≤ h → ⊥

-- "wants the least width for each; 0 stands for a height that no face meets": w is the least width of an outer size no taller than h, which is that of the narrowest layout no taller and not 0; or it is 0, and no outer size and no layout is as low.
pub data WidthMeans (gap h : ℕ) (t : Tree) (w : ℕ) : Type 0 where
  met : 1 ≤ w → LeastWidth h (shapes gap t) w → NarrowestLayout gap h t w → WidthMeans gap h t w
  not_met : w ≡ 0 → AllTaller h (shapes gap t) → NoLayout gap h t → WidthMeans gap h t w
