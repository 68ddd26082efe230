-- What the functions that write the sheet ask of the words of a layout. No public contract cites it.
use Rattle.std.specs.Prelude.{◌≡◌, List, ℕ, ◌+◌, ◌*◌, ◌≤◌, ◌<◌, length, get_or}
use Rattle.checks.specs.Limits.{most_gauges}
use Rattle.slicing.specs.Item.{Item, size, height, width}
use Rattle.slicing.specs.Good.{Limited}
use Rattle.covering.specs.Covered.{total}
use Rattle.text.specs.declared.page.Page.{Page}
use Rattle.text.specs.inside.Writing.{Fits}
use Rattle.materiallines.specs.Lines.{gauge_lines, sheet_bytes}

-- The size at an index.
abbrev pub size_at : List Item → ℕ → Item
size_at sizes i = get_or sizes i (size 0 0)

-- The words are five a gauge, of which the last two are width and height of its size.
pub record Holds (layout : List ℕ) (sizes : List Item) : Type 0 where
  pub long : length layout ≡ 5 * length sizes
  pub wide : (i : ℕ) → i < length sizes → get_or layout (5 * i + 3) 0 ≡ width (size_at sizes i)
  pub high : (i : ℕ) → i < length sizes → get_or layout (5 * i + 4) 0 ≡ height (size_at sizes i)

-- They hold at most 64 sizes, each within the limits.
pub record Sized (layout : List ℕ) : Type 0 where
  pub sizes : List Item
  pub held : Holds layout sizes
  pub few : length sizes ≤ most_gauges
  pub limited : (i : ℕ) → i < length sizes → Limited (size_at sizes i)

-- With room for their lines on a page.
pub record Listable (page : Page ℕ) (layout : List ℕ) : Type 0 where
  pub sized : Sized layout
  pub room : Fits page (gauge_lines 1 sized.sizes)

-- With room for the whole sheet, of a face that their areas are not more than.
pub record Renderable (layout : List ℕ) (face bytes : ℕ) : Type 0 where
  pub sized : Sized layout
  pub inside : total sized.sizes ≤ face
  pub room : sheet_bytes (length sized.sizes) ≤ bytes
