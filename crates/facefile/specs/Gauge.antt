-- Document 01, "Levels and the rest": the size bytes of one gauge.
use Rattle.std.specs.Prelude.{List, [], ◌∷◌, ℕ, zero, suc, ◌/◌, ◌%◌}
use Rattle.checks.specs.Answer.{Answer, refused, taken}
use Rattle.slicing.specs.Item.{Item, height, width}
use Rattle.slicing.specs.Tree.{Tree, gauges_of}

-- Heights and widths, four bytes a size, the high byte first.
abbrev pub size_bytes : List Item → List ℕ
size_bytes [] = []
size_bytes (z ∷ zs) = height z / 256 ∷ height z % 256 ∷ width z / 256 ∷ width z % 256 ∷ size_bytes zs

-- The sizes of gauge k, counted from 1; none where there is no such gauge.
abbrev pub gauge_numbered : List (List Item) → ℕ → List Item
gauge_numbered gauges zero = []
gauge_numbered [] (suc k) = []
gauge_numbered (z ∷ gauges) (suc zero) = z
gauge_numbered (z ∷ gauges) (suc (suc k)) = gauge_numbered gauges (suc k)

-- The part is empty if the file is refused or there is no such gauge.
unfoldable pub gauge_bytes : Answer Tree → ℕ → List ℕ
gauge_bytes (refused c) k = []
gauge_bytes (taken t) k = size_bytes (gauge_numbered (gauges_of t) k)
