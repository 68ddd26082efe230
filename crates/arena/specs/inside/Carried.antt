-- The items that a list of records carries, entered with running sums: each record with its m and its true p. No public contract cites it.
use Rattle.std.specs.Prelude.{ℕ, List, [], ◌∷◌}
use Rattle.slicing.specs.Item.{size}
use Rattle.slicing.specs.Recorded.{Recorded}
use Rattle.arena.specs.Arena.{m_word}
use Rattle.arena.specs.inside.Chain.{trues}

-- Records with their m and these p.
abbrev pub paired : List ℕ → List ℕ → List ℕ → List Recorded
paired a [] ps = []
paired a (r ∷ rs) [] = []
paired a (r ∷ rs) (p ∷ ps) = record { number = r; item = size (m_word a r) p } ∷ paired a rs ps

unfoldable pub carried : List ℕ → (ℕ → ℕ) → List ℕ → List Recorded
carried a f rs = paired a rs (trues a f rs)
