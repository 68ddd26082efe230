-- How the sizes of a gauge become a list of records. No public contract cites it.
use Rattle.std.specs.Prelude.{◌≡◌, List, map, ℕ, ◌+◌, ◌*◌, ◌≤◌, ◌<◌, length, get_or}
use Rattle.slicing.specs.Item.{Item}
use Rattle.slicing.specs.Useful.{gauge_shapes}
use Rattle.sizes.specs.inside.Sizes.{sizes_in, Sized}
use Rattle.useful.specs.inside.Order.{list_places, order_word}
use Rattle.arena.specs.Arena.{stride, level, m_word, level_at, m_at, p_at, forward_at}
use Rattle.arena.specs.inside.Chain.{Has, put, Away, trues, Same}
use Rattle.arena.specs.inside.Built.{Built}
use Rattle.arena.specs.inside.Backs.{Backed}
use Rattle.building.specs.inside.Building.{Hooked}

-- The records of a gauge's list, where the gauge's first printed size has the record `first`.
unfoldable pub records_of : ℕ → List Item → List ℕ
records_of first s = map (λ (k : ℕ). first + k) (list_places s)

-- Record r with a level, m and p.
unfoldable pub written : List ℕ → ℕ → ℕ → ℕ → ℕ → List ℕ
written a r l m p = put (put (put a r level_at l) r m_at m) r p_at p

-- The arena b is a with record r, so written, before the list of the head h. The head's first forward stands beside the arena: it is `last` at a, and r at b.
abbrev pub Placed : List ℕ → ℕ → ℕ → ℕ → ℕ → ℕ → ℕ → List ℕ → Type 0
Placed a h r last l m p b = Hooked 1 l (put (written a r l m p) r forward_at last) h r b

-- The arena has the head and a record for each level, there are as many sizes, at most 8, and the word is that of their list.
pub record Loadable (a : List ℕ) (head first : ℕ) (sizes levels : List ℕ) (order : ℕ) : Type 0 where
  pub head_has : Has a head
  pub some : 1 ≤ first
  pub has : stride * (first + length levels) ≤ length a
  pub fits : first + length levels ≤ 4_294_967_296
  pub apart : (i : ℕ) → i < length levels → first + i ≡ head → ⊥
  pub low : (i : ℕ) → i < length levels → 1 ≤ get_or levels i 0
  pub high : (i : ℕ) → i < length levels → get_or levels i 0 ≤ 8
  pub bytes : Sized (length levels) sizes
  pub few : length levels ≤ 8
  pub order_is : order ≡ order_word (sizes_in (length levels) sizes)

-- The arena b is a with the useful ones of the sizes s as the list of the head, each in its record from `first` on, with its level.
pub record Loaded (a : List ℕ) (head first : ℕ) (s : List Item) (levels b : List ℕ) : Type 0 where
  pub long : length b ≡ length a
  pub outside : (x : ℕ) → (x ≡ head → ⊥) → Away x (records_of first s) → Same a b x
  pub built : Built b head (records_of first s)
  pub backed : Backed b head (records_of first s)
  pub level_is : map (level b) (records_of first s) ≡ map (λ (k : ℕ). get_or levels k 0) (list_places s)
  pub m_is : map (m_word b) (records_of first s) ≡ map (λ (z : Item). z.m) (gauge_shapes s)
  pub true_ps : trues b (λ k. 0) (records_of first s) ≡ map (λ (z : Item). z.p) (gauge_shapes s)
