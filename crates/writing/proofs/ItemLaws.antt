-- The items that records carry: their number, the first of them, and that they are what an arena holds.
-- Each law is by computing one record.
use mathlib.Core.Path.{◌≡◌, refl, sym, ap}
use mathlib.Core.List.{List, [], ◌∷◌}
use Prim.Native.Nat.{ℕ, suc}
use lib.ListN.{length}
use Rattle.slicing.specs.Item.{Item, size}
use Rattle.slicing.specs.Recorded.{items}
use Rattle.arena.specs.Arena.{m_word, adjust}
use Rattle.arena.specs.Lazy.{held}
use Rattle.arena.specs.inside.Chain.{p_under, after, trues}
use Rattle.arena.specs.inside.Carried.{carried}
use Rattle.arena.proofs.HeldLaws.{held_carried}

-- The items of the records rs, entered with the sums f.
unfoldable pub items_of : List ℕ → (ℕ → ℕ) → List ℕ → List Item
items_of a f rs = items (carried a f rs)

pub items_first : (a : List ℕ) (f : ℕ → ℕ) (r : ℕ) (rs : List ℕ) → items_of a f (r ∷ rs) ≡ size (m_word a r) (p_under a f r) ∷ items_of a (after a f r) rs
unfolding items_of carried trues
items_first a f r rs = refl

pub items_length : (a : List ℕ) (f : ℕ → ℕ) (rs : List ℕ) → length (items_of a f rs) ≡ length rs
unfolding items_of carried trues
items_length a f [] = refl
items_length a f (r ∷ rs) = ap suc (items_length a (after a f r) rs)

-- What an arena holds, by these items.
pub items_held : (a : List ℕ) (h : ℕ) (rs : List ℕ) → items_of a (adjust a h) rs ≡ items (held a h [] rs)
unfolding items_of
items_held a h rs = ap items (sym (held_carried a h rs))
