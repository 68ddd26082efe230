-- `picking::pick::rank_of` meets its contract.
-- The product of two numbers below 65,536 is below 2 ^ 32, so the rank is below 2 ^ 48.
use Prim.Native.Nat.{ℕ, ◌+◌, ◌*◌, ◌<◌}
use native.Mathlib.Omega.{arith}
use mir.Syntax.{w64}
use mir.Val.{Fits}
use borrow.Author.Rules.{rules}
use Rattle.picking.proofs.Looking.{product_low}
use Rattle.picking.proofs.pick.rank_of.Goals as goal

module _ (a b : ℕ) (low-a : a < 65_536) (low-b : b < 65_536) where
  area-fits : Fits w64 (a * b)
  area-fits = let low = product_low a b low-a low-b in record { fits = omega arith }

  raised-fits : Fits w64 (65_536 * (a * b))
  raised-fits = let low = product_low a b low-a low-b in record { fits = omega arith }

  ranked-fits : (w : ℕ) → w < 65_536 → Fits w64 (65_536 * (a * b) + w)
  ranked-fits w low-w = let low = product_low a b low-a low-b in record { fits = omega arith }

pub overflow_mul-result : goal.overflow_mul-result
overflow_mul-result c = search (rules, area-fits)

pub overflow_mul-result-2 : goal.overflow_mul-result-2
overflow_mul-result-2 c = search (rules, raised-fits)

pub overflow_add-result : goal.overflow_add-result
overflow_add-result c = search (rules, ranked-fits)
