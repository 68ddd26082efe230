-- `useful::order::number_at` meets its contract.
-- The digits behind the place are shifted out, and the last digit that is left is its own.
use native.Mathlib.Omega.{arith}
use Rattle.useful.proofs.NumberAt.{list_short, number_at}
use Rattle.useful.proofs.order.number_at.Goals as goal

pub overflow_cast-behind : goal.overflow_cast-behind
overflow_cast-behind c = omega (arith, list_short _ _ _ _ c.requires.1)

pub overflow_mul-result : goal.overflow_mul-result
overflow_mul-result c = omega (arith, list_short _ _ _ _ c.requires.1)

pub overflow_shr-result : goal.overflow_shr-result
overflow_shr-result c = omega (arith, list_short _ _ _ _ c.requires.1)

pub returns : goal.returns
returns c = λ s known. number_at s _ _ _ known
