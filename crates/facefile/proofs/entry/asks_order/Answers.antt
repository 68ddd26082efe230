-- `facefile::entry::asks_order` meets its contract.
-- The version is the field that the rules of the file are made of.
use mathlib.Core.Path.{ap}
use Prim.Native.Nat.{ℕ}
use lib.Dec.{eqb}
use Rattle.facefile.proofs.entry.asks_order.Goals as goal

pub returns : goal.returns
returns c = ap (λ (v : ℕ). eqb v 1) c.field.ensures.0
