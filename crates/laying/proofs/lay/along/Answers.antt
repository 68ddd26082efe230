-- `laying::lay::along` meets its contract.
-- The two ways out are the two of the definition.
use Rattle.laying.proofs.TakeLaws.{not_up}
use Rattle.laying.proofs.lay.along.Goals as goal

pub returns-in-Stacked : goal.returns-in-Stacked
returns-in-Stacked c = rw c.in-Stacked.is c.p_of.ensures

pub returns-in_default : goal.returns-in_default
returns-in_default c = rw (not_up c.args.join c.in_default.not-Stacked) c.m_of.ensures
