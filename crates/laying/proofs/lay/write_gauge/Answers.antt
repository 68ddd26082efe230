-- `laying::lay::write_gauge` meets its contract.
-- Five stores at the start of a list of at least five words leave the words after them.
use native.Mathlib.Omega.{arith}
use lib.ListN.{length-set}
use Rattle.laying.proofs.GaugeLaws.{gauge_words}
use Rattle.laying.proofs.lay.write_gauge.Goals as goal

pub bounds-out-1 : goal.bounds-out-1
bounds-out-1 c = simp length-set (omega arith)

pub bounds-out-2 : goal.bounds-out-2
bounds-out-2 c = simp length-set (omega arith)

pub bounds-out-3 : goal.bounds-out-3
bounds-out-3 c = simp length-set (omega arith)

pub bounds-out-4 : goal.bounds-out-4
bounds-out-4 c = simp length-set (omega arith)

pub returns : goal.returns
returns c = gauge_words c.args.out.now _ _ _ _ _ _ c.requires c.p_of.ensures c.m_of.ensures
