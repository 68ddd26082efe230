-- `dropping::drop_first::drop_first` meets its contract: the list of the head is then the rest, with the same true p.
-- The loop keeps `Handing`, that the links below k are handed over.
use native.Mathlib.Omega.{arith}
use borrow.Author.Rules.{rules}
use Rattle.dropping.proofs.DropLaws.{first_has, handing_start, handing_turn, handing_done}
use Rattle.dropping.proofs.drop_first.drop_first.Goals as goal

pub get-r-requires : goal.get-r-requires
get-r-requires c = (c.requires.2.has, search rules)

pub get-level-requires : goal.get-level-requires
get-level-requires c = (first_has _ _ _ c.requires c.get-r.ensures, search rules)

pub loop-k-init : goal.loop-k-init
loop-k-init c =
    handing_start _ _ _ _ c.requires c.get-r.ensures c.get-level.ensures

pub hand_over-requires : goal.hand_over-requires
hand_over-requires c = let g = c.loop-k.invariant in omega arith

pub loop-k-preserved : goal.loop-k-preserved
loop-k-preserved c = handing_turn _ _ _ _ _ _ _ c.loop-k.invariant c.loop-k-test.true c.hand_over.ensures

pub returns : goal.returns
returns c =
    handing_done _ _ _ _ _ _ c.loop-k.invariant c.loop-k-test.false c.get-r.ensures c.get-level.ensures
