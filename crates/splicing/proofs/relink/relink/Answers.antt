-- `splicing::relink::relink` meets its contract: the front is moved behind the open list, and the sums kept are renewed.
-- The loop keeps `Relinking`.
use Rattle.std.proofs.Common.{arith, rules}
use Rattle.splicing.proofs.Relinking.{relinking_start, relinking_has, relinking_turn, lowest_has, lowest_first, relinking_done, heads_renewed, lasts_renewed}
use Rattle.splicing.proofs.relink.relink.Goals as goal

pub loop-k-init : goal.loop-k-init
loop-k-init c = relinking_start _ _ _ _ _ c.requires (search rules) (search rules)

pub relink_one-requires : goal.relink_one-requires
relink_one-requires c = relinking_has _ _ _ _ _ _ _ _ _ c.loop-k.invariant c.loop-k-test.true

pub get-requires : goal.get-requires
get-requires c =
    let has = relinking_has _ _ _ _ _ _ _ _ _ c.loop-k.invariant c.loop-k-test.true in
    let to = has.3 in
    (omega arith, search rules)

pub loop-k-preserved : goal.loop-k-preserved
loop-k-preserved c =
    relinking_turn _ _ _ _ _ _ _ _ _ c.loop-k.invariant c.loop-k-test.true _ c.relink_one.ensures _ c.get.ensures

pub relink_lowest-requires : goal.relink_lowest-requires
relink_lowest-requires c =
    let inv = c.loop-k.invariant in
    let has = lowest_has _ _ _ _ _ _ _ _ _ inv (search rules) in
    record {
      records_there = (has.1, has.2, has.3);
      front_there = lowest_first _ _ _ _ _ _ _ _ _ inv (search rules) c.requires;
    }

pub returns-clause-front_moved : goal.returns-clause-front_moved
returns-clause-front_moved c =
    relinking_done _ _ _ _ _ _ _ _ _ c.loop-k.invariant (search rules) _ c.relink_lowest.ensures

pub returns-clause-sums_renewed : goal.returns-clause-sums_renewed
returns-clause-sums_renewed c = heads_renewed _ _ _ _ _ _ _ _ _ c.loop-k.invariant (search rules)

pub returns-clause-lasts_renewed : goal.returns-clause-lasts_renewed
returns-clause-lasts_renewed c = lasts_renewed _ _ _ _ _ _ _ _ _ c.loop-k.invariant (search rules)
