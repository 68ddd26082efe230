-- `settling::settle::settle` meets its contract: the front is settled.
-- The loop keeps `Settling`, and the turn at link 0 behind it ends it.
use Rattle.std.proofs.Common.{arith, rules}
use Rattle.arena.specs.inside.Chain.{Has}
use Rattle.settling.proofs.Settling.{ready_cut, settling_start, settling_chained, settling_turn, lowest_chained, settling_done, heads_has}
use Rattle.settling.proofs.settle.settle.Goals as goal

pub get-stop-requires : goal.get-stop-requires
get-stop-requires c = (ready_cut _ _ _ _ _ _ c.requires.3, search rules)

pub loop-k-init : goal.loop-k-init
loop-k-init c = settling_start _ _ _ _ _ _ _ _ c.get-stop.ensures c.requires.3.some

pub get-first-requires : goal.get-first-requires
get-first-requires c =
    let head_in : Has c.loop-k.arena c.args.head = heads_has _ _ _ _ _ _ _ _ _ _ c.loop-k.invariant _ _ _ c.requires.3 c.requires.4 in
    (head_in, search rules)

pub raise_chain-requires : goal.raise_chain-requires
raise_chain-requires c =
    let below = c.loop-k.invariant.below in
    let most = c.requires.3.most in
    record {
      link_low = omega arith;
      chained = (
        _,
        settling_chained _ _ _ _ _ _ _ _ _ _ c.loop-k.invariant _ _ _ c.requires.3 c.requires.4 _ c.get-first.ensures,
      );
    }

pub loop-k-preserved : goal.loop-k-preserved
loop-k-preserved c =
    settling_turn _ _ _ _ _ _ _ _ _ _ c.loop-k.invariant _ _ _ (omega arith) c.loop-k-test.true c.lift-carry.ensures c.get-first.ensures c.raise_chain.ensures

pub get-first-requires-2 : goal.get-first-requires-2
get-first-requires-2 c =
    let head_in : Has c.loop-k.arena c.args.head = heads_has _ _ _ _ _ _ _ _ _ _ c.loop-k.invariant _ _ _ c.requires.3 c.requires.4 in
    (head_in, search rules)

pub raise_lowest-requires : goal.raise_lowest-requires
raise_lowest-requires c =
    lowest_chained _ _ _ _ _ _ _ _ _ _ c.loop-k.invariant (search rules) _ _ _ c.requires.3 c.requires.4 _ c.get-first-2.ensures

pub returns : goal.returns
returns c =
    settling_done _ _ _ _ _ _ _ _ _ _ c.loop-k.invariant (search rules) _ _ _ (omega arith) c.lift-carry-2.ensures c.get-first-2.ensures c.raise_lowest.ensures
