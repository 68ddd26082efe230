-- `moving::walk_run::walk_run` meets its contract: the front stands behind the open list, raised, and the list keeps the rest.
-- The walk settles the front, and `RunLaws` puts it together with the one link that is changed, forth and back.
use mathlib.Core.List.{◌∷◌}
use borrow.Author.Rules.{rules}
use Rattle.splicing.specs.inside.Open.{last_sums}
use Rattle.settling.specs.inside.Cached.{MakesUp}
use Rattle.settling.specs.inside.Settled.{head_sums}
use Rattle.moving.proofs.RunLaws.{first_passes, run_has, run_first, run_moved, walk_cached}
use Rattle.moving.proofs.walk_run.walk_run.Goals as goal

pub walk-to-requires : goal.walk-to-requires
walk-to-requires c =
    let p = c.requires.run_ready in
    record {
      searchable = ((_, p.4.list), p.4.some);
      key_passes = first_passes _ _ p.0 _ p.1 p.2 p.3 _ p.4;
    }

pub get-sum-requires : goal.get-sum-requires
get-sum-requires c =
    let made : MakesUp (head_sums c.args.arena.now c.args.head) (last_sums c.args.arena.now c.args.ends.now.lasts) 1 c.args.q c.lift-v.result = c.lift-v.ensures _ _ c.requires.cached.head c.requires.cached.ends in
    let p = c.requires.run_ready in
    ((run_has _ _ p.0 _ p.1 p.2 p.3 _ p.4 c.requires.key_stops _ _ (made) _ _ (c.walk-to.ensures (p.2 ∷ p.3) p.4.list)).2, search rules)

pub relink_lowest-requires : goal.relink_lowest-requires
relink_lowest-requires c =
    let made : MakesUp (head_sums c.args.arena.now c.args.head) (last_sums c.args.arena.now c.args.ends.now.lasts) 1 c.args.q c.lift-v.result = c.lift-v.ensures _ _ c.requires.cached.head c.requires.cached.ends in
    let p = c.requires.run_ready in
    let walked = c.walk-to.ensures (p.2 ∷ p.3) p.4.list in
    record {
      records_there = run_has _ _ p.0 _ p.1 p.2 p.3 _ p.4 c.requires.key_stops _ _ (made) _ _ walked;
      front_there = run_first _ _ p.0 _ p.1 p.2 p.3 _ p.4 c.requires.key_stops _ _ (made) _ _ walked;
    }

pub returns : goal.returns
returns c =
    let made : MakesUp (head_sums c.args.arena.now c.args.head) (last_sums c.args.arena.now c.args.ends.now.lasts) 1 c.args.q c.lift-v.result = c.lift-v.ensures _ _ c.requires.cached.head c.requires.cached.ends in
    let p = c.requires.run_ready in
    record {
      run_moved = λ hc cs r rs w.
          run_moved _ _ hc _ cs r rs _ w c.requires.key_stops _ _ (made) _ _ (c.walk-to.ensures (r ∷ rs) w.list) _ c.get-sum.ensures _ c.relink_lowest.ensures;
      cached_after = walk_cached _ _ p.0 _ p.1 p.2 p.3 _ p.4 c.requires.key_stops _ _ (made) _ _ (c.walk-to.ensures (p.2 ∷ p.3) p.4.list) _ c.get-sum.ensures _ c.relink_lowest.ensures _ _ c.requires.cached;
      sums_same = search rules;
    }
