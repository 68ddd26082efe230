-- `moving::move_one::move_one` meets its contract: the first record stands behind the open list, raised, the list keeps the rest, and the sums kept are right again.
-- `OneLaws` has that the record is its own cut, and what the calls do together.
use mathlib.Core.Path.{◌≡◌}
use native.Mathlib.Omega.{arith}
use borrow.Author.Rules.{rules}
use Rattle.arena.specs.Arena.{word}
use Rattle.splicing.specs.inside.Open.{last_sums}
use Rattle.settling.specs.inside.Cached.{MakesUp}
use Rattle.settling.specs.inside.Settled.{head_sums}
use Rattle.moving.proofs.OneLaws.{first_has, first_level, still_has, all_one, first_relinkable, first_moved, first_cached}
use Rattle.moving.proofs.move_one.move_one.Goals as goal

pub get-links-requires : goal.get-links-requires
get-links-requires c =
    let is-first : c.get-r.result ≡ word c.args.arena.now c.args.head 3 = c.get-r.ensures in
    let p = c.requires.run_ready in
    (first_has _ _ p.0 _ p.1 p.2 p.3 _ p.4 _ (is-first), search rules)

pub lift-v-requires : goal.lift-v-requires
lift-v-requires c =
    let is-level : c.get-links.result ≡ word c.args.arena.now c.get-r.result 0 = c.get-links.ensures in
    let is-first : c.get-r.result ≡ word c.args.arena.now c.args.head 3 = c.get-r.ensures in
    let p = c.requires.run_ready in
    let level = first_level _ _ p.0 _ p.1 p.2 p.3 _ p.4 c.requires.key_stops _ (is-first) _ (is-level) in
    (level.0, level.1)

pub raise-requires : goal.raise-requires
raise-requires c =
    let is-first : c.get-r.result ≡ word c.args.arena.now c.args.head 3 = c.get-r.ensures in
    let p = c.requires.run_ready in
    (first_has _ _ p.0 _ p.1 p.2 p.3 _ p.4 _ (is-first), search rules)

pub adjusts_of-requires : goal.adjusts_of-requires
adjusts_of-requires c =
    let made : MakesUp (head_sums c.args.arena.now c.args.head) (last_sums c.args.arena.now c.args.ends.now.lasts) c.get-links.result c.args.q c.lift-v.result = c.lift-v.ensures _ _ c.requires.cached.head c.requires.cached.ends in
    let is-level : c.get-links.result ≡ word c.args.arena.now c.get-r.result 0 = c.get-links.ensures in
    let is-first : c.get-r.result ≡ word c.args.arena.now c.args.head 3 = c.get-r.ensures in
    let p = c.requires.run_ready in
    still_has _ _ p.0 _ p.1 p.2 p.3 _ p.4 c.requires.key_stops _ (is-first) _ (is-level) _ _ _ (made) c.raise.ensures

pub relink-requires : goal.relink-requires
relink-requires c =
    let made : MakesUp (head_sums c.args.arena.now c.args.head) (last_sums c.args.arena.now c.args.ends.now.lasts) c.get-links.result c.args.q c.lift-v.result = c.lift-v.ensures _ _ c.requires.cached.head c.requires.cached.ends in
    let is-level : c.get-links.result ≡ word c.args.arena.now c.get-r.result 0 = c.get-links.ensures in
    let is-first : c.get-r.result ≡ word c.args.arena.now c.args.head 3 = c.get-r.ensures in
    let p = c.requires.run_ready in
    let alone = c.requires.key_stops in
    (p.0, p.1, _, _, first_relinkable _ _ p.0 _ p.1 p.2 p.3 _ p.4 alone _ (is-first) _ (is-level) _ _ _ (made) c.raise.ensures _ _ (omega arith) (all_one _) c.adjusts_of.ensures)

pub returns : goal.returns
returns c =
    let made : MakesUp (head_sums c.args.arena.now c.args.head) (last_sums c.args.arena.now c.args.ends.now.lasts) c.get-links.result c.args.q c.lift-v.result = c.lift-v.ensures _ _ c.requires.cached.head c.requires.cached.ends in
    let is-level : c.get-links.result ≡ word c.args.arena.now c.get-r.result 0 = c.get-links.ensures in
    let is-first : c.get-r.result ≡ word c.args.arena.now c.args.head 3 = c.get-r.ensures in
    let p = c.requires.run_ready in
    let e = c.relink.ensures.front_moved p.0 p.1 _ _ (first_relinkable _ _ p.0 _ p.1 p.2 p.3 _ p.4 c.requires.key_stops _ (is-first) _ (is-level) _ _ _ (made) c.raise.ensures _ _ (omega arith) (all_one _) c.adjusts_of.ensures) in
    record {
      run_moved = λ hc cs r rs w.
          first_moved _ _ hc _ cs r rs _ w c.requires.key_stops _ (is-first) _ (is-level) _ _ _ (made) c.raise.ensures _ _ (omega arith) (all_one _) c.adjusts_of.ensures _ _
          (c.relink.ensures.front_moved hc cs _ _ (first_relinkable _ _ hc _ cs r rs _ w c.requires.key_stops _ (is-first) _ (is-level) _ _ _ (made) c.raise.ensures _ _ (omega arith) (all_one _) c.adjusts_of.ensures));
      cached_after = first_cached _ _ p.0 _ p.1 p.2 p.3 _ p.4 c.requires.key_stops _ (is-first) _ (is-level) _ _ _ (made) c.raise.ensures _ _ (omega arith) (all_one _) c.adjusts_of.ensures _ _ e _ _ _ _ c.requires.cached c.relink.ensures.sums_renewed c.relink.ensures.lasts_renewed;
    }
