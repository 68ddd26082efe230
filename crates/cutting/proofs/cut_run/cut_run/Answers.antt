-- `cutting::cut_run::cut_run` meets its contract: the front stands behind the open list, raised, the list keeps the rest, and the sums kept are right again.
-- The calls are those whose effects `Advancing` puts together.
use mathlib.Core.List.{◌∷◌}
use Rattle.searching.proofs.CutLaws.{cut_links}
use Rattle.moving.proofs.Advancing.{can_settle, can_relink, run, run_cached}
use Rattle.cutting.proofs.cut_run.cut_run.Goals as goal

pub search-cut-requires : goal.search-cut-requires
search-cut-requires c =
    let p = c.requires.run_ready in
    record {
      searchable = ((_, p.4.list), p.4.some);
      links_few = (c.count_links-links.ensures (p.2 ∷ p.3) p.4.list).few;
    }

pub settle-requires : goal.settle-requires
settle-requires c =
    let p = c.requires.run_ready in
    let cut = cut_links _ _ _ _ _ _ c.search-cut.ensures.links_same (c.count_links-links.ensures (p.2 ∷ p.3) p.4.list) (c.search-cut.ensures.cut (p.2 ∷ p.3) p.4.list) in
    (_, _, _, can_settle _ _ p.0 _ p.1 p.2 p.3 _ p.4 _ cut.0 _ _ cut.1, c.requires.cached)

pub relink-requires : goal.relink-requires
relink-requires c =
    let p = c.requires.run_ready in
    let cut = cut_links _ _ _ _ _ _ c.search-cut.ensures.links_same (c.count_links-links.ensures (p.2 ∷ p.3) p.4.list) (c.search-cut.ensures.cut (p.2 ∷ p.3) p.4.list) in
    let ready = can_settle _ _ p.0 _ p.1 p.2 p.3 _ p.4 _ cut.0 _ _ cut.1 in
    let settled = c.settle.ensures _ _ _ ready c.requires.cached in
    (p.0, p.1, _, _, can_relink _ _ p.0 _ p.1 p.2 p.3 _ p.4 _ cut.0 _ _ cut.1 _ _ settled)

pub returns : goal.returns
returns c =
    let p = c.requires.run_ready in
    let cut = cut_links _ _ _ _ _ _ c.search-cut.ensures.links_same (c.count_links-links.ensures (p.2 ∷ p.3) p.4.list) (c.search-cut.ensures.cut (p.2 ∷ p.3) p.4.list) in
    let ready = can_settle _ _ p.0 _ p.1 p.2 p.3 _ p.4 _ cut.0 _ _ cut.1 in
    let settled = c.settle.ensures _ _ _ ready c.requires.cached in
    let spliced = c.relink.ensures.front_moved p.0 p.1 _ _ (can_relink _ _ p.0 _ p.1 p.2 p.3 _ p.4 _ cut.0 _ _ cut.1 _ _ settled) in
    record {
      run_moved = λ hc cs r rs w.
          let cut' = cut_links _ _ _ _ _ _ c.search-cut.ensures.links_same (c.count_links-links.ensures (r ∷ rs) w.list) (c.search-cut.ensures.cut (r ∷ rs) w.list) in
          let settled' = c.settle.ensures _ _ _ (can_settle _ _ hc _ cs r rs _ w _ cut'.0 _ _ cut'.1) c.requires.cached in
          let spliced' = c.relink.ensures.front_moved hc cs _ _ (can_relink _ _ hc _ cs r rs _ w _ cut'.0 _ _ cut'.1 _ _ settled') in
          run _ _ hc _ cs r rs _ w _ cut'.0 _ _ cut'.1 _ _ settled' _ _ spliced'.relinked _ spliced'.stored;
      cached_after = run_cached _ _ p.0 _ p.1 p.2 p.3 _ p.4 _ cut.0 _ _ cut.1 _ _ settled _ _ spliced.relinked _ spliced.stored _ _ _ _ c.requires.cached c.relink.ensures.sums_renewed c.relink.ensures.lasts_renewed;
    }
