-- The whole merge: the cleared result and the two lists are a merge on its way, and when it is over and closed the result holds the record-carrying merge.
-- Clearing the result's head touches no record of the two lists, closing touches no value, and the head's back word is the last record of the result.
use mathlib.Core.Path.{◌≡◌, refl, sym, ap, ap₂, subst, ◌∙◌}
use mathlib.Core.List.{List, [], ◌∷◌, Memᴰ}
use Prim.Native.Nat.{ℕ, ◌+◌, ◌≤◌, ◌<◌}
use native.Mathlib.Omega.{arith}
use lib.ListN.{length, get_or, replicate, get_or-replicate}
use Rattle.slicing.specs.Item.{Item, size}
use Rattle.slicing.specs.Good.{Ordered}
use Rattle.slicing.specs.Recorded.{Recorded, merge_recorded, items}
use Rattle.arena.specs.Arena.{m_word, adjust, back_at}
use Rattle.arena.specs.Lazy.{held}
use Rattle.arena.specs.inside.Chain.{put, All, Away, Linked, Same, p_under, after, trues}
use Rattle.arena.specs.inside.Built.{Built}
use Rattle.arena.specs.inside.Backs.{Backs, Inner, last_of}
use Rattle.building.specs.inside.Building.{Cleared}
use Rattle.arena.specs.inside.Sums.{Suffixes}
use Rattle.arena.specs.inside.Carried.{carried}
use Rattle.arena.proofs.Frames.{all_map, all_both, all_refl, same_shape, linked_frame, trues_frame}
use Rattle.arena.proofs.PutLaws.{length_put, same_put, same_trans}
use Rattle.arena.proofs.BackLaws.{backs_frame, inner_frame}
use Rattle.arena.proofs.BackStores.{back_same, back_other, word_stays, value_stays, built_stays}
use Rattle.arena.proofs.Summing.{suffixes_none, suffixes_agree}
use Rattle.arena.proofs.CarriedLaws.{carried_frame, carried_same}
use Rattle.arena.proofs.HeldLaws.{held_carried}
use Rattle.searching.specs.inside.Cut.{Falling, Searchable}
use Rattle.splicing.specs.inside.Open.{OpenLinked, EndsOf, Closed, last_sums}
use Rattle.splicing.proofs.OpenLaws.{open_empty, ends_filled, ends_last}
use Rattle.splicing.proofs.ClosingLaws.{closed_value, closed_same}
use Rattle.stepping.specs.inside.Trio.{Kept, Roomy, Trio}
use Rattle.stepping.specs.inside.Running.{Task, Underway}
use Rattle.stepping.proofs.ThreadLaws.{threads_end}
use Rattle.merging.specs.inside.Runs.{Finished, RunsReady, RunsDone}
use Rattle.merging.specs.inside.Merge.{Mergeable, Merged}

-- The m of an ordered list falls.
below_first : (a : List ℕ) (f : ℕ → ℕ) (m : ℕ) (rs : List ℕ) → ((z : Item) → Memᴰ z (items (carried a f rs)) → z.m < m) → All (λ x. m_word a x < m) rs
unfolding carried trues
below_first a f m [] h = tt
below_first a f m (r ∷ rs) h =
    (h (size (m_word a r) (p_under a f r)) (Memᴰ.head refl), below_first a (after a f r) m rs (λ z i. h z (Memᴰ.tail i)))

ordered_falling : (a : List ℕ) (f : ℕ → ℕ) (rs : List ℕ) → Ordered (items (carried a f rs)) → Falling a rs
unfolding carried trues
ordered_falling a f [] o = tt
ordered_falling a f (r ∷ rs) o =
    (below_first a (after a f r) (m_word a r) rs (λ z i. (o.0 z i).0), ordered_falling a (after a f r) rs o.1)

-- The result's head was cleared.
module _ (gap : ℕ) (a b : List ℕ) (ho hn hc : ℕ) (xs ys : List ℕ) (g : Mergeable gap a ho hn hc xs ys) (c : Cleared a hc b) (floor : m_word b 0 ≡ 0) where
  module _ (h : ℕ) (rs : List ℕ) (apart : h ≡ hc → ⊥) (away : Away hc rs) (l : Linked a h rs) where
    head_same : Same a b h
    head_same = c.outside h apart

    records_same : All (Same a b) rs
    records_same = all_map rs (λ x ne. c.outside x ne) away

    carried_still : carried b (adjust b h) rs ≡ held a h [] rs
    carried_still =
        carried_same a b (adjust a h) (adjust b h) rs (λ k few. head_same.at (11 + k) (omega arith)) records_same
        ∙ sym (held_carried a h rs)

    still_searchable : length rs ≤ 512 → Ordered (items (held a h [] rs)) → Searchable b h rs
    still_searchable few o =
        record {
          linked = linked_frame a b h rs c.long (same_shape a b h head_same) (all_map rs (λ x s. same_shape a b x s) records_same) l;
          falling = ordered_falling b (adjust b h) rs (subst (λ (k : List Recorded). Ordered (items k)) (sym carried_still) o);
          few = few;
          floor = floor;
        }

    still_room : All (Roomy a) rs → All (Roomy b) rs
    still_room room =
        all_both rs
        (λ x s roomy.
        let same = s.at 1 (omega arith) in
        let some = roomy.some in
        let small = roomy.small in
        record { some = omega arith; small = omega arith })
        records_same room

  still_inner : (rs : List ℕ) → Away hc rs → Inner a rs → Inner b rs
  still_inner rs away = inner_frame a b rs (all_map rs (λ x ne. (c.outside x ne).at back_at (omega arith)) away)

  abbrev older_still : carried b (adjust b ho) xs ≡ held a ho [] xs
  older_still = carried_still ho xs g.older_result g.result_off_older g.older.linked

  abbrev newer_still : carried b (adjust b hn) ys ≡ held a hn [] ys
  newer_still = carried_still hn ys g.newer_result g.result_off_newer g.newer.linked

  trio : Trio b ho hn hc xs ys [] (replicate 8 hc)
  trio =
      record {
        older = still_searchable ho xs g.older_result g.result_off_older g.older.linked g.older_few g.older_order;
        newer = still_searchable hn ys g.newer_result g.result_off_newer g.newer.linked g.newer_few g.newer_order;
        result = open_empty b hc c.built.linked.has c.built.linked.top;
        result_ends = ends_filled b hc;
        older_newer = g.older_newer;
        older_result = g.older_result;
        newer_result = g.newer_result;
        older_off_newer = g.older_off_newer;
        older_off_result = tt;
        newer_off_older = g.newer_off_older;
        newer_off_result = tt;
        result_off_older = g.result_off_older;
        result_off_newer = g.result_off_newer;
        lists_apart = g.lists_apart;
        result_older_apart = tt;
        result_newer_apart = tt;
      }

  abbrev whole : List Recorded
  whole = merge_recorded gap (held a ho [] xs) (held a hn [] ys)

  abbrev task : Task gap
  task = record { arena = b; result = hc; older = xs; newer = ys; all = whole }

  begins : Underway task b ho hn (replicate 8 hc)
  unfolding carried trues last_of
  begins =
      record {
        xs = xs;
        ys = ys;
        cs = [];
        merging =
            record {
              runs =
                  record {
                    waits =
                        record {
                          lists = trio;
                          older_order = subst (λ (l : List Recorded). Ordered (items l)) (sym older_still) g.older_order;
                          newer_order = subst (λ (l : List Recorded). Ordered (items l)) (sym newer_still) g.newer_order;
                          small = λ x y i j.
                              g.small x y (subst (λ (l : List Recorded). Memᴰ x l) older_still i) (subst (λ (l : List Recorded). Memᴰ y l) newer_still j);
                          older_room = still_room ho xs g.older_result g.result_off_older g.older.linked g.older_room;
                          newer_room = still_room hn ys g.newer_result g.result_off_newer g.newer.linked g.newer_room;
                        };
                    gives = ap₂ (merge_recorded gap) older_still newer_still;
                  };
              confined =
                  record {
                    length_kept = refl;
                    level_kept = λ x. refl;
                    m_kept = λ x. refl;
                    result_sums = λ k few. refl;
                    records = λ x u v. (u, v, tt);
                    outside = λ x o n r u v. record { at = λ j few. refl };
                  };
              threads =
                  record {
                    older = still_inner xs g.result_off_older g.older_backs;
                    newer = still_inner ys g.result_off_newer g.newer_backs;
                    result = tt;
                    older_fits = g.older_fits;
                    newer_fits = g.newer_fits;
                    last_fits = g.result_fits;
                  };
            };
      }

  -- The runs were moved, then the result was closed, and then its head got its back word.
  module _ (d e ends : List ℕ) (f : Finished task d ho hn ends) (close : Closed d e hc f.cs ends) where
    abbrev cs : List ℕ
    cs = f.cs

    abbrev v : ℕ
    v = get_or ends 0 0

    abbrev z : List ℕ
    z = put e hc back_at v

    sums_same : (k : ℕ) → k < 8 → adjust e hc k ≡ adjust d hc k
    sums_same k few = close.adjust_kept hc k few

    carried_stays : carried z (adjust z hc) cs ≡ carried e (adjust e hc) cs
    carried_stays =
        carried_frame e z (adjust e hc) (adjust z hc) cs (λ x. word_stays e hc v x 1 (omega arith))
        (trues_frame e z (adjust e hc) (adjust z hc) cs (λ k few. word_stays e hc v hc (11 + k) (omega arith)) (all_refl cs (value_stays e hc v)))

    result_holds : held z hc [] cs ≡ whole
    result_holds =
        held_carried z hc cs ∙ carried_stays
        ∙ carried_frame d e (adjust d hc) (adjust e hc) cs close.m_kept
        (trues_frame d e (adjust d hc) (adjust e hc) cs sums_same (all_refl cs (closed_value d e hc cs ends close)))
        ∙ f.gives

    result_built : Built z hc cs
    result_built =
        built_stays e hc v hc cs
        (record {
          linked = close.list;
          still = λ k few. sums_same k few ∙ f.confined.result_sums k few ∙ c.built.still k few;
        })

    result_backs : Backs z hc cs
    result_backs =
        backs_frame d z hc cs (all_map cs (λ x ne. back_other e hc v x ne ∙ close.backs_kept x) f.lists.result.away)
        f.threads.result

    pub merged : Merged gap a z ho hn hc xs ys
    merged =
        record {
          length_kept = length_put e hc back_at v ∙ close.length_kept ∙ f.confined.length_kept ∙ c.long;
          list = cs;
          built = result_built;
          backs = result_backs;
          last = back_same e hc v close.list.has ∙ ends_last d hc cs ends f.lists.result f.lists.result_ends;
          holds = result_holds;
          level_kept = λ x ne.
              word_stays e hc v x 0 (omega arith) ∙ close.level_kept x ∙ f.confined.level_kept x
              ∙ (c.outside x ne).at 0 (omega arith);
          records = λ x u w. (f.confined.records x u w).2;
          outside = λ x o n r u w.
              let runs = same_trans a b d x (c.outside x (λ t. r (sym t))) (f.confined.outside x o n r u w) in
              let closes = closed_same d e hc cs ends close x f.lists.result_ends r (f.confined.records x u w).2 in
              same_trans a e z x (same_trans a d e x runs closes) (same_put e hc back_at v x (λ t. r (sym t)) (omega arith));
        }

-- The calls of the function are ready, and their promises give its own.
module _ (gap : ℕ) (a b : List ℕ) (ho hn : ℕ) (c : Cleared a 0 b) where
  pub merge_ready : ((xs : List ℕ) × (ys : List ℕ) × Mergeable gap a ho hn 0 xs ys) → RunsReady gap b ho hn (replicate 8 0)
  merge_ready p =
      (task gap a b ho hn 0 p.0 p.1 p.2 c c.floor, begins gap a b ho hn 0 p.0 p.1 p.2 c c.floor)

  -- The sums kept at the start are 0, as the adjusts of all three heads are.
  pub merge_kept : ((xs : List ℕ) × (ys : List ℕ) × Mergeable gap a ho hn 0 xs ys) → Kept b ho hn (replicate 8 0) (replicate 9 0) (replicate 9 0) (replicate 9 0)
  merge_kept p =
      record {
        older = still ho p.0 p.2.older_result p.2.older;
        newer = still hn p.1 p.2.newer_result p.2.newer;
        ends =
            suffixes_agree (λ k. 0) (last_sums b (replicate 8 0)) (replicate 9 0)
            (λ k low high. ap (λ (x : ℕ). adjust b x k) (get_or-replicate 8 k 0 0 high) ∙ c.built.still k high)
            suffixes_none;
      }
    where
      still : (h : ℕ) (rs : List ℕ) → (h ≡ 0 → ⊥) → Built a h rs → Suffixes (adjust b h) (replicate 9 0)
      still h rs apart built =
          suffixes_agree (λ k. 0) (adjust b h) (replicate 9 0)
          (λ k low high. (c.outside h apart).at (11 + k) (omega arith) ∙ built.still k high) suffixes_none

  module _ (d ends : List ℕ) (runs : RunsDone gap b d ho hn (replicate 8 0) ends) where
    finished : (xs ys : List ℕ) (g : Mergeable gap a ho hn 0 xs ys) → Finished (task gap a b ho hn 0 xs ys g c c.floor) d ho hn ends
    finished xs ys g = runs (task gap a b ho hn 0 xs ys g c c.floor) (begins gap a b ho hn 0 xs ys g c c.floor)

    pub merge_closes : ((xs : List ℕ) × (ys : List ℕ) × Mergeable gap a ho hn 0 xs ys) → (h : ℕ) × (cs : List ℕ) × OpenLinked d h cs × EndsOf d h cs ends
    merge_closes p =
        let f = finished p.0 p.1 p.2 in (0, f.cs, f.lists.result, f.lists.result_ends)

    pub merge_end : ((xs : List ℕ) × (ys : List ℕ) × Mergeable gap a ho hn 0 xs ys) → get_or ends 0 0 < 4_294_967_296
    merge_end p =
        let f = finished p.0 p.1 p.2 in
        threads_end d ho hn 0 f.xs f.ys f.cs ends f.lists f.threads

    pub merge_done : (e z : List ℕ) → ((h : ℕ) (cs : List ℕ) → OpenLinked d h cs → EndsOf d h cs ends → Closed d e h cs ends) → z ≡ put e 0 back_at (get_or ends 0 0) → (xs ys : List ℕ) → Mergeable gap a ho hn 0 xs ys → Merged gap a z ho hn 0 xs ys
    merge_done e z close stored xs ys g =
        let f = finished xs ys g in
        subst (λ (y : List ℕ). Merged gap a y ho hn 0 xs ys) (sym stored)
        (merged gap a b ho hn 0 xs ys g c c.floor d e ends f (close 0 f.cs f.lists.result f.lists.result_ends))
