-- A run of one record is its own cut: it stands behind the open list as a run that was searched for and settled.
-- Its p alone is raised, by what makes up for the other sums from its level up, and it hands its adjusts on as they are.
use mathlib.Core.Path.{◌≡◌, sym, ap, subst, ◌∙◌}
use mathlib.Core.Bool.{Bool, false}
use mathlib.Core.List.{List, [], ◌∷◌}
use Prim.Native.Nat.{ℕ, ◌+◌, ◌%◌, ◌^◌, ◌≤◌, ◌<◌}
use native.Mathlib.Omega.{arith}
use lib.ListN.{length, get_or, replicate, get_or-replicate}
use Rattle.arena.specs.Arena.{word, level, p_word, forward, adjust}
use Rattle.arena.specs.Lazy.{next_with, last_with, sum_from}
use Rattle.arena.specs.inside.Chain.{Has, put, wrap, All, p_under, trues}
use Rattle.arena.specs.inside.Sums.{RenewedBelow}
use Rattle.arena.proofs.Frames.{next_here}
use Rattle.arena.proofs.ListLaws.{last_here}
use Rattle.arena.proofs.PutLaws.{word_other_field}
use Rattle.searching.specs.inside.Cut.{front, LinkCount, CutAt, passes, Reachable, behind}
use Rattle.searching.proofs.SearchLaws.{front_in}
use Rattle.searching.proofs.Passing.{next_reach, front_none}
use Rattle.splicing.specs.inside.Open.{Relinkable, Spliced, last_sums, cut_sums}
use Rattle.settling.specs.inside.Settled.{head_sums, Settled}
use Rattle.settling.specs.inside.Cached.{Cached, MakesUp}
use Rattle.settling.proofs.Raising.{Raised, p_raised}
use Rattle.moving.specs.inside.Advance.{Movable, Run}
use Rattle.moving.proofs.Advancing.{can_relink, run, run_cached}
use Rattle.moving.proofs.RunLaws.{raised_one}

module _ (a : List ℕ) (h hc key : ℕ) (cs : List ℕ) (x : ℕ) (rs ends : List ℕ) (w : Movable a h hc key cs x rs ends) (stops : passes a (forward a x 0) key ≡ false) where
  one_has : Has a x
  one_has = w.list.linked.chain.0.has

  one_level : (1 ≤ level a x) × (level a x ≤ 8)
  one_level = (w.list.linked.chain.0.low, w.list.linked.chain.0.high)

  none_after : front a key rs ≡ []
  none_after =
      let chain = w.list.linked.chain in
      let next : forward a x 0 ≡ next_with a 0 rs = chain.0.links.at 0 chain.0.low in
      front_none a key rs chain.1 (subst (λ (y : ℕ). passes a y key ≡ false) next stops)

  alone : front a key (x ∷ rs) ≡ x ∷ []
  alone = front_in a key x rs w.first ∙ ap (λ (l : List ℕ). x ∷ l) none_after

  one_link : LinkCount a key (x ∷ rs) (level a x)
  one_link =
      let some = w.list.linked.chain.0.some in
      record {
        some = one_level.0;
        few = one_level.1;
        with_link = λ k p.
            subst (λ (l : List ℕ). 1 ≤ next_with a k l) (sym alone)
            (subst (λ (y : ℕ). 1 ≤ y) (sym (next_here a k x [] p)) some);
        lower = subst (All (λ y. level a y ≤ level a x)) (sym alone) (omega arith, tt);
      }

  -- The arena after the record was raised, and its adjusts as they are read there.
  module _ (b : List ℕ) (q v : ℕ) (made : MakesUp (head_sums a h) (last_sums a ends) (level a x) q v) (raises : b ≡ put a x 2 (wrap (word a x 2) v)) where
    raised : Raised a b 0 v x
    raised = p_raised a v x b one_has raises

    value : p_under b (last_sums a ends) x ≡ wrap (p_under a (head_sums a h) x) q
    unfolding p_under wrap
    value =
        ap (λ (l : ℕ). (p_word b x + sum_from (last_sums a ends) l 8) % 2 ^ 32) (raised.shape x).level_kept
        ∙ raised_one (p_word a x) (p_word b x) (sum_from (head_sums a h) (level a x) 8) (sum_from (last_sums a ends) (level a x) 8) v q raised.p_up made

    one_settled : Settled a b h q ends (front a key (x ∷ rs))
    unfolding trues
    one_settled =
        subst (Settled a b h q ends) (sym alone)
        (record {
          length_kept = raised.length_kept;
          shape = raised.shape;
          backs_kept = raised.backs_kept;
          outside = λ y away. raised.other y (λ e. away.0 (sym e));
          values = ap (λ (p : ℕ). p ∷ []) value;
        })

    adjust_kept : (k : ℕ) → k < 8 → adjust b x k ≡ adjust a x k
    adjust_kept k p =
        ap (λ (c : List ℕ). word c x (11 + k)) raises
        ∙ word_other_field a x 2 (wrap (word a x 2) v) x (11 + k) (omega arith) (omega arith) (omega arith)

    last : (k : ℕ) → k < level a x → last_with a k h (front a key (x ∷ rs)) ≡ x
    unfolding last_with
    last k p = ap (last_with a k h) alone ∙ last_here a k h x [] p

    one_cut : (cut found : List ℕ) → 8 ≤ length cut → ((k : ℕ) → k < 8 → get_or cut k 0 ≡ x) → 8 ≡ length found → ((k : ℕ) → k < 8 → cut_sums found k ≡ adjust b x k) → CutAt a h key (level a x) (x ∷ rs) cut found
    one_cut cut found long cut_is found_long found_is =
        let high = one_level.1 in
        record {
          long = long;
          sums_long = omega arith;
          at = λ k p. cut_is k (omega arith) ∙ sym (last k p);
          sums_at = λ k p.
              found_is k (omega arith) ∙ adjust_kept k (omega arith) ∙ ap (λ (y : ℕ). adjust a y k) (sym (last k p));
        }

-- The record as the cut at every link.
pub all_one : (x k : ℕ) → k < 8 → get_or (replicate 8 x) k 0 ≡ x
all_one x k p = get_or-replicate 8 k x 0 p

-- The first record, as the code finds it at x, and what comes after it.
module _ (a : List ℕ) (h hc key : ℕ) (cs : List ℕ) (r : ℕ) (rs ends : List ℕ) (w : Movable a h hc key cs r rs ends) (x : ℕ) (x_is : x ≡ word a h 3) where
  first_is : x ≡ r
  first_is =
      let top = w.list.linked.top in
      x_is ∙ w.list.linked.links.at 0 (omega arith) ∙ next_here a 0 r rs w.list.linked.chain.0.low

  movable : Movable a h hc key cs x rs ends
  movable = subst (λ (y : ℕ). Movable a h hc key cs y rs ends) (sym first_is) w

  pub first_has : Has a x
  first_has = movable.list.linked.chain.0.has

  pub after_reach : (y v : ℕ) → v ≡ word a x 3 → y ≡ v → Reachable a y
  after_reach y v v_is y_is =
      let has = w.list.linked.has in
      let member = movable.list.linked.chain.0 in
      next_reach a 0 y rs (omega arith) w.list.floor w.list.linked.chain.1
      (y_is ∙ v_is ∙ member.links.at 0 member.low)

  -- Whether it passes.
  pub after_passes : (y v : ℕ) (more b : Bool) → v ≡ word a x 3 → y ≡ v → more ≡ passes a y key → more ≡ b → passes a (forward a (forward a h 0) 0) key ≡ b
  after_passes y v more b v_is y_is passing found =
      ap (λ (z : ℕ). passes a (forward a z 0) key) (sym x_is) ∙ ap (λ (z : ℕ). passes a z key) (sym (y_is ∙ v_is))
      ∙ sym passing
      ∙ found

-- The run as the code finds it: n is the level of the first record.
module _ (a : List ℕ) (h hc key : ℕ) (cs : List ℕ) (r : ℕ) (rs ends : List ℕ) (w : Movable a h hc key cs r rs ends) (stops : passes a (forward a (forward a h 0) 0) key ≡ false) (x : ℕ) (x_is : x ≡ word a h 3) where
  abbrev first : Movable a h hc key cs x rs ends
  first = movable a h hc key cs r rs ends w x x_is

  stops_after : passes a (forward a x 0) key ≡ false
  stops_after = subst (λ (y : ℕ). passes a (forward a y 0) key ≡ false) (sym x_is) stops

  module _ (n : ℕ) (n_is : n ≡ word a x 0) where
    pub first_level : (1 ≤ n) × (n ≤ 8)
    first_level = let l = one_level a h hc key cs x rs ends first stops_after in let low = l.0 in let high = l.1 in (omega arith, omega arith)

    counted : LinkCount a key (x ∷ rs) n
    counted = subst (LinkCount a key (x ∷ rs)) (sym n_is) (one_link a h hc key cs x rs ends first stops_after)

    module _ (b : List ℕ) (q v : ℕ) (made : MakesUp (head_sums a h) (last_sums a ends) n q v) (raises : b ≡ put a x 2 (wrap (word a x 2) v)) where
      at_level : MakesUp (head_sums a h) (last_sums a ends) (level a x) q v
      at_level = subst (λ (l : ℕ). MakesUp (head_sums a h) (last_sums a ends) l q v) n_is made

      pub still_has : Has b x
      still_has =
          let long = (p_raised a v x b first.list.linked.chain.0.has raises).length_kept in
          let has = first.list.linked.chain.0.has in
          omega arith

      settled : Settled a b h q ends (front a key (x ∷ rs))
      settled = one_settled a h hc key cs x rs ends first stops_after b q v at_level raises

      module _ (cut found : List ℕ) (long : 8 ≤ length cut) (cut_is : (k : ℕ) → k < 8 → get_or cut k 0 ≡ x) (reads : (8 ≡ length found) × ((k : ℕ) → k < 8 → cut_sums found k ≡ adjust b x k)) where
        is_cut : CutAt a h key n (x ∷ rs) cut found
        is_cut =
            subst (λ (l : ℕ). CutAt a h key l (x ∷ rs) cut found) (sym n_is)
            (one_cut a h hc key cs x rs ends first stops_after b q v at_level raises cut found long cut_is reads.0 reads.1)

        pub first_relinkable : Relinkable b h hc cs (front a key (x ∷ rs)) (behind a key (x ∷ rs)) cut found ends n
        first_relinkable = can_relink a h hc key cs x rs ends first n counted cut found is_cut q b settled

        module _ (z ends' : List ℕ) (e : Spliced b z h hc cs (front a key (x ∷ rs)) (behind a key (x ∷ rs)) cut found ends ends' n) where
          pub first_moved : Run a z h hc key q cs (r ∷ rs) ends'
          first_moved =
              subst (λ (y : ℕ). Run a z h hc key q cs (y ∷ rs) ends') (first_is a h hc key cs r rs ends w x x_is)
              (run a h hc key cs x rs ends first n counted cut found is_cut q b settled e.links ends' e.relinked z e.stored)

          pub first_cached : (heads lasts heads' lasts' : List ℕ) → Cached a h ends heads lasts → RenewedBelow (cut_sums found) n heads heads' → RenewedBelow (last_sums b cut) n lasts lasts' → Cached z h ends' heads' lasts'
          first_cached = run_cached a h hc key cs x rs ends first n counted cut found is_cut q b settled e.links ends' e.relinked z e.stored
