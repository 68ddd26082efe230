-- A run without link 1, walked along and relinked at link 0, stands behind the open list as a run that was cut and settled.
-- Each of its records has level 1, so that its true p is its p and one sum, that of the links from 1 up: link 0 counts for no record.
use mathlib.Core.Path.{◌≡◌, refl, sym, ap, ap₂, subst, ◌∙◌}
use mathlib.Core.Bool.{Bool, true, false, ◌&&◌}
use mathlib.Core.List.{List, [], ◌∷◌, ◌++◌, map}
use Prim.Native.Nat.{ℕ, ◌+◌, ◌%◌, ◌^◌, ◌≤◌, ◌<◌}
use native.Mathlib.Nat.{mod-add-mod}
use native.Mathlib.Omega.{arith}
use borrow.Author.Count.{below_more}
use lib.Dec.{leb}
use lib.ListN.{get_or, set, replicate}
use borrow.Author.Tests.{le-leb}
use Rattle.arena.specs.Arena.{word, level, m_word, p_word, forward, adjust, back_at}
use Rattle.arena.specs.Lazy.{next_with, sum_from}
use Rattle.arena.specs.inside.Chain.{Has, put, wrap, All, p_under, after, trues, closed}
use Rattle.arena.proofs.SumLaws.{sum_agree, add_both}
use Rattle.arena.proofs.Frames.{all_both, all_refl, chain_low, after_out, next_here}
use Rattle.arena.proofs.ListLaws.{all_left}
use Rattle.arena.proofs.Summing.{renew_none}
use Rattle.searching.specs.inside.Cut.{front, LinkCount, CutAt, passes, behind}
use Rattle.searching.specs.inside.Walk.{Walked}
use Rattle.searching.proofs.SearchLaws.{front_in, none_in_front}
use Rattle.splicing.specs.inside.Open.{relink_one, relink_lowest, Relinkable, Relinked, last_sums, cut_sums}
use Rattle.splicing.proofs.RelinkWords.{Rewired, Ready, Replaced, rewired_none, rewired_turn, replaced_none, replaced_turn}
use Rattle.splicing.proofs.RelinkLaws.{first_has, ready, relinked}
use Rattle.settling.specs.inside.Settled.{head_sums, Settled}
use Rattle.settling.specs.inside.Cached.{Cached, MakesUp}
use Rattle.moving.specs.inside.Advance.{Movable, Run}
use Rattle.moving.proofs.Advancing.{linked, can_relink, run, run_cached}

-- A record of level 1 leaves the sum from link 1 up as it was.
sum_kept : (a : List ℕ) (f : ℕ → ℕ) (r : ℕ) → level a r ≤ 1 → sum_from (after a f r) 1 8 ≡ sum_from f 1 8
sum_kept a f r low = sum_agree f (after a f r) 1 8 (λ k from high. after_out a f r k (omega arith))

pub raised_one : (p p' s t v q : ℕ) → p' ≡ (p + v) % 2 ^ 32 → (v + t) % 2 ^ 32 ≡ (q + s) % 2 ^ 32 → (p' + t) % 2 ^ 32 ≡ ((p + s) % 2 ^ 32 + q) % 2 ^ 32
raised_one p p' s t v q up sums =
    let one : p + v + t ≡ p + (v + t) = omega arith in
    let other : p + (q + s) ≡ p + s + q = omega arith in
    ap (λ (n : ℕ). (n + t) % 2 ^ 32) up ∙ mod-add-mod (p + v) (2 ^ 32) t ∙ ap (λ (n : ℕ). n % 2 ^ 32) one
    ∙ add_both p (v + t) (q + s) sums
    ∙ ap (λ (n : ℕ). n % 2 ^ 32) other
    ∙ sym (mod-add-mod (p + s) (2 ^ 32) q)

-- Records of level 1, each with its p raised by v, have every true p raised by q where v makes up for the other sums.
module _ (a b : List ℕ) where
  low_raised : (f g : ℕ → ℕ) (v q : ℕ) → MakesUp f g 1 q v → (rs : List ℕ) → All (λ x. level a x ≡ 1) rs → All (λ x. level b x ≡ level a x) rs → All (λ x. p_word b x ≡ wrap (p_word a x) v) rs → trues b g rs ≡ map (λ (t : ℕ). wrap t q) (trues a f rs)
  unfolding trues p_under wrap
  low_raised f g v q sums [] one same up = refl
  low_raised f g v q sums (r ∷ rs) one same up =
      let one_a : level a r ≡ 1 = one.0 in
      let one_b : level b r ≡ 1 = same.0 ∙ one.0 in
      let s_a : sum_from (after a f r) 1 8 ≡ sum_from f 1 8 = sum_kept a f r (omega arith) in
      let s_b : sum_from (after b g r) 1 8 ≡ sum_from g 1 8 = sum_kept b g r (omega arith) in
      ap₂ ◌∷◌
      (ap (λ (l : ℕ). (p_word b r + sum_from g l 8) % 2 ^ 32) one_b
      ∙ raised_one (p_word a r) (p_word b r) (sum_from f 1 8) (sum_from g 1 8) v q up.0 sums
      ∙ ap (λ (l : ℕ). ((p_word a r + sum_from f l 8) % 2 ^ 32 + q) % 2 ^ 32) (sym one_a))
      (low_raised (after a f r) (after b g r) v q
      (ap (λ (s : ℕ). (v + s) % 2 ^ 32) s_b ∙ sums ∙ ap (λ (s : ℕ). (q + s) % 2 ^ 32) (sym s_a)) rs one.1 same.1
      up.1)

-- Whether the next record with link 1 passes, as the code finds it.
pub second_passes : (a : List ℕ) (h key x w : ℕ) (more b : Bool) → w ≡ word a h 4 → x ≡ w → more ≡ passes a x key → more ≡ b → passes a (forward a h 1) key ≡ b
second_passes a h key x w more b w_is x_is passing found =
    ap (λ (y : ℕ). passes a y key) (sym (x_is ∙ w_is)) ∙ sym passing ∙ found

module _ (a : List ℕ) (h hc key : ℕ) (cs : List ℕ) (r : ℕ) (rs ends : List ℕ) (w : Movable a h hc key cs r rs ends) where
  abbrev fr : List ℕ
  fr = front a key (r ∷ rs)

  abbrev back : List ℕ
  back = behind a key (r ∷ rs)

  -- The first record passes.
  pub first_passes : passes a (forward a h 0) key ≡ true
  unfolding passes
  first_passes =
      let top = w.list.linked.top in
      let member = w.list.linked.chain.0 in
      ap (λ (x : ℕ). leb 1 x && leb key (m_word a x)) (w.list.linked.links.at 0 (omega arith) ∙ next_here a 0 r rs member.low)
      ∙ rw (le-leb 1 r member.some, le-leb key (m_word a r) w.first) refl

  module _ (stops : passes a (forward a h 1) key ≡ false) where
    lows : All (λ x. level a x ≤ 1) fr
    lows =
        let top = w.list.linked.top in
        let link : forward a h 1 ≡ next_with a 1 (r ∷ rs) = w.list.linked.links.at 1 (omega arith) in
        none_in_front a 1 key (r ∷ rs) w.list.linked.chain w.list.falling
        (subst (λ (x : ℕ). passes a x key ≡ false) link stops)

    ones : All (λ x. level a x ≡ 1) fr
    ones =
        all_both fr (λ x (p : level a x ≤ 1) (q : 1 ≤ level a x). omega arith) lows
        (all_left (λ x. 1 ≤ level a x) fr back (chain_low closed a (fr ++ back) (linked a h hc key cs r rs ends w).chain))

    -- The walk settles the front, and its last record and head are the cut.
    module _ (q v : ℕ) (made : MakesUp (head_sums a h) (last_sums a ends) 1 q v) (b : List ℕ) (to : ℕ) (walked : Walked a b h key v (r ∷ rs) to) where
      settled : Settled a b h q ends fr
      settled =
          record {
            length_kept = walked.length_kept;
            shape = walked.shape;
            backs_kept = walked.backs_kept;
            outside = walked.outside;
            values =
                low_raised a b (head_sums a h) (last_sums a ends) v q made fr ones
                (all_refl fr (λ x. (walked.shape x).level_kept)) walked.raised;
          }

      abbrev cut : List ℕ
      cut = to ∷ replicate 7 h

      abbrev sums : List ℕ
      sums = adjust a to 0 ∷ replicate 7 0

      first_in : 1 ≤ next_with a 0 fr
      first_in =
          let member = w.list.linked.chain.0 in
          let some = member.some in
          subst (λ (l : List ℕ). 1 ≤ next_with a 0 l) (sym (front_in a key r rs w.first))
          (subst (λ (x : ℕ). 1 ≤ x) (sym (next_here a 0 r (front a key rs) member.low)) some)

      one_link : LinkCount a key (r ∷ rs) 1
      one_link =
          record {
            some = omega arith;
            few = omega arith;
            with_link = below_more _ 0 (λ k p. absurd (omega arith)) first_in;
            lower = lows;
          }

      is_cut : CutAt a h key 1 (r ∷ rs) cut sums
      is_cut =
          record {
            long = omega arith;
            sums_long = omega arith;
            at = below_more _ 0 (λ k p. absurd (omega arith)) walked.last;
            sums_at =
                below_more _ 0 (λ k p. absurd (omega arith)) (ap (λ (x : ℕ). adjust a x 0) walked.last);
          }

      can : Relinkable b h hc cs fr back cut sums ends 1
      can = can_relink a h hc key cs r rs ends w 1 one_link cut sums is_cut q b settled

      is_ready : Ready b h cut ends 1
      is_ready = ready b h hc cs fr back cut sums ends 1 can

      pub run_has : Has b h × Has b (get_or ends 0 0) × Has b to
      run_has = (is_ready.head, is_ready.from 0 (omega arith), is_ready.to 0 (omega arith))

      pub run_first : Has b (forward b h 0) × (get_or ends 0 0 < 4_294_967_296)
      run_first = (first_has b h hc cs fr back cut sums ends 1 can, w.end_fits)

      module _ (s : ℕ) (s_is : s ≡ word b to 11) (z : List ℕ) (relinks : z ≡ relink_lowest b h (get_or ends 0 0) to s) where
        -- The arena before the back word is stored.
        abbrev c : List ℕ
        c = relink_one b h (get_or ends 0 0) to 0 s

        stored : z ≡ put c (forward b h 0) back_at (get_or ends 0 0)
        unfolding relink_lowest
        stored = relinks

        same_sum : s ≡ get_or sums 0 0
        same_sum = s_is ∙ walked.adjust_kept to 0 (omega arith)

        rewired : Rewired b c h cut sums ends 0 1
        rewired =
            subst (λ (l : List ℕ). Rewired b l h cut sums ends 0 1)
            (sym (ap (relink_one b h (get_or ends 0 0) to 0) same_sum))
            (rewired_turn b b h cut sums ends 0 1 (omega arith) is_ready (rewired_none b h cut sums ends 1))

        replaced : Replaced cut ends (set ends 0 to) 0 1
        replaced =
            let long = w.result_ends.long in
            replaced_turn cut ends ends 0 1 (omega arith) (omega arith) (replaced_none cut ends 1)

        relinks_all : Relinked b c h hc cs fr back cut sums ends (set ends 0 to) 1
        relinks_all = relinked b h hc cs fr back cut sums ends 1 can c rewired (set ends 0 to) replaced

        pub run_moved : Run a z h hc key q cs (r ∷ rs) (set ends 0 to)
        run_moved =
            run a h hc key cs r rs ends w 1 one_link cut sums is_cut q b settled c (set ends 0 to) relinks_all z stored

        pub walk_cached : (heads lasts : List ℕ) → Cached a h ends heads lasts → Cached z h (set ends 0 to) heads lasts
        walk_cached heads lasts k =
            run_cached a h hc key cs r rs ends w 1 one_link cut sums is_cut q b settled c (set ends 0 to) relinks_all z stored
            heads lasts heads lasts k (λ f. renew_none (cut_sums sums) f heads) (λ f. renew_none (last_sums b cut) f lasts)
