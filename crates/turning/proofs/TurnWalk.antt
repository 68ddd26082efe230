-- What the loop that turns a list keeps, and that at its end the list is turned.
-- The records left follow one another by the first link, so that the walk ends, and at its end none are left.
use Rattle.std.proofs.Common.{◌≡◌, ℕ, ◌+◌, ◌*◌, ◌%◌, ◌^◌, ◌<◌, List, [], ◌∷◌, reverse, length, get_or, sym, refl, ap, ◌∙◌, subst, arith}
use mathlib.Core.List.{reverse_aux}
use Rattle.arena.specs.Arena.{stride, word, level, m_word, adjust, level_at, m_at, forward_at, adjust_at, back_at}
use Rattle.arena.specs.inside.Chain.{Has, put, All, Linked, after, trues, Same}
use Rattle.arena.specs.inside.Built.{Built}
use Rattle.arena.specs.inside.Backs.{Backed}
use Rattle.building.specs.inside.Building.{Cleared}
use Rattle.arena.specs.inside.Sums.{Suffixes, Enterable, Renewed}
use Rattle.turning.specs.inside.Turning.{TakenOver, Turnable1, Turnable, Turned}
use Rattle.arena.proofs.PutLaws.{length_put, word_other_record, word_other_field, same_trans}
use Rattle.arena.proofs.Frames.{all_map, all_refl, all_both, map_same, same_shape, same_value, linked_frame, trues_frame}
use Rattle.arena.proofs.BackStores.{built_stays, stored_beside}
use Rattle.building.proofs.ClearLaws.{cleared_first}
use Rattle.arena.proofs.Summing.{passed_kept}
use Rattle.turning.proofs.Swaps.{Turned1, turned_beside}
use Rattle.arena.proofs.Walking.{count, next_none, next_first, count_is, one_list}
use Rattle.turning.proofs.Turns.{Moved, Ready, moved_none, ready_fresh, ready_more, moved_more}
use Rattle.turning.proofs.TurnedBacks.{Behind, behind_none, turned_stored, behind_more, behind_done}

-- What clearing the new head leaves of the list.
module _ (a : List ℕ) (from to : ℕ) (rs b : List ℕ) (t : Turnable a from to rs) (cleared : Cleared a to b) where
  head_same : Same a b from
  head_same = cleared.outside from (λ e. t.apart (sym e))

  rest_same : All (Same a b) rs
  rest_same = all_map rs cleared.outside t.away

  linked_cleared : Linked b from rs
  linked_cleared =
      linked_frame a b from rs cleared.long (same_shape a b from head_same)
      (all_map rs (same_shape a b) rest_same) t.linked

  pub cleared_enterable : (sums : List ℕ) → length sums ≡ 9 → get_or sums 8 0 ≡ 0 → Enterable b from sums
  cleared_enterable sums e none = record { has = linked_cleared.has; nine = e; none = none }

-- The arena a is that with the new head cleared. Of its list rs of the old head the records qs are left, and the words hold the sums f that lead to them.
-- The new head's first forward is `last`, beside the arena b, so that its list is that of the arena with `last` stored.
-- The first of rs is `first`, so that it will be the last of the new list.
pub record Turning (a : List ℕ) (from to first : ℕ) (b : List ℕ) (last : ℕ) (sums : List ℕ) (next : ℕ) : Type 0 where
  pub rs : List ℕ
  pub linked : Linked a from rs
  pub ds : List ℕ
  pub qs : List ℕ
  pub ready : Ready (put b to forward_at last) to ds qs next
  pub f : ℕ → ℕ
  pub suffixes : Suffixes f sums
  pub rest : (c : List ℕ) → Moved (put b to forward_at last) f to ds qs c → Moved a (adjust a from) to [] rs c
  pub behind : Behind (put b to forward_at last) first next ds
  pub long : length b ≡ length a
  pub fits : next < 4_294_967_296

pub turning_start : (a : List ℕ) (from to : ℕ) (b sums : List ℕ) (next : ℕ) → (rs : List ℕ) × Turnable a from to rs → Cleared a to b → Suffixes (adjust b from) sums → next ≡ word b from forward_at → next < 4_294_967_296 → Turning b from to next b 0 sums next
turning_start a from to b sums next (rs, t) cleared entered e fits =
    let linked = linked_cleared a from to rs b t cleared in
    let top = linked.top in
    let same = cleared_first a to b cleared in
    record {
      rs = rs;
      linked = linked;
      ds = [];
      qs = rs;
      ready =
          subst (λ (d : List ℕ). Ready d to [] rs next) (sym same)
          (record {
            built = cleared.built;
            chain = linked.chain;
            next_is = e ∙ linked.links.at 0 (omega arith);
            few = t.few;
            apart = t.away;
            cross = all_refl rs (λ x. tt);
          });
      f = adjust b from;
      suffixes = entered;
      rest = λ c m. subst (λ (d : List ℕ). Moved d (adjust b from) to [] rs c) same m;
      behind = behind_none (put b to forward_at 0) next next refl;
      long = refl;
      fits = fits;
    }

-- The same where a record is left: it is `next`. The arena d is that with `last` stored.
record Left (a : List ℕ) (from to first : ℕ) (d sums : List ℕ) (next : ℕ) : Type 0 where
  pub rs : List ℕ
  pub linked : Linked a from rs
  pub ds : List ℕ
  pub qs : List ℕ
  pub ready : Ready d to ds (next ∷ qs) next
  pub f : ℕ → ℕ
  pub suffixes : Suffixes f sums
  pub rest : (c : List ℕ) → Moved d f to ds (next ∷ qs) c → Moved a (adjust a from) to [] rs c
  pub behind : Behind d first next ds

module _ (a : List ℕ) (from to first : ℕ) (b : List ℕ) (last : ℕ) (sums : List ℕ) (next : ℕ) (t : Turning a from to first b last sums next) where
  pub turning_head : Has b to
  turning_head =
      let long = length_put b to forward_at last in
      let has = t.ready.built.linked.has in
      omega arith

  module _ (some : next ≡ 0 → ⊥) where
    left : Left a from to first (put b to forward_at last) sums next
    left = split t.qs t.ready t.rest
      where
        split : (qs : List ℕ) → Ready (put b to forward_at last) to t.ds qs next → ((c : List ℕ) → Moved (put b to forward_at last) t.f to t.ds qs c → Moved a (adjust a from) to [] t.rs c) → Left a from to first (put b to forward_at last) sums next
        split [] ready rest = absurd (some (ready.next_is ∙ next_none (put b to forward_at last)))
        split (q ∷ qs) ready rest =
            let e : q ≡ next = sym (ready.next_is ∙ next_first (put b to forward_at last) q qs ready.chain.0) in
            record {
              rs = t.rs;
              linked = t.linked;
              ds = t.ds;
              qs = qs;
              ready = subst (λ (x : ℕ). Ready (put b to forward_at last) to t.ds (x ∷ qs) next) e ready;
              f = t.f;
              suffixes = t.suffixes;
              rest =
                  subst (λ (x : ℕ). (c : List ℕ) → Moved (put b to forward_at last) t.f to t.ds (x ∷ qs) c → Moved a (adjust a from) to [] t.rs c) e rest;
              behind = t.behind;
            }

    kept : (j : ℕ) → (j ≡ forward_at → ⊥) → j < stride → word (put b to forward_at last) next j ≡ word b next j
    kept j ne few = word_other_field b to forward_at last next j ne (omega arith) few

    next_can : Turnable1 b to next sums
    next_can =
        let m = left.ready.chain.0 in
        let long = length_put b to forward_at last in
        let level_kept = kept level_at (λ e. omega arith) (omega arith) in
        let has = m.has in
        let low = m.low in
        let high = m.high in
        record {
          hookable =
              record { head_has = turning_head; has = omega arith; apart = left.ready.apart.0; fits = t.fits };
          summable = record { has = omega arith; low = omega arith; high = omega arith; nine = t.suffixes.nine };
        }

    -- The record's number as the code has it.
    module _ (r : ℕ) (same : r ≡ next) where
      pub turning_has : Has b r
      turning_has = subst (λ (x : ℕ). Has b x) (sym same) next_can.hookable.has

      pub turning_can : Turnable1 b to r sums
      turning_can = subst (λ (x : ℕ). Turnable1 b to x sums) (sym same) next_can

      module _ (n : ℕ) (e : n ≡ word b r forward_at) (c : List ℕ) (turned : (f : ℕ → ℕ) → Suffixes f sums → TakenOver b f to r last c) (g : List ℕ) (stored : g ≡ put c r back_at n) where
        e_next : n ≡ word (put b to forward_at last) next forward_at
        e_next =
            e ∙ ap (λ (x : ℕ). word b x forward_at) same
            ∙ sym (word_other_record b to forward_at last next forward_at left.ready.apart.0 (omega arith) (omega arith))

        -- The record turned, before its back word is stored.
        one_linked : Turned1 (put b to forward_at last) left.f to next left.ds (put c to forward_at next)
        one_linked =
            let old = left.ready in
            turned_beside b left.f to next last left.ds c old.built
            (ready_fresh (put b to forward_at last) to next left.ds left.qs next old)
            (subst (λ (x : ℕ). TakenOver b left.f to x last c) same
            (turned left.f left.suffixes))

        beside : put g to forward_at next ≡ put (put c to forward_at next) next back_at n
        beside = stored_beside c next n g (stored ∙ ap (λ (x : ℕ). put c x back_at n) same) to next

        one : Turned1 (put b to forward_at last) left.f to next left.ds (put g to forward_at next)
        one =
            subst (Turned1 (put b to forward_at last) left.f to next left.ds) (sym beside)
            (turned_stored (put b to forward_at last) left.f to next left.ds (put c to forward_at next) one_linked n)

        ready : Ready (put g to forward_at next) to (next ∷ left.ds) left.qs n
        ready =
            ready_more (put b to forward_at last) left.f to next left.ds left.qs next left.ready (put g to forward_at next) one n e_next

        pub turning_less : count 512 (put g to forward_at next) n < count 512 (put b to forward_at last) next
        turning_less =
            let old = left.ready in
            let new = ready in
            let x = count_is 512 (put b to forward_at last) (next ∷ left.qs) next old.chain old.next_is old.few in
            let y = count_is 512 (put g to forward_at next) left.qs n new.chain new.next_is new.few in
            omega arith

        pub turning_more : (sums' : List ℕ) → Renewed b r sums sums' → length g ≡ length b → n < 4_294_967_296 → Turning a from to first g next sums' n
        turning_more sums' passed long fits =
            record {
              rs = left.rs;
              linked = left.linked;
              ds = next ∷ left.ds;
              qs = left.qs;
              ready = ready;
              f = after (put b to forward_at last) left.f next;
              suffixes =
                  passed_kept (put b to forward_at last) b left.f next sums' (sym (kept level_at (λ e. omega arith) (omega arith)))
                  (λ k few. sym (kept (adjust_at + k) (λ e. omega arith) (omega arith)))
                  (subst (λ (x : ℕ). Suffixes (after b left.f x) sums') same (passed left.f left.suffixes));
              rest =
                  λ d m. left.rest d
                  (moved_more (put b to forward_at last) left.f to next left.ds left.qs next left.ready (put g to forward_at next) one d m);
              behind =
                  subst (λ (d : List ℕ). Behind d first n (next ∷ left.ds)) (sym beside)
                  (behind_more (put b to forward_at last) left.f to next left.ds (put c to forward_at next) one_linked n left.qs next first left.ready left.behind);
              long = long ∙ t.long;
              fits = fits;
            }

left_none : (b : List ℕ) (h : ℕ) (ds qs : List ℕ) (next : ℕ) → Ready b h ds qs next → next ≡ 0 → qs ≡ []
left_none b h ds [] next ready e = refl
left_none b h ds (q ∷ qs) next ready e =
    let f = ready.next_is in
    let g = next_first b q qs ready.chain.0 in
    let some = ready.chain.0.some in
    absurd (omega arith)

moved_all : (a : List ℕ) (from to first : ℕ) (b : List ℕ) (last : ℕ) (sums : List ℕ) (next : ℕ) (t : Turning a from to first b last sums next) → next ≡ 0 → Moved a (adjust a from) to [] t.rs (put (put b to forward_at last) to back_at first)
moved_all a from to first b last sums next t e =
    let d = put b to forward_at last in
    t.rest (put d to back_at first)
    (subst (λ (qs : List ℕ). Moved d t.f to t.ds qs (put d to back_at first)) (sym (left_none d to t.ds t.qs next t.ready e))
    (moved_none d t.f to first t.ds t.ready.built))

module _ (a : List ℕ) (from to first : ℕ) (b d : List ℕ) (last : ℕ) (sums : List ℕ) (next : ℕ) (small : (i : ℕ) → get_or a i 0 < 4_294_967_296) where
  pub turning_done : Cleared a to b → Turning b from to first d last sums next → next ≡ 0 → (g c : List ℕ) → g ≡ put d to forward_at last → c ≡ put g to back_at first → (rs : List ℕ) → Turnable a from to rs → Turned a from to rs c
  unfolding trues word
  turning_done cleared t e g c g_is c_is rs k =
      let stored : c ≡ put (put d to forward_at last) to back_at first = c_is ∙ ap (λ (l : List ℕ). put l to back_at first) g_is in
      let linked = linked_cleared a from to rs b k cleared in
      let all : Moved b (adjust b from) to [] t.rs c = subst (Moved b (adjust b from) to [] t.rs) (sym stored) (moved_all b from to first d last sums next t e) in
      let m : Moved b (adjust b from) to [] rs c = subst (λ (ss : List ℕ). Moved b (adjust b from) to [] ss c) (one_list b from t.rs rs t.linked linked) all in
      let turned = t.ready.built in
      let backs : Backed c to t.ds = subst (λ (l : List ℕ). Backed l to t.ds) (sym stored) (behind_done (put d to forward_at last) to first next t.ds t.behind e turned) in
      let listed : Built c to t.ds = subst (λ (l : List ℕ). Built l to t.ds) (sym stored) (built_stays (put d to forward_at last) to first to t.ds turned) in
      let backed = subst (Backed c to) (one_list c to t.ds (reverse rs) listed.linked m.built.linked) backs in
      let same = rest_same a from to rs b k cleared in
      let head = head_same a from to rs b k cleared in
      record {
        long = m.long ∙ cleared.long;
        outside = λ x p q. same_trans a b c x (cleared.outside x p) (m.outside x p q tt);
        built = m.built;
        backed = backed;
        levels = all_both rs (λ x (p : level c x ≡ level b x) (q : Same a b x). p ∙ q.at level_at (omega arith)) m.levels same;
        m_is =
            m.m_is
            ∙ trues_frame a b (adjust a from) (adjust b from) rs (λ k w. head.at (adjust_at + k) (omega arith))
            (all_map rs (same_value a b) same);
        p_is = m.p_is ∙ map_same (m_word b) (m_word a) rs (all_map rs (λ x (q : Same a b x). q.at m_at (omega arith)) same);
        true_ps =
            m.true_ps
            ∙ ap (λ (l : List ℕ). reverse_aux l [])
            (map_same (λ x. m_word b x % 2 ^ 32) (m_word a) rs
            (all_map rs
            (λ x (q : Same a b x).
            let k : m_word b x ≡ m_word a x = q.at m_at (omega arith) in
            let s = small (stride * x + 1) in
            omega arith)
            same));
      }
