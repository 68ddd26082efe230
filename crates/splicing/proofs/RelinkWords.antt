-- Which words change when the front of a list is moved behind an open list, link by link, and what they become.
-- A turn writes two forwards and an adjust of its own link, so that what the turns before it wrote stays and what those after it read is still as it was.
use Rattle.std.proofs.Common.{◌≡◌, ℕ, suc, ◌+◌, ◌<◌, ◌≤◌, List, length, get_or, set, sym, refl, ap, ◌∙◌, subst, arith, length-set, get_or-set_other, get_or-set_same}
use Rattle.arena.specs.Arena.{stride, word, forward, adjust, back_at}
use Rattle.arena.specs.inside.Chain.{Has, put}
use Rattle.arena.specs.inside.Backs.{BacksKept}
use Rattle.arena.proofs.Cases.{eq_or_ne}
use Rattle.arena.proofs.PutLaws.{length_put, word_same, word_other_record, word_other_field}
use Rattle.splicing.specs.inside.Open.{pass_on, relink_one}

-- One link: from is the last record of the open list, to the last one of the front.
module _ (a : List ℕ) (h from to k v : ℕ) where
  abbrev given : List ℕ
  given = put a from (3 + k) (word a h (3 + k))

  abbrev taken : List ℕ
  taken = put given h (3 + k) (word given to (3 + k))

  is_puts : relink_one a h from to k v ≡ put taken h (11 + k) v
  unfolding relink_one pass_on
  is_puts = refl

  pub one_length : length (relink_one a h from to k v) ≡ length a
  one_length =
      ap length is_puts ∙ length_put taken h (11 + k) v ∙ length_put given h (3 + k) _ ∙ length_put a from (3 + k) _

  module _ (small : k < 8) where
    one_adjusts : (x j : ℕ) → j < stride → (j ≡ 11 + k → ⊥) → word (relink_one a h from to k v) x j ≡ word taken x j
    one_adjusts x j few n =
        ap (λ (b : List ℕ). word b x j) is_puts ∙ word_other_field taken h (11 + k) v x j n (omega arith) few

    -- Words that are no forward and no adjust of link k, and the words of other records.
    pub one_field : (x j : ℕ) → j < stride → (j ≡ 3 + k → ⊥) → (j ≡ 11 + k → ⊥) → word (relink_one a h from to k v) x j ≡ word a x j
    one_field x j few m n =
        one_adjusts x j few n ∙ word_other_field given h (3 + k) _ x j m (omega arith) few
        ∙ word_other_field a from (3 + k) _ x j m (omega arith) few

    pub one_adjust_other : (x : ℕ) → (x ≡ h → ⊥) → word (relink_one a h from to k v) x (11 + k) ≡ word a x (11 + k)
    one_adjust_other x n =
        ap (λ (b : List ℕ). word b x (11 + k)) is_puts
        ∙ word_other_record taken h (11 + k) v x (11 + k) n (omega arith) (omega arith)
        ∙ word_other_field given h (3 + k) _ x (11 + k) (omega arith) (omega arith) (omega arith)
        ∙ word_other_field a from (3 + k) _ x (11 + k) (omega arith) (omega arith) (omega arith)

    pub one_forward_other : (x : ℕ) → (x ≡ h → ⊥) → (x ≡ from → ⊥) → word (relink_one a h from to k v) x (3 + k) ≡ word a x (3 + k)
    one_forward_other x m n =
        one_adjusts x (3 + k) (omega arith) (omega arith)
        ∙ word_other_record given h (3 + k) _ x (3 + k) m (omega arith) (omega arith)
        ∙ word_other_record a from (3 + k) _ x (3 + k) n (omega arith) (omega arith)

    -- The three words that are written.
    pub one_from : Has a from → (from ≡ h → ⊥) → word (relink_one a h from to k v) from (3 + k) ≡ word a h (3 + k)
    one_from has n =
        one_adjusts from (3 + k) (omega arith) (omega arith)
        ∙ word_other_record given h (3 + k) _ from (3 + k) n (omega arith) (omega arith)
        ∙ word_same a from (3 + k) _ has (omega arith)

    pub one_head : Has a h → (to ≡ from → ⊥) → word (relink_one a h from to k v) h (3 + k) ≡ word a to (3 + k)
    one_head has n =
        let long : length given ≡ length a = length_put a from (3 + k) _ in
        one_adjusts h (3 + k) (omega arith) (omega arith) ∙ word_same given h (3 + k) _ (omega arith) (omega arith)
        ∙ word_other_record a from (3 + k) _ to (3 + k) n (omega arith) (omega arith)

    pub one_adjust : Has a h → word (relink_one a h from to k v) h (11 + k) ≡ v
    one_adjust has =
        let long : length taken ≡ length a = length_put given h (3 + k) _ ∙ length_put a from (3 + k) _ in
        ap (λ (b : List ℕ). word b h (11 + k)) is_puts ∙ word_same taken h (11 + k) v (omega arith) (omega arith)

-- The words after the links from i up to n were done.
pub record Rewired (a b : List ℕ) (h : ℕ) (cut sums ends : List ℕ) (i n : ℕ) : Type 0 where
  pub length_kept : length b ≡ length a
  pub plain : (x j : ℕ) → j < 3 → word b x j ≡ word a x j
  pub backs_kept : BacksKept a b
  pub adjust_other : (x k : ℕ) → k < 8 → (x ≡ h → ⊥) → adjust b x k ≡ adjust a x k
  pub adjust_done : (k : ℕ) → i ≤ k → k < n → adjust b h k ≡ get_or sums k 0
  pub adjust_above : (k : ℕ) → n ≤ k → k < 8 → adjust b h k ≡ adjust a h k
  pub from_done : (k : ℕ) → i ≤ k → k < n → forward b (get_or ends k 0) k ≡ forward a h k
  pub head_done : (k : ℕ) → i ≤ k → k < n → forward b h k ≡ forward a (get_or cut k 0) k
  pub forward_other : (x k : ℕ) → i ≤ k → k < n → (x ≡ h → ⊥) → (x ≡ get_or ends k 0 → ⊥) → forward b x k ≡ forward a x k
  pub forward_below : (x k : ℕ) → k < i → forward b x k ≡ forward a x k
  pub forward_above : (x k : ℕ) → n ≤ k → k < 8 → forward b x k ≡ forward a x k

-- What the turns lean on: the records that they write and read are there, and are not one another.
pub record Ready (a : List ℕ) (h : ℕ) (cut ends : List ℕ) (n : ℕ) : Type 0 where
  pub high : n ≤ 8
  pub head : Has a h
  pub from : (k : ℕ) → k < n → Has a (get_or ends k 0)
  pub to : (k : ℕ) → k < n → Has a (get_or cut k 0)
  pub from_not_head : (k : ℕ) → k < n → get_or ends k 0 ≡ h → ⊥
  pub to_not_from : (k : ℕ) → k < n → get_or cut k 0 ≡ get_or ends k 0 → ⊥
  pub to_not_head : (k : ℕ) → k < n → get_or cut k 0 ≡ h → ⊥

pub rewired_none : (a : List ℕ) (h : ℕ) (cut sums ends : List ℕ) (n : ℕ) → Rewired a a h cut sums ends n n
rewired_none a h cut sums ends n =
    record {
      length_kept = refl;
      plain = λ x j p. refl;
      backs_kept = λ x. refl;
      adjust_other = λ x k p m. refl;
      adjust_done = λ k p q. absurd (omega arith);
      adjust_above = λ k p q. refl;
      from_done = λ k p q. absurd (omega arith);
      head_done = λ k p q. absurd (omega arith);
      forward_other = λ x k p q m o. refl;
      forward_below = λ x k p. refl;
      forward_above = λ x k p q. refl;
    }

-- What holds at i, and from the link above it on, holds from i on.
from_here : (P : ℕ → Type 0) (i n : ℕ) → P i → ((k : ℕ) → suc i ≤ k → k < n → P k) → (k : ℕ) → i ≤ k → k < n → P k
from_here P i n here later k low high =
    eq_or_ne k i (λ e. subst P (sym e) here) (λ e. later k (omega (arith, e)) high)

-- A turn at link i, the highest that is not done.
module _ (a b : List ℕ) (h : ℕ) (cut sums ends : List ℕ) (i n : ℕ) (less : i < n) (r : Ready a h cut ends n) (w : Rewired a b h cut sums ends (suc i) n) where
  abbrev next : List ℕ
  next = relink_one b h (get_or ends i 0) (get_or cut i 0) i (get_or sums i 0)

  small : i < 8
  small = let q = r.high in omega arith

  kept : (x j : ℕ) → j < stride → (j ≡ 3 + i → ⊥) → (j ≡ 11 + i → ⊥) → word next x j ≡ word b x j
  kept x j = one_field b h (get_or ends i 0) (get_or cut i 0) i (get_or sums i 0) small x j

  pub rewired_turn : Rewired a next h cut sums ends i n
  rewired_turn =
      let s = small in
      let long = w.length_kept in
      let high = r.high in
      let has = r.head in
      let has_from = r.from i less in
      record {
        length_kept = one_length b h (get_or ends i 0) (get_or cut i 0) i (get_or sums i 0) ∙ long;
        plain = λ x j p. kept x j (omega arith) (omega arith) (omega arith) ∙ w.plain x j p;
        backs_kept = λ x. kept x back_at (omega arith) (omega arith) (omega arith) ∙ w.backs_kept x;
        adjust_other = λ x k p m.
            eq_or_ne k i
            (λ e.
            let now_is : word next x (11 + i) ≡ word b x (11 + i) = one_adjust_other b h (get_or ends i 0) (get_or cut i 0) i (get_or sums i 0) s x m in
            subst (λ (y : ℕ). word next x (11 + y) ≡ word b x (11 + y)) (sym e) now_is ∙ w.adjust_other x k p m)
            (λ e. kept x (11 + k) (omega arith) (omega arith) (λ f. e (omega arith)) ∙ w.adjust_other x k p m);
        adjust_done =
            from_here (λ k. word next h (11 + k) ≡ get_or sums k 0) i n
            (one_adjust b h (get_or ends i 0) (get_or cut i 0) i (get_or sums i 0) s (omega arith))
            (λ k p q. kept h (11 + k) (omega arith) (omega arith) (omega arith) ∙ w.adjust_done k p q);
        adjust_above = λ k p m. kept h (11 + k) (omega arith) (omega arith) (omega arith) ∙ w.adjust_above k p m;
        from_done =
            from_here (λ k. word next (get_or ends k 0) (3 + k) ≡ word a h (3 + k)) i n
            (one_from b h (get_or ends i 0) (get_or cut i 0) i (get_or sums i 0) s (omega arith) (r.from_not_head i less)
            ∙ w.forward_below h i (omega arith))
            (λ k p q. kept (get_or ends k 0) (3 + k) (omega arith) (omega arith) (omega arith) ∙ w.from_done k p q);
        head_done =
            from_here (λ k. word next h (3 + k) ≡ word a (get_or cut k 0) (3 + k)) i n
            (one_head b h (get_or ends i 0) (get_or cut i 0) i (get_or sums i 0) s (omega arith) (r.to_not_from i less)
            ∙ w.forward_below (get_or cut i 0) i (omega arith))
            (λ k p q. kept h (3 + k) (omega arith) (omega arith) (omega arith) ∙ w.head_done k p q);
        forward_other = λ x k p q m.
            from_here (λ y. (x ≡ get_or ends y 0 → ⊥) → word next x (3 + y) ≡ word a x (3 + y)) i n
            (λ o. one_forward_other b h (get_or ends i 0) (get_or cut i 0) i (get_or sums i 0) s x m o ∙ w.forward_below x i (omega arith))
            (λ j u v o. kept x (3 + j) (omega arith) (omega arith) (omega arith) ∙ w.forward_other x j u v m o)
            k p q;
        forward_below = λ x k p. kept x (3 + k) (omega arith) (omega arith) (omega arith) ∙ w.forward_below x k (omega arith);
        forward_above = λ x k p m. kept x (3 + k) (omega arith) (omega arith) (omega arith) ∙ w.forward_above x k p m;
      }

-- The ends, of which those from i up to n were replaced by the cut.
pub record Replaced (cut ends ends' : List ℕ) (i n : ℕ) : Type 0 where
  pub length_kept : length ends' ≡ length ends
  pub done : (k : ℕ) → i ≤ k → k < n → get_or ends' k 0 ≡ get_or cut k 0
  pub below : (k : ℕ) → k < i → get_or ends' k 0 ≡ get_or ends k 0
  pub above : (k : ℕ) → n ≤ k → get_or ends' k 0 ≡ get_or ends k 0

pub replaced_none : (cut ends : List ℕ) (n : ℕ) → Replaced cut ends ends n n
replaced_none cut ends n =
    record { length_kept = refl; done = λ k p q. absurd (omega arith); below = λ k p. refl; above = λ k p. refl }

pub replaced_turn : (cut ends ends' : List ℕ) (i n : ℕ) → i < n → i < length ends → Replaced cut ends ends' (suc i) n → Replaced cut ends (set ends' i (get_or cut i 0)) i n
replaced_turn cut ends ends' i n less inside r =
    let long = r.length_kept in
    record {
      length_kept = length-set ends' i (get_or cut i 0) ∙ long;
      done =
          from_here (λ k. get_or (set ends' i (get_or cut i 0)) k 0 ≡ get_or cut k 0) i n
          (get_or-set_same ends' i (get_or cut i 0) 0 (omega arith))
          (λ k p q. get_or-set_other ends' i k (get_or cut i 0) 0 (omega arith) ∙ r.done k p q);
      below = λ k p. get_or-set_other ends' i k (get_or cut i 0) 0 (omega arith) ∙ r.below k (omega arith);
      above = λ k p. get_or-set_other ends' i k (get_or cut i 0) 0 (omega arith) ∙ r.above k p;
    }
