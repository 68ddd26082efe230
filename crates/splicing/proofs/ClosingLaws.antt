-- After forward k of the last record with link k of an open list is made 0, for every k, the open list is the list of its head.
-- A record before another one with link k has the right forward already, and one that is before none of them is the last one and has 0.
use Rattle.std.proofs.Common.{◌≡◌, ℕ, ◌+◌, ◌<◌, ◌≤◌, cond, ltb, List, [], ◌∷◌, length, get_or, sym, refl, ap, ◌∙◌, subst, arith, below_more}
use Rattle.arena.specs.Arena.{stride, word, level, forward, back_at}
use Rattle.arena.specs.Lazy.{next_with, last_with}
use Rattle.arena.specs.inside.Chain.{Has, put, All, Away, Links, Chain, Same, Value, growing, LinksOf, ChainOf}
use Rattle.arena.proofs.Cases.{eq_or_ne}
use Rattle.arena.proofs.ListLaws.{last_here, last_none, next_none, some_or_none, last_all, not_last}
use Rattle.arena.proofs.PutLaws.{length_put, word_same, word_other_record, word_other_field}
use Rattle.arena.proofs.Frames.{all_refl, next_frame, member_before, chain_some, chain_has}
use Rattle.splicing.specs.inside.Open.{OpenLinked, EndsOf, Closed}

-- The words after the links below n were closed.
pub record Ended (a b : List ℕ) (ends : List ℕ) (n : ℕ) : Type 0 where
  pub length_kept : length b ≡ length a
  pub done : (k : ℕ) → k < n → forward b (get_or ends k 0) k ≡ 0
  pub other : (x j : ℕ) → j < stride → ((k : ℕ) → k < n → j ≡ 3 + k → x ≡ get_or ends k 0 → ⊥) → word b x j ≡ word a x j

pub ended_none : (a ends : List ℕ) → Ended a a ends 0
ended_none a ends =
    record { length_kept = refl; done = λ k p. absurd (omega arith); other = λ x j few n. refl }

pub ended_turn : (a b ends : List ℕ) (i : ℕ) → i < 8 → Has a (get_or ends i 0) → Ended a b ends i → Ended a (put b (get_or ends i 0) (3 + i) 0) ends (i + 1)
ended_turn a b ends i small has w =
    let long = w.length_kept in
    record {
      length_kept = length_put b (get_or ends i 0) (3 + i) 0 ∙ long;
      done =
          below_more _ _
          (λ k e.
          word_other_field b (get_or ends i 0) (3 + i) 0 (get_or ends k 0) (3 + k) (omega arith) (omega arith) (omega arith)
          ∙ w.done k e)
          (word_same b (get_or ends i 0) (3 + i) 0 (omega arith) (omega arith));
      other = λ x j few n.
          eq_or_ne j (3 + i)
          (λ e.
          word_other_record b (get_or ends i 0) (3 + i) 0 x j (n i (omega arith) e) (omega arith) few
          ∙ w.other x j few (λ k p. n k (omega arith)))
          (λ e.
          word_other_field b (get_or ends i 0) (3 + i) 0 x j e (omega arith) few
          ∙ w.other x j few (λ k p. n k (omega arith)));
    }

pub ends_has : (a : List ℕ) (h : ℕ) (cs ends : List ℕ) → OpenLinked a h cs → EndsOf a h cs ends → (k : ℕ) → k < 8 → Has a (get_or ends k 0)
ends_has a h cs ends l lasts k p =
    subst (λ (x : ℕ). Has a x) (sym (lasts.at k p))
    (last_all a k (λ x. Has a x) h cs l.has (chain_has growing a cs l.chain))

module _ (a b ends : List ℕ) (w : Ended a b ends 8) where
  field_kept : (x j : ℕ) → j < stride → ((k : ℕ) → k < 8 → j ≡ 3 + k → ⊥) → word b x j ≡ word a x j
  field_kept x j few n = w.other x j few (λ k p e f. n k p e)

  level_kept : (x : ℕ) → level b x ≡ level a x
  level_kept x = field_kept x 0 (omega arith) (λ k p e. omega arith)

  next_kept : (k : ℕ) (rs : List ℕ) → next_with b k rs ≡ next_with a k rs
  next_kept k rs = next_frame a b k rs (all_refl rs level_kept)

  has_kept : (x : ℕ) → Has a x → Has b x
  has_kept x has = let l = w.length_kept in omega arith

  forward_kept : (x k : ℕ) → k < 8 → (x ≡ get_or ends k 0 → ⊥) → forward b x k ≡ forward a x k
  forward_kept x k few ne =
      w.other x (3 + k) (omega arith)
      (λ i p e f. let s : k ≡ i = omega arith in ne (subst (λ (y : ℕ). x ≡ get_or ends y 0) (sym s) f))

  -- A record x of the open list, or its head, before the records xs of it.
  closed_links : (x : ℕ) (xs : List ℕ) → level a x ≤ 8 → Away x xs → All (λ y. 1 ≤ y) xs → ((k : ℕ) → k < level a x → get_or ends k 0 ≡ last_with a k x xs) → LinksOf growing a x xs → Links b x xs
  closed_links x xs high away some lasts l =
      record {
        at = λ k p.
            let same = level_kept x in
            some_or_none a k xs some
            (λ one.
            forward_kept x k (omega arith) (λ e. not_last a k x xs away one (e ∙ lasts k (omega arith)))
            ∙ l.at k (omega arith) one
            ∙ sym (next_kept k xs))
            (λ none.
            let last : x ≡ get_or ends k 0 = sym (lasts k (omega arith) ∙ last_none a k x xs none) in
            ap (λ (y : ℕ). forward b y k) last ∙ w.done k (omega arith) ∙ sym (next_none a k xs none)
            ∙ sym (next_kept k xs));
      }

  closed_chain : (xs : List ℕ) (y : ℕ → ℕ) → ((k : ℕ) → k < 8 → get_or ends k 0 ≡ last_with a k (y k) xs) → ChainOf growing a xs → Chain b xs
  unfolding last_with
  closed_chain [] y lasts c = tt
  closed_chain (x ∷ xs) y lasts c =
      let m = c.0 in
      let high = m.high in (
        member_before a b x w.length_kept (level_kept x) m
            (closed_links x xs high m.away (chain_some growing a xs c.1)
            (λ k p. lasts k (omega arith) ∙ last_here a k (y k) x xs p) m.links)
            m.away,
        closed_chain xs (λ k. cond (ltb k (level a x)) x (y k)) lasts c.1,
      )

  pub closed : (h : ℕ) (cs : List ℕ) → OpenLinked a h cs → EndsOf a h cs ends → Closed a b h cs ends
  closed h cs l lasts =
      let top = l.top in
      record {
        length_kept = w.length_kept;
        list =
            record {
              has = has_kept h l.has;
              top = level_kept h ∙ top;
              links =
                  closed_links h cs (omega arith) l.away (chain_some growing a cs l.chain) (λ k p. lasts.at k (omega arith))
                  l.links;
              away = l.away;
              chain = closed_chain cs (λ k. h) lasts.at l.chain;
            };
        level_kept = level_kept;
        m_kept = λ x. field_kept x 1 (omega arith) (λ k p e. omega arith);
        p_kept = λ x. field_kept x 2 (omega arith) (λ k p e. omega arith);
        backs_kept = λ x. field_kept x back_at (omega arith) (λ k p e. omega arith);
        adjust_kept = λ x k few. field_kept x (11 + k) (omega arith) (λ i p e. omega arith);
        outside = λ x n. record { at = λ j few. w.other x j few (λ k p e. n k p) };
      }

-- What is left as it was: the values of every record, and the records of other lists.
module _ (a b : List ℕ) (h : ℕ) (cs ends : List ℕ) (d : Closed a b h cs ends) where
  pub closed_value : (x : ℕ) → Value a b x
  closed_value x =
      record { level_kept = d.level_kept x; p_kept = d.p_kept x; adjust_kept = λ k few. d.adjust_kept x k few }

  pub closed_same : (x : ℕ) → EndsOf a h cs ends → (h ≡ x → ⊥) → Away x cs → Same a b x
  closed_same x lasts other away =
      d.outside x (λ k p e. last_all a k (λ y. y ≡ x → ⊥) h cs other away (sym (e ∙ lasts.at k p)))
