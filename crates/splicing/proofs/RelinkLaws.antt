-- After the words of the links of a front are rewired, the front stands at the end of the open list, and the rest is the list of its head.
-- A forward of the open list that was right stays, its last record with a link gets the first one of the front, and the head gets what follows the last one of the front.
use Rattle.std.proofs.Common.{◌≡◌, ℕ, ◌+◌, ◌-◌, ◌<◌, ◌≤◌, cond, ltb, List, [], ◌∷◌, ◌++◌, get_or, sym, ap, ◌∙◌, subst, arith}
use Rattle.arena.specs.Arena.{stride, word, level, forward, back_at}
use Rattle.arena.specs.Lazy.{next_with, last_with}
use Rattle.arena.specs.inside.Chain.{Has, All, Away, Chain, Linked, Same, Shape, Value, closed, growing, LinksOf, ChainOf}
use Rattle.arena.proofs.Cases.{lt_or_ge}
use Rattle.arena.proofs.ListLaws.{last_here, last_none, last_append, all_left, all_right, all_append, chain_right, next_front, next_back, next_none, some_or_none, last_all, last_inside, last_any, last_forward, not_last}
use Rattle.arena.proofs.Frames.{all_map, all_refl, all_both, next_here, next_frame, same_shape, chain_frame, last_frame, member_before, chain_some, chain_has}
use Rattle.splicing.specs.inside.Open.{OpenLinked, Relinkable, Relinked}
use Rattle.splicing.proofs.RelinkWords.{Rewired, Ready, Replaced}

-- None of rs is an end below n, where each end is away from rs.
no_end : (ends : List ℕ) (n : ℕ) (rs : List ℕ) → ((k : ℕ) → k < n → Away (get_or ends k 0) rs) → All (λ x. (k : ℕ) → k < n → x ≡ get_or ends k 0 → ⊥) rs
no_end ends n [] f = tt
no_end ends n (r ∷ rs) f = (λ k p. (f k p).0, no_end ends n rs (λ k p. (f k p).1))

module _ (a : List ℕ) (h hc : ℕ) (cs front back cut sums ends : List ℕ) (n : ℕ) (r : Relinkable a h hc cs front back cut sums ends n) where
  -- What holds of the head and of each record of the open list holds of its ends.
  pub end_all : (P : ℕ → Type 0) (k : ℕ) → k < n → P hc → All P cs → P (get_or ends k 0)
  end_all P k p head each =
      let q = r.high in
      subst P (sym (r.result_ends.at k (omega arith))) (last_all a k P hc cs head each)

  -- What holds of each record of the front holds of its last ones.
  cut_all : (P : ℕ → Type 0) (k : ℕ) → k < n → All P front → P (get_or cut k 0)
  cut_all P k p each = subst P (sym (r.cut_at k p)) (last_inside a k P h front (r.with_link k p) each)

  off_ends : All (λ x. (k : ℕ) → k < n → x ≡ get_or ends k 0 → ⊥) (front ++ back)
  off_ends =
      no_end ends n (front ++ back)
      (λ k p. end_all (λ x. Away x (front ++ back)) k p r.result_away r.apart)

  front_has : All (λ x. Has a x) front
  front_has = all_left (λ x. Has a x) front back (chain_has closed a (front ++ back) r.list.chain)

  -- The first record of the front is where the head's first forward leads.
  first_of : (fs : List ℕ) → Chain a (fs ++ back) → 1 ≤ next_with a 0 fs → Has a (next_with a 0 fs)
  unfolding next_with
  first_of [] c more = absurd (omega arith)
  first_of (x ∷ fs) c more = subst (λ (y : ℕ). Has a y) (sym (next_here a 0 x fs c.0.low)) c.0.has

  pub first_has : Has a (forward a h 0)
  first_has =
      let top = r.list.top in
      let some = r.some in
      let more = r.with_link 0 (omega arith) in
      subst (λ (y : ℕ). Has a y) (sym (r.list.links.at 0 (omega arith) ∙ next_front a 0 front back more)) (first_of front r.list.chain more)

  pub ready : Ready a h cut ends n
  ready =
      record {
        high = r.high;
        head = r.list.has;
        from = λ k p. end_all (λ x. Has a x) k p r.result.has (chain_has growing a cs r.result.chain);
        to = λ k p. cut_all (λ x. Has a x) k p front_has;
        from_not_head = λ k p. end_all (λ x. x ≡ h → ⊥) k p (λ e. r.heads (sym e)) r.head_away;
        to_not_from = λ k p.
            cut_all (λ x. (i : ℕ) → i < n → x ≡ get_or ends i 0 → ⊥) k p
            (all_left (λ x. (i : ℕ) → i < n → x ≡ get_or ends i 0 → ⊥) front back off_ends) k p;
        to_not_head = λ k p. cut_all (λ x. x ≡ h → ⊥) k p (all_left (λ x. x ≡ h → ⊥) front back r.list.away);
      }

  module _ (b : List ℕ) (w : Rewired a b h cut sums ends 0 n) where
    level_kept : (x : ℕ) → level b x ≡ level a x
    level_kept x = w.plain x 0 (omega arith)

    next_kept : (k : ℕ) (rs : List ℕ) → next_with b k rs ≡ next_with a k rs
    next_kept k rs = next_frame a b k rs (all_refl rs level_kept)

    last_kept : (k x : ℕ) (rs : List ℕ) → last_with b k x rs ≡ last_with a k x rs
    last_kept k x rs = last_frame a b k x rs (all_refl rs level_kept)

    has_kept : (x : ℕ) → Has a x → Has b x
    has_kept x has = let l = w.length_kept in omega arith

    forward_kept : (x k : ℕ) → k < 8 → (x ≡ h → ⊥) → (k < n → x ≡ get_or ends k 0 → ⊥) → forward b x k ≡ forward a x k
    forward_kept x k few ne other =
        lt_or_ge k n (λ p. w.forward_other x k (omega arith) p ne (other p)) (λ p. w.forward_above x k p few)

    words_kept : (x j : ℕ) → j < stride → (x ≡ h → ⊥) → ((k : ℕ) → k < n → x ≡ get_or ends k 0 → ⊥) → word b x j ≡ word a x j
    words_kept x j few ne other =
        lt_or_ge j 3 (λ p. w.plain x j p)
        (λ p.
        lt_or_ge j 11
        (λ q.
        let e : 3 + (j - 3) ≡ j = omega arith in
        subst (λ (i : ℕ). word b x i ≡ word a x i) e (forward_kept x (j - 3) (omega arith) ne (other (j - 3))))
        (λ q.
        lt_or_ge j back_at
        (λ u.
        let e : 11 + (j - 11) ≡ j = omega arith in
        subst (λ (i : ℕ). word b x i ≡ word a x i) e (w.adjust_other x (j - 11) (omega arith) ne))
        (λ u.
        let e : back_at ≡ j = omega arith in
        subst (λ (i : ℕ). word b x i ≡ word a x i) e (w.backs_kept x))))

    outside : (x : ℕ) → (x ≡ h → ⊥) → ((k : ℕ) → k < n → x ≡ get_or ends k 0 → ⊥) → Same a b x
    outside x ne other = record { at = λ j few. words_kept x j few ne other }

    -- Where a record of the front has link k, k is below n.
    link_below : (k : ℕ) → 1 ≤ next_with a k front → k < n
    link_below k more =
        lt_or_ge k n (λ p. p)
        (λ p.
        let none = next_none a k front (all_map front (λ x low. omega arith) r.lower) in
        absurd (omega arith))

    -- A record x of the open list, or its head, before the records xs of it.
    open_links : (x : ℕ) (xs : List ℕ) → level a x ≤ 8 → (x ≡ h → ⊥) → Away x xs → All (λ y. 1 ≤ y) xs → ((k : ℕ) → k < level a x → get_or ends k 0 ≡ last_with a k x xs) → LinksOf growing a x xs → LinksOf growing b x (xs ++ front)
    open_links x xs high ne away some lasts l =
        record {
          at = λ k p more.
              let same = level_kept x in
              let next = next_kept k (xs ++ front) in
              some_or_none a k xs some
              (λ one.
              forward_kept x k (omega arith) ne (λ q e. not_last a k x xs away one (e ∙ lasts k (omega arith)))
              ∙ l.at k (omega arith) one
              ∙ sym (next_front a k xs front one)
              ∙ sym next)
              (λ none.
              let tail = next_back a k xs front none in
              let first : 1 ≤ next_with a k front = omega arith in
              let top = r.list.top in
              let last : x ≡ get_or ends k 0 = sym (lasts k (omega arith) ∙ last_none a k x xs none) in
              ap (λ (y : ℕ). forward b y k) last ∙ w.from_done k (omega arith) (link_below k first)
              ∙ r.list.links.at k (omega arith)
              ∙ next_front a k front back first
              ∙ sym tail
              ∙ sym next);
        }

    -- The records of the front, and those of the open list before them.
    open_front : (xs : List ℕ) → Chain a (xs ++ back) → Away h xs → All (λ x. (k : ℕ) → k < n → x ≡ get_or ends k 0 → ⊥) xs → ChainOf growing b xs
    open_front [] c away off = tt
    open_front (x ∷ xs) c away off =
        let m = c.0 in
        let same = level_kept x in
        let high = m.high in (
          member_before a b x w.length_kept same m
              (record {
                at = λ k p more.
                    let next = next_kept k xs in
                    forward_kept x k (omega arith) away.0 (off.0 k) ∙ m.links.at k (omega arith)
                    ∙ next_front a k xs back (omega arith)
                    ∙ sym next;
              })
              (all_left (λ y. y ≡ x → ⊥) xs back m.away),
          open_front xs c.1 away.1 off.1,
        )

    open_chain : (xs : List ℕ) (y : ℕ → ℕ) → ((k : ℕ) → k < 8 → get_or ends k 0 ≡ last_with a k (y k) xs) → ChainOf growing a xs → Away h xs → All (λ x. Away x (front ++ back)) xs → ChainOf growing b (xs ++ front)
    unfolding last_with
    open_chain [] y lasts c away apart =
        open_front front r.list.chain (all_left (λ x. x ≡ h → ⊥) front back r.list.away)
        (all_left (λ x. (k : ℕ) → k < n → x ≡ get_or ends k 0 → ⊥) front back off_ends)
    open_chain (x ∷ xs) y lasts c away apart =
        let m = c.0 in
        let high = m.high in (
          member_before a b x w.length_kept (level_kept x) m
              (open_links x xs high away.0 m.away (chain_some growing a xs c.1)
              (λ k p. lasts k (omega arith) ∙ last_here a k (y k) x xs p) m.links)
              (all_append (λ z. z ≡ x → ⊥) xs front m.away (all_left (λ z. z ≡ x → ⊥) front back apart.0)),
          open_chain xs (λ k. cond (ltb k (level a x)) x (y k)) lasts c.1 away.1 apart.1,
        )

    result : OpenLinked b hc (cs ++ front)
    result =
        let top = r.result.top in
        record {
          has = has_kept hc r.result.has;
          top = level_kept hc ∙ top;
          links =
              open_links hc cs (omega arith) (λ e. r.heads (sym e)) r.result.away
              (chain_some growing a cs r.result.chain) (λ k p. r.result_ends.at k (omega arith)) r.result.links;
          away =
              all_append (λ x. x ≡ hc → ⊥) cs front r.result.away
              (all_left (λ x. x ≡ hc → ⊥) front back r.result_away);
          chain = open_chain cs (λ k. hc) r.result_ends.at r.result.chain r.head_away r.apart;
        }

    -- The head of the rest.
    rest_links : (k : ℕ) → k < 8 → forward b h k ≡ next_with a k back
    rest_links k few =
        let top = r.list.top in
        let link = r.list.links.at k (omega arith) in
        lt_or_ge k n
        (λ p.
        w.head_done k (omega arith) p ∙ ap (λ (x : ℕ). forward a x k) (r.cut_at k p)
        ∙ last_forward a k h front back link r.list.chain)
        (λ p.
        w.forward_above h k p few ∙ link
        ∙ next_back a k front back (all_map front (λ x low. omega arith) r.lower))

    rest_shape : (rs : List ℕ) → Away h rs → All (λ x. (k : ℕ) → k < n → x ≡ get_or ends k 0 → ⊥) rs → All (Shape a b) rs
    rest_shape rs away off = all_both rs (λ x ne other. same_shape a b x (outside x ne other)) away off

    list : Linked b h back
    list =
        let top = r.list.top in
        let same = level_kept h in
        let away = all_right (λ x. x ≡ h → ⊥) front back r.list.away in
        record {
          has = has_kept h r.list.has;
          top = same ∙ top;
          links = record { at = λ k p. rest_links k (omega arith) ∙ sym (next_kept k back) };
          away = away;
          chain =
              chain_frame a b back w.length_kept
              (rest_shape back away (all_right (λ x. (k : ℕ) → k < n → x ≡ get_or ends k 0 → ⊥) front back off_ends))
              (chain_right a front back r.list.chain);
        }

    module _ (ends' : List ℕ) (s : Replaced cut ends ends' 0 n) where
      -- The new ends: those of the front below n, and from n on those that were.
      end_at : (k : ℕ) → k < 8 → get_or ends' k 0 ≡ last_with a k hc (cs ++ front)
      end_at k few =
          lt_or_ge k n
          (λ p.
          s.done k (omega arith) p ∙ r.cut_at k p ∙ last_any a k h (last_with a k hc cs) front (r.with_link k p)
          ∙ sym (last_append a k hc cs front))
          (λ p.
          s.above k p ∙ r.result_ends.at k few
          ∙ sym (last_none a k (last_with a k hc cs) front (all_map front (λ x low. omega arith) r.lower))
          ∙ sym (last_append a k hc cs front))

      pub relinked : Relinked a b h hc cs front back cut sums ends ends' n
      relinked =
          record {
            length_kept = w.length_kept;
            list = list;
            result = result;
            result_ends =
                record {
                  long = let l = s.length_kept in let e = r.result_ends.long in omega arith;
                  at = λ k p. end_at k p ∙ sym (last_kept k hc (cs ++ front));
                };
            replaced = λ k p. s.done k (omega arith) p;
            level_kept = level_kept;
            m_kept = λ x. w.plain x 1 (omega arith);
            p_kept = λ x. w.plain x 2 (omega arith);
            backs_kept = w.backs_kept;
            adjust_kept = w.adjust_other;
            adjust_head = λ k p. w.adjust_done k (omega arith) p;
            adjust_above = w.adjust_above;
            outside = outside;
          }

-- What is left as it was: the values of every record but the head, and the records of other lists.
module _ (a b : List ℕ) (h hc : ℕ) (cs front back cut sums ends ends' : List ℕ) (n : ℕ) (r : Relinkable a h hc cs front back cut sums ends n) (d : Relinked a b h hc cs front back cut sums ends ends' n) where
  pub relinked_value : (x : ℕ) → (x ≡ h → ⊥) → Value a b x
  relinked_value x ne =
      record {
        level_kept = d.level_kept x;
        p_kept = d.p_kept x;
        adjust_kept = λ k few. d.adjust_kept x k few ne;
      }

  pub relinked_same : (x : ℕ) → (h ≡ x → ⊥) → (hc ≡ x → ⊥) → Away x cs → Same a b x
  relinked_same x other head away =
      d.outside x (λ e. other (sym e))
      (λ k p e. end_all a h hc cs front back cut sums ends n r (λ y. y ≡ x → ⊥) k p head away (sym e))
