-- What the loop that raises a stretch keeps: if the records left are raised rightly from the arena as it is now, then the whole stretch was raised rightly from the first.
-- A turn raises one record with link k; those it passes have not the link, and all other records stay.
use Rattle.std.proofs.Common.{◌≡◌, ℕ, zero, suc, ◌+◌, ◌<◌, ◌≤◌, true, false, cond, eqb, ltb, List, [], ◌∷◌, ◌++◌, length, sym, refl, ap, ◌∙◌, subst, arith, length-append, le-ltb, lt-ltb, eq-eqb, ne_eqb}
use Rattle.arena.specs.Arena.{stride, word, level, forward, back_at}
use Rattle.arena.specs.inside.Chain.{Has, put, wrap, All, Away, Same, Shape}
use Rattle.arena.specs.inside.Backs.{BacksKept}
use Rattle.arena.proofs.Cases.{lt_or_ge}
use Rattle.arena.proofs.ListLaws.{all_right}
use Rattle.arena.proofs.PutLaws.{length_put, word_same, word_other_field, same_refl, same_put, same_trans}
use Rattle.arena.proofs.Frames.{all_map}
use Rattle.settling.specs.inside.Lift.{next_or, Within, Stretch, Lifted, Lifting, Chained}

next_here : (a : List ℕ) (k stop r : ℕ) (rs : List ℕ) → k < level a r → next_or a k stop (r ∷ rs) ≡ r
unfolding next_or
next_here a k stop r rs h = simp (lt-ltb k (level a r) h)

next_past : (a : List ℕ) (k stop r : ℕ) (rs : List ℕ) → level a r ≤ k → next_or a k stop (r ∷ rs) ≡ next_or a k stop rs
unfolding next_or
next_past a k stop r rs h = simp (le-ltb k (level a r) h)

next_frame : (a b : List ℕ) (k stop : ℕ) (rs : List ℕ) → ((x : ℕ) → Shape a b x) → next_or b k stop rs ≡ next_or a k stop rs
unfolding next_or
next_frame a b k stop [] s = refl
next_frame a b k stop (r ∷ rs) s =
    ap (λ (l : ℕ). cond (ltb k l) r (next_or b k stop rs)) (s r).level_kept
    ∙ ap (λ (n : ℕ). cond (ltb k (level a r)) r n) (next_frame a b k stop rs s)

stretch_frame : (a b : List ℕ) (k stop : ℕ) (rs : List ℕ) → k < 8 → length b ≡ length a → ((x : ℕ) → Shape a b x) → Stretch a k stop rs → Stretch b k stop rs
stretch_frame a b k stop [] small long s t = tt
stretch_frame a b k stop (r ∷ rs) small long s t =
    let same = (s r).level_kept in
    let has = t.0.has in
    let high = t.0.high in (
      record {
        has = omega arith;
        low = let low = t.0.low in omega arith;
        high = omega arith;
        link = λ h. (s r).forward_kept k small ∙ t.0.link (omega arith) ∙ sym (next_frame a b k stop rs s);
        not_stop = t.0.not_stop;
        away = t.0.away;
      },
      stretch_frame a b k stop rs small long s t.1,
    )

-- Where the next record is stop, none is left with link k.
none_left : (a : List ℕ) (k stop : ℕ) (rs : List ℕ) → Stretch a k stop rs → next_or a k stop rs ≡ stop → All (λ r. level a r ≤ k) rs
none_left a k stop [] s e = tt
none_left a k stop (r ∷ rs) s e =
    lt_or_ge k (level a r)
    (λ h. absurd (s.0.not_stop (sym (next_here a k stop r rs h) ∙ e)))
    (λ h. (h, none_left a k stop rs s.1 (sym (next_past a k stop r rs h) ∙ e)))

-- Else it parts the stretch.
record Parted (a : List ℕ) (k stop : ℕ) (rs : List ℕ) (r : ℕ) : Type 0 where
  before : List ℕ
  after : List ℕ
  split : rs ≡ before ++ (r ∷ after)
  lower : All (λ x. level a x ≤ k) before
  link : k < level a r

parted : (a : List ℕ) (k stop : ℕ) (rs : List ℕ) (r : ℕ) → r ≡ next_or a k stop rs → (r ≡ stop → ⊥) → Parted a k stop rs r
unfolding next_or
parted a k stop [] r e ne = absurd (ne e)
parted a k stop (x ∷ rs) r e ne =
    lt_or_ge k (level a x)
    (λ h.
    let here : r ≡ x = e ∙ next_here a k stop x rs h in
    record { before = []; after = rs; split = ap (λ (y : ℕ). y ∷ rs) (sym here); lower = tt; link = rw here h })
    (λ h.
    let p = parted a k stop rs r (e ∙ next_past a k stop x rs h) ne in
    record { before = x ∷ p.before; after = p.after; split = ap (λ (l : List ℕ). x ∷ l) p.split; lower = (h, p.lower); link = p.link })

stretch_right : (a : List ℕ) (k stop : ℕ) (xs ys : List ℕ) → Stretch a k stop (xs ++ ys) → Stretch a k stop ys
stretch_right a k stop [] ys s = s
stretch_right a k stop (x ∷ xs) ys s = stretch_right a k stop xs ys s.1

-- The arena b is a with one record raised: its p, and its adjust k where that counts.
pub record Raised (a b : List ℕ) (k v r : ℕ) : Type 0 where
  pub length_kept : length b ≡ length a
  pub shape : (x : ℕ) → Shape a b x
  pub backs_kept : BacksKept a b
  pub other : (x : ℕ) → (x ≡ r → ⊥) → Same a b x
  pub p_up : word b r 2 ≡ wrap (word a r 2) v
  pub adjust_up : 1 ≤ k → word b r (11 + k) ≡ wrap (word a r (11 + k)) v
  pub adjust_other : (j : ℕ) → j < 8 → (j ≡ k → ⊥) → word b r (11 + j) ≡ word a r (11 + j)

-- At link 0 the p alone is raised.
module _ (a : List ℕ) (v r : ℕ) (has : Has a r) where
  abbrev raised_p : List ℕ
  raised_p = put a r 2 (wrap (word a r 2) v)

  p_field : (x j : ℕ) → j < stride → (j ≡ 2 → ⊥) → word raised_p x j ≡ word a x j
  p_field x j few n = word_other_field a r 2 _ x j n (omega arith) few

  pub raised_low : Raised a raised_p 0 v r
  raised_low =
      record {
        length_kept = length_put a r 2 _;
        shape = λ x.
            record {
              level_kept = p_field x 0 (omega arith) (omega arith);
              m_kept = p_field x 1 (omega arith) (omega arith);
              forward_kept = λ j h. p_field x (3 + j) (omega arith) (omega arith);
            };
        backs_kept = λ x. p_field x back_at (omega arith) (omega arith);
        other = λ x e. same_put a r 2 _ x e (omega arith);
        p_up = word_same a r 2 _ has (omega arith);
        adjust_up = λ some. absurd (omega arith);
        adjust_other = λ j few ne. p_field r (11 + j) (omega arith) (omega arith);
      }

-- At another link the p and the adjust.
module _ (a : List ℕ) (k v r : ℕ) (small : k < 8) (has : Has a r) where
  abbrev raised_pair : List ℕ
  raised_pair = put (raised_p a v r has) r (11 + k) (wrap (word (raised_p a v r has) r (11 + k)) v)

  both_field : (x j : ℕ) → j < stride → (j ≡ 2 → ⊥) → (j ≡ 11 + k → ⊥) → word raised_pair x j ≡ word a x j
  both_field x j few n m =
      word_other_field (raised_p a v r has) r (11 + k) _ x j m (omega arith) few ∙ p_field a v r has x j few n

  pub raised_both : Raised a raised_pair k v r
  raised_both =
      let low = raised_low a v r has in
      let long = low.length_kept in
      record {
        length_kept = length_put (raised_p a v r has) r (11 + k) _ ∙ long;
        shape = λ x.
            record {
              level_kept = both_field x 0 (omega arith) (omega arith) (omega arith);
              m_kept = both_field x 1 (omega arith) (omega arith) (omega arith);
              forward_kept = λ j h. both_field x (3 + j) (omega arith) (omega arith) (omega arith);
            };
        backs_kept = λ x. both_field x back_at (omega arith) (omega arith) (omega arith);
        other = λ x e.
            same_trans a (raised_p a v r has) raised_pair x (low.other x e)
            (same_put (raised_p a v r has) r (11 + k) _ x e (omega arith));
        p_up = word_other_field (raised_p a v r has) r (11 + k) _ r 2 (omega arith) (omega arith) (omega arith) ∙ low.p_up;
        adjust_up = λ some.
            word_same (raised_p a v r has) r (11 + k) _ (omega arith) (omega arith)
            ∙ ap (λ (w : ℕ). wrap w v) (p_field a v r has r (11 + k) (omega arith) (omega arith));
        adjust_other = λ j few ne. both_field r (11 + j) (omega arith) (omega arith) (λ e. ne (omega arith));
      }

-- From the arena after the turn to the arena before it, for each kind of record of the stretch.
lifted_untouched : (a b : List ℕ) (k v x : ℕ) → level a x ≤ k → Same a b x → Lifted a b k v x
lifted_untouched a b k v x low s =
    record {
      p_up = λ h. absurd (omega arith);
      adjust_up = λ some h. absurd (omega arith);
      adjust_other = λ j few ne. s.at (11 + j) (omega arith);
      untouched = λ h. s;
    }

lifted_back : (a c b : List ℕ) (k v x : ℕ) → k < 8 → Same a c x → Lifted c b k v x → Lifted a b k v x
lifted_back a c b k v x small s l =
    let same = s.at 0 (omega arith) in
    record {
      p_up = λ h. l.p_up (omega arith) ∙ ap (λ (w : ℕ). wrap w v) (s.at 2 (omega arith));
      adjust_up = λ some h. l.adjust_up some (omega arith) ∙ ap (λ (w : ℕ). wrap w v) (s.at (11 + k) (omega arith));
      adjust_other = λ j few ne. l.adjust_other j few ne ∙ s.at (11 + j) (omega arith);
      untouched = λ h. same_trans a c b x s (l.untouched (omega arith));
    }

module _ (a t b : List ℕ) (k v stop r : ℕ) (small : k < 8) (u : Raised a t k v r) (link : k < level a r) (after : List ℕ) (l : Lifting t b k v after) where
  lifted_turned : Away r after → Lifted a b k v r
  lifted_turned away =
      let same = l.outside r away in
      record {
        p_up = λ h. same.at 2 (omega arith) ∙ u.p_up;
        adjust_up = λ some h. same.at (11 + k) (omega arith) ∙ u.adjust_up some;
        adjust_other = λ j few ne. same.at (11 + j) (omega arith) ∙ u.adjust_other j few ne;
        untouched = λ h. absurd (omega arith);
      }

  lifted_after : (rs : List ℕ) → Away r rs → All (Lifted t b k v) rs → All (Lifted a b k v) rs
  lifted_after [] away e = tt
  lifted_after (x ∷ rs) away e =
      (lifted_back a t b k v x small (u.other x away.0) e.0, lifted_after rs away.1 e.1)

  -- The records before r, which have not the link, and the rest.
  lifted_all : (before : List ℕ) → All (λ x. level a x ≤ k) before → Stretch a k stop (before ++ (r ∷ after)) → All (Lifted a b k v) (before ++ (r ∷ after))
  lifted_all [] low s = (lifted_turned s.0.away, lifted_after after s.0.away l.each)
  lifted_all (x ∷ before) low s =
      let far = all_right (λ y. y ≡ x → ⊥) before (r ∷ after) s.0.away in
      let other : x ≡ r → ⊥ = λ e. far.0 (sym e) in (
        lifted_untouched a b k v x low.0 (same_trans a t b x (u.other x other) (l.outside x far.1)),
        lifted_all before low.1 s.1,
      )

  lifting_turn : (before : List ℕ) → All (λ x. level a x ≤ k) before → Stretch a k stop (before ++ (r ∷ after)) → Lifting a b k v (before ++ (r ∷ after))
  lifting_turn before low s =
      record {
        length_kept = l.length_kept ∙ u.length_kept;
        shape = λ x.
            let s1 = u.shape x in
            let s2 = l.shape x in
            record {
              level_kept = s2.level_kept ∙ s1.level_kept;
              m_kept = s2.m_kept ∙ s1.m_kept;
              forward_kept = λ j h. s2.forward_kept j h ∙ s1.forward_kept j h;
            };
        backs_kept = λ x. l.backs_kept x ∙ u.backs_kept x;
        outside = λ x away.
            let far = all_right (λ y. y ≡ x → ⊥) before (r ∷ after) away in
            same_trans a t b x (u.other x (λ e. far.0 (sym e))) (l.outside x far.1);
        each = lifted_all before low s;
      }

-- Records that have not link k are raised as they stand.
pub lifted_none : (a : List ℕ) (k v : ℕ) (rs : List ℕ) → All (λ r. level a r ≤ k) rs → All (Lifted a a k v) rs
lifted_none a k v rs low = all_map rs (λ x h. lifted_untouched a a k v x h (same_refl a x)) low

lifting_none : (a : List ℕ) (k v : ℕ) (rs : List ℕ) → All (λ r. level a r ≤ k) rs → Lifting a a k v rs
lifting_none a k v rs low =
    record {
      length_kept = refl;
      shape = λ x. record { level_kept = refl; m_kept = refl; forward_kept = λ j h. refl };
      backs_kept = λ x. refl;
      outside = λ x away. same_refl a x;
      each = lifted_none a k v rs low;
    }

-- What is left of the stretch rs₀ at the record cur, and what follows once it is raised.
pub record Left (a₀ a : List ℕ) (k v stop cur : ℕ) (rs₀ : List ℕ) : Type 0 where
  pub post : List ℕ
  pub chained : Chained a k cur stop post
  pub rest : (b : List ℕ) → Lifting a b k v post → Lifting a₀ b k v rs₀

pub record Raising (a₀ a : List ℕ) (k v first stop cur : ℕ) : Type 0 where
  pub length_kept : length a ≡ length a₀
  pub left : (rs : List ℕ) → Chained a₀ k first stop rs → Left a₀ a k v stop cur rs

pub raising_start : (a : List ℕ) (k v first stop : ℕ) → Raising a a k v first stop first
raising_start a k v first stop =
    record { length_kept = refl; left = λ rs c. record { post = rs; chained = c; rest = λ b l. l } }

pub raising_done : (a₀ a : List ℕ) (k v first stop cur : ℕ) → Raising a₀ a k v first stop cur → cur ≡ stop → (rs : List ℕ) → Chained a₀ k first stop rs → Lifting a₀ a k v rs
raising_done a₀ a k v first stop cur g e rs c =
    let l = g.left rs c in
    l.rest a (lifting_none a k v l.post (none_left a k stop l.post l.chained.stretch (sym l.chained.first_is ∙ e)))

-- How many records with link k are left up to stop, at most n.
unfoldable pub count_to : ℕ → List ℕ → ℕ → ℕ → ℕ → ℕ
count_to zero a k stop cur = 0
count_to (suc n) a k stop cur = elim (eqb cur stop) [ true ↦ 0 | false ↦ suc (count_to n a k stop (forward a cur k)) ]

-- How many records of rs have link k.
abbrev how_many : List ℕ → ℕ → List ℕ → ℕ
how_many a k [] = 0
how_many a k (r ∷ rs) = cond (ltb k (level a r)) (suc (how_many a k rs)) (how_many a k rs)

many_here : (a : List ℕ) (k r : ℕ) (rs : List ℕ) → k < level a r → how_many a k (r ∷ rs) ≡ suc (how_many a k rs)
many_here a k r rs h = simp (lt-ltb k (level a r) h)

many_past : (a : List ℕ) (k r : ℕ) (rs : List ℕ) → level a r ≤ k → how_many a k (r ∷ rs) ≡ how_many a k rs
many_past a k r rs h = simp (le-ltb k (level a r) h)

many_few : (a : List ℕ) (k : ℕ) (rs : List ℕ) → how_many a k rs ≤ length rs
many_few a k [] = omega arith
many_few a k (r ∷ rs) =
    lt_or_ge k (level a r) (λ h. omega (arith, many_here a k r rs h, many_few a k rs)) (λ h. omega (arith, many_past a k r rs h, many_few a k rs))

count_stop : (n : ℕ) (a : List ℕ) (k stop : ℕ) → count_to n a k stop stop ≡ 0
unfolding count_to
count_stop zero a k stop = refl
count_stop (suc n) a k stop = let e : eqb stop stop ≡ true = eq-eqb stop stop refl in rw (e, count_to)

count_step : (n : ℕ) (a : List ℕ) (k stop r : ℕ) → (r ≡ stop → ⊥) → count_to (suc n) a k stop r ≡ suc (count_to n a k stop (forward a r k))
unfolding count_to
count_step n a k stop r h = let e : eqb r stop ≡ false = ne_eqb r stop h in rw (e, count_to)

count_is : (n : ℕ) (a : List ℕ) (k stop : ℕ) (rs : List ℕ) → Stretch a k stop rs → how_many a k rs ≤ n → count_to n a k stop (next_or a k stop rs) ≡ how_many a k rs
unfolding next_or
count_is n a k stop [] s few = count_stop n a k stop
count_is zero a k stop (r ∷ rs) s few =
    lt_or_ge k (level a r) (λ h. absurd (omega (arith, many_here a k r rs h)))
    (λ h. ap (count_to zero a k stop) (next_past a k stop r rs h) ∙ count_is zero a k stop rs s.1 (omega (arith, many_past a k r rs h)) ∙ sym (many_past a k r rs h))
count_is (suc n) a k stop (r ∷ rs) s few =
    lt_or_ge k (level a r)
    (λ h.
    ap (count_to (suc n) a k stop) (next_here a k stop r rs h) ∙ count_step n a k stop r s.0.not_stop
    ∙ ap (λ (x : ℕ). suc (count_to n a k stop x)) (s.0.link h)
    ∙ ap suc (count_is n a k stop rs s.1 (omega (arith, many_here a k r rs h)))
    ∙ sym (many_here a k r rs h))
    (λ h. ap (count_to (suc n) a k stop) (next_past a k stop r rs h) ∙ count_is (suc n) a k stop rs s.1 (omega (arith, many_past a k r rs h)) ∙ sym (many_past a k r rs h))

many_frame : (a b : List ℕ) (k : ℕ) (rs : List ℕ) → ((x : ℕ) → Shape a b x) → how_many b k rs ≡ how_many a k rs
many_frame a b k [] s = refl
many_frame a b k (r ∷ rs) s =
    ap (λ (l : ℕ). cond (ltb k l) (suc (how_many b k rs)) (how_many b k rs)) (s r).level_kept
    ∙ ap (λ (n : ℕ). cond (ltb k (level a r)) (suc n) n) (many_frame a b k rs s)

many_after : (a : List ℕ) (k r : ℕ) (xs ys : List ℕ) → k < level a r → how_many a k ys < how_many a k (xs ++ (r ∷ ys))
many_after a k r [] ys h = omega (arith, many_here a k r ys h)
many_after a k r (x ∷ xs) ys h =
    lt_or_ge k (level a x) (λ e. omega (arith, many_here a k x (xs ++ (r ∷ ys)) e, many_after a k r xs ys h))
    (λ e. omega (arith, many_past a k x (xs ++ (r ∷ ys)) e, many_after a k r xs ys h))

module _ (a₀ a : List ℕ) (k v first stop cur : ℕ) (small : k < 8) (g : Raising a₀ a k v first stop cur) (more : cur ≡ stop → ⊥) where
  module _ (rs : List ℕ) (c : Chained a₀ k first stop rs) where
    l : Left a₀ a k v stop cur rs
    l = g.left rs c

    p : Parted a k stop l.post cur
    p = parted a k stop l.post cur l.chained.first_is more

    whole : Stretch a k stop (p.before ++ (cur ∷ p.after))
    whole = subst (λ (x : List ℕ). Stretch a k stop x) p.split l.chained.stretch

    here : Within a k stop cur p.after
    here = (stretch_right a k stop p.before (cur ∷ p.after) whole).0

    pub raising_has : Has a cur
    raising_has = here.has

    shorter : length l.post ≡ length p.before + suc (length p.after)
    shorter = ap length p.split ∙ length-append p.before (cur ∷ p.after)

    -- A turn: the record is raised, and the next one is read.
    module _ (b : List ℕ) (nxt : ℕ) (u : Raised a b k v cur) (read : nxt ≡ word b cur (3 + k)) where
      next_is : nxt ≡ next_or b k stop p.after
      next_is =
          read ∙ (u.shape cur).forward_kept k small ∙ here.link p.link
          ∙ sym (next_frame a b k stop p.after u.shape)

      left_turned : Left a₀ b k v stop nxt rs
      left_turned =
          record {
            post = p.after;
            chained =
                record {
                  first_is = next_is;
                  stretch =
                      stretch_frame a b k stop p.after small u.length_kept u.shape
                      (stretch_right a k stop p.before (cur ∷ p.after) whole).1;
                  few = let f = l.chained.few in let s = shorter in omega arith;
                };
            rest = λ d e.
                l.rest d
                (subst (λ (x : List ℕ). Lifting a d k v x) (sym p.split)
                (lifting_turn a b d k v stop cur small u p.link p.after e p.before p.lower whole));
          }

  module _ (b : List ℕ) (nxt : ℕ) (u : Raised a b k v cur) (read : nxt ≡ word b cur (3 + k)) where
    pub raising_turn : Raising a₀ b k v first stop nxt
    raising_turn =
        record { length_kept = u.length_kept ∙ g.length_kept; left = λ rs c. left_turned rs c b nxt u read }

    pub raising_less : (rs : List ℕ) → Chained a₀ k first stop rs → count_to 512 b k stop nxt < count_to 512 a k stop cur
    unfolding p left_turned
    raising_less rs s =
        let x = l rs s in
        let q = p rs s in
        let few = x.chained.few in
        let cut = shorter rs s in
        let next = left_turned rs s b nxt u read in
        let was : count_to 512 a k stop cur ≡ how_many a k x.post = ap (count_to 512 a k stop) x.chained.first_is ∙ count_is 512 a k stop x.post x.chained.stretch (omega (arith, many_few a k x.post)) in
        let is : count_to 512 b k stop nxt ≡ how_many b k q.after = ap (count_to 512 b k stop) next.chained.first_is ∙ count_is 512 b k stop q.after next.chained.stretch (omega (arith, many_few b k q.after)) in
        let same = many_frame a b k q.after u.shape in
        let less : how_many a k q.after < how_many a k x.post = subst (λ (y : List ℕ). how_many a k q.after < how_many a k y) (sym q.split) (many_after a k cur q.before q.after q.link) in
        omega arith

  -- The turns as the code makes them.
  pub both_raised : (b c : List ℕ) → Has a cur → b ≡ put a cur 2 (wrap (word a cur 2) v) → c ≡ put b cur (11 + k) (wrap (word b cur (11 + k)) v) → Raised a c k v cur
  both_raised b c has first_store second_store =
      subst (λ (x : List ℕ). Raised a x k v cur)
      (sym (second_store ∙ ap (λ (x : List ℕ). put x cur (11 + k) (wrap (word x cur (11 + k)) v)) first_store))
      (raised_both a k v cur small has)

pub p_raised : (a : List ℕ) (v cur : ℕ) (b : List ℕ) → Has a cur → b ≡ put a cur 2 (wrap (word a cur 2) v) → Raised a b 0 v cur
p_raised a v cur b has store = subst (λ (x : List ℕ). Raised a x 0 v cur) (sym store) (raised_low a v cur has)
