-- Laws of the next and the last record with a link and of the items held, in an arena that stays as it is, and of what holds of all records of two lists, one after the other.
-- Each goes by the records of the list in turn: a record has the link, and is then the last one so far, or has it not, and then changes nothing.
use Rattle.std.proofs.Common.{◌≡◌, ℕ, suc, ◌<◌, ◌≤◌, Bool, true, false, cond, ltb, List, [], ◌∷◌, ◌++◌, length, sym, refl, ap, ◌∙◌, subst, arith, le-ltb, lt-ltb}
use Rattle.arena.specs.Arena.{level, forward, adjust}
use Rattle.arena.specs.Lazy.{next_with, last_with, held}
use Rattle.arena.specs.inside.Chain.{All, Away, Chain, p_under, after, trues, leaving}
use Rattle.arena.proofs.Cases.{lt_or_ge}
use Rattle.arena.proofs.Frames.{all_map, all_refl, all_both, next_here, next_past}

module _ (a : List ℕ) (k : ℕ) where
  pub last_here : (h r : ℕ) (rs : List ℕ) → k < level a r → last_with a k h (r ∷ rs) ≡ last_with a k r rs
  unfolding last_with
  last_here h r rs e = ap (λ (x : ℕ). last_with a k x rs) (simp (lt-ltb k (level a r) e))

  pub last_past : (h r : ℕ) (rs : List ℕ) → level a r ≤ k → last_with a k h (r ∷ rs) ≡ last_with a k h rs
  unfolding last_with
  last_past h r rs e = ap (λ (x : ℕ). last_with a k x rs) (simp (le-ltb k (level a r) e))

  pub last_none : (h : ℕ) (rs : List ℕ) → All (λ x. level a x ≤ k) rs → last_with a k h rs ≡ h
  unfolding last_with
  last_none h [] n = refl
  last_none h (r ∷ rs) n = last_past h r rs n.0 ∙ last_none h rs n.1

  pub last_append : (h : ℕ) (xs ys : List ℕ) → last_with a k h (xs ++ ys) ≡ last_with a k (last_with a k h xs) ys
  unfolding last_with
  last_append h [] ys = refl
  last_append h (r ∷ xs) ys = last_append (cond (ltb k (level a r)) r h) xs ys

  -- The last record with the link, after one more record.
  pub last_more : (h : ℕ) (xs : List ℕ) (r : ℕ) → last_with a k h (xs ++ (r ∷ [])) ≡ cond (ltb k (level a r)) r (last_with a k h xs)
  unfolding last_with
  last_more h xs r = last_append h xs (r ∷ [])

  -- The next record with link k, in two lists one after the other.
  pub next_front : (xs ys : List ℕ) → 1 ≤ next_with a k xs → next_with a k (xs ++ ys) ≡ next_with a k xs
  unfolding next_with
  next_front [] ys h = absurd (omega arith)
  next_front (x ∷ xs) ys h =
      lt_or_ge k (level a x)
      (λ e. next_here a k x (xs ++ ys) e ∙ sym (next_here a k x xs e))
      (λ e.
      let more : 1 ≤ next_with a k xs = subst (λ (n : ℕ). 1 ≤ n) (next_past a k x xs e) h in
      next_past a k x (xs ++ ys) e ∙ next_front xs ys more ∙ sym (next_past a k x xs e))

  pub next_back : (xs ys : List ℕ) → All (λ x. level a x ≤ k) xs → next_with a k (xs ++ ys) ≡ next_with a k ys
  next_back [] ys low = refl
  next_back (x ∷ xs) ys low = next_past a k x (xs ++ ys) low.0 ∙ next_back xs ys low.1

  pub next_none : (rs : List ℕ) → All (λ x. level a x ≤ k) rs → next_with a k rs ≡ 0
  unfolding next_with
  next_none [] low = refl
  next_none (r ∷ rs) low = next_past a k r rs low.0 ∙ next_none rs low.1

  none_with : (rs : List ℕ) → All (λ r. 1 ≤ r) rs → next_with a k rs ≡ 0 → All (λ x. level a x ≤ k) rs
  none_with [] some e = tt
  none_with (r ∷ rs) some e =
      lt_or_ge k (level a r)
      (λ h. let here = next_here a k r rs h in let one = some.0 in absurd (omega arith))
      (λ h. (h, none_with rs some.1 (sym (next_past a k r rs h) ∙ e)))

  -- Either one of rs has link k, or none.
  pub some_or_none : {C : Type 0} (rs : List ℕ) → All (λ r. 1 ≤ r) rs → (1 ≤ next_with a k rs → C) → (All (λ x. level a x ≤ k) rs → C) → C
  some_or_none rs some one none =
      lt_or_ge 0 (next_with a k rs) (λ p. one (omega arith)) (λ p. none (none_with rs some (omega arith)))

  -- The last record with link k is h or one of rs, and one of rs where one of them has the link.
  pub last_all : (P : ℕ → Type 0) (h : ℕ) (rs : List ℕ) → P h → All P rs → P (last_with a k h rs)
  unfolding last_with
  last_all P h [] p q = p
  last_all P h (r ∷ rs) p q = last_all P (cond (ltb k (level a r)) r h) rs (either (ltb k (level a r))) q.1
    where
      either : (t : Bool) → P (cond t r h)
      either true = q.0
      either false = p

  pub last_inside : (P : ℕ → Type 0) (h : ℕ) (rs : List ℕ) → 1 ≤ next_with a k rs → All P rs → P (last_with a k h rs)
  unfolding next_with
  last_inside P h [] e q = absurd (omega arith)
  last_inside P h (r ∷ rs) e q =
      lt_or_ge k (level a r)
      (λ l. subst P (sym (last_here h r rs l)) (last_all P r rs q.0 q.1))
      (λ l.
      let more : 1 ≤ next_with a k rs = subst (λ (n : ℕ). 1 ≤ n) (next_past a k r rs l) e in
      subst P (sym (last_past h r rs l)) (last_inside P h rs more q.1))

  -- Where one of rs has the link, what stands before them does not matter.
  pub last_any : (g h : ℕ) (rs : List ℕ) → 1 ≤ next_with a k rs → last_with a k g rs ≡ last_with a k h rs
  unfolding next_with
  last_any g h [] e = absurd (omega arith)
  last_any g h (r ∷ rs) e =
      lt_or_ge k (level a r)
      (λ l. last_here g r rs l ∙ sym (last_here h r rs l))
      (λ l.
      let more : 1 ≤ next_with a k rs = subst (λ (n : ℕ). 1 ≤ n) (next_past a k r rs l) e in
      last_past g r rs l ∙ last_any g h rs more ∙ sym (last_past h r rs l))

  -- The forward k of the last record with link k of xs is the next one of ys.
  pub last_forward : (h : ℕ) (xs ys : List ℕ) → forward a h k ≡ next_with a k (xs ++ ys) → Chain a (xs ++ ys) → forward a (last_with a k h xs) k ≡ next_with a k ys
  unfolding last_with
  last_forward h [] ys link chain = link
  last_forward h (x ∷ xs) ys link chain =
      lt_or_ge k (level a x)
      (λ e.
      ap (λ (y : ℕ). forward a y k) (last_here h x xs e)
      ∙ last_forward x xs ys (chain.0.links.at k e) chain.1)
      (λ e.
      ap (λ (y : ℕ). forward a y k) (last_past h x xs e)
      ∙ last_forward h xs ys (link ∙ next_past a k x (xs ++ ys) e) chain.1)

  -- A record before rs that is none of them is not the last one with link k, where one of rs has it.
  pub not_last : (r : ℕ) (rs : List ℕ) → Away r rs → 1 ≤ next_with a k rs → r ≡ last_with a k r rs → ⊥
  not_last r rs away more e = last_inside (λ x. x ≡ r → ⊥) r rs more away (sym e)

  -- The sum of link k that leaves rs is the adjust of the last record with it.
  pub leaving_last : (acc : ℕ → ℕ) (h : ℕ) (rs : List ℕ) → acc k ≡ adjust a h k → leaving a acc rs k ≡ adjust a (last_with a k h rs) k
  unfolding leaving last_with after
  leaving_last acc h [] e = e
  leaving_last acc h (r ∷ rs) e = leaving_last (after a acc r) (cond (ltb k (level a r)) r h) rs (either (ltb k (level a r)))
    where
      either : (t : Bool) → cond t (adjust a r k) (acc k) ≡ adjust a (cond t r h) k
      either true = refl
      either false = e

-- True p of two lists, one after the other.
pub trues_append : (a : List ℕ) (f : ℕ → ℕ) (xs ys : List ℕ) → trues a f (xs ++ ys) ≡ trues a f xs ++ trues a (leaving a f xs) ys
unfolding trues leaving
trues_append a f [] ys = refl
trues_append a f (x ∷ xs) ys = ap (λ (l : List ℕ). p_under a f x ∷ l) (trues_append a (after a f x) xs ys)

-- An arena holds one item for each record.
pub held_length : (a : List ℕ) (h : ℕ) (before rs : List ℕ) → length (held a h before rs) ≡ length rs
unfolding held
held_length a h before [] = refl
held_length a h before (r ∷ rs) = ap suc (held_length a h (before ++ (r ∷ [])) rs)

-- The records before the next one with link k, and those after it.
pub record Jump (a : List ℕ) (k : ℕ) (rs : List ℕ) : Type 0 where
  pub before : List ℕ
  pub after : List ℕ
  pub split : rs ≡ before ++ (next_with a k rs ∷ after)
  pub lower : All (λ x. level a x ≤ k) before
  pub link : k < level a (next_with a k rs)

jump_here : (a : List ℕ) (k r : ℕ) (rs : List ℕ) → k < level a r → Jump a k (r ∷ rs)
jump_here a k r rs h =
    let here = next_here a k r rs h in
    record {
      before = [];
      after = rs;
      split = ap (λ (x : ℕ). x ∷ rs) (sym here);
      lower = tt;
      link = rw here h;
    }

jump_past : (a : List ℕ) (k r : ℕ) (rs : List ℕ) → level a r ≤ k → Jump a k rs → Jump a k (r ∷ rs)
jump_past a k r rs h j =
    let past = next_past a k r rs h in
    record {
      before = r ∷ j.before;
      after = j.after;
      split = ap (λ (l : List ℕ). r ∷ l) j.split ∙ ap (λ (x : ℕ). r ∷ (j.before ++ (x ∷ j.after))) (sym past);
      lower = (h, j.lower);
      link = rw past j.link;
    }

-- Where there is a next record with link k, it parts the list so.
pub jump : (a : List ℕ) (k : ℕ) (rs : List ℕ) → 1 ≤ next_with a k rs → Jump a k rs
unfolding next_with
jump a k [] h = absurd (omega arith)
jump a k (r ∷ rs) h =
    lt_or_ge k (level a r) (λ e. jump_here a k r rs e)
    (λ e. jump_past a k r rs e (jump a k rs (subst (λ (n : ℕ). 1 ≤ n) (next_past a k r rs e) h)))

pub all_left : (P : ℕ → Type 0) (xs ys : List ℕ) → All P (xs ++ ys) → All P xs
all_left P [] ys h = tt
all_left P (x ∷ xs) ys h = (h.0, all_left P xs ys h.1)

pub all_right : (P : ℕ → Type 0) (xs ys : List ℕ) → All P (xs ++ ys) → All P ys
all_right P [] ys h = h
all_right P (x ∷ xs) ys h = all_right P xs ys h.1

pub all_append : (P : ℕ → Type 0) (xs ys : List ℕ) → All P xs → All P ys → All P (xs ++ ys)
all_append P [] ys p q = q
all_append P (x ∷ xs) ys p q = (p.0, all_append P xs ys p.1 q)

pub chain_right : (a xs ys : List ℕ) → Chain a (xs ++ ys) → Chain a ys
chain_right a [] ys h = h
chain_right a (x ∷ xs) ys h = chain_right a xs ys h.1

-- Two lists without a common record, seen from the other one.
pub apart_swap : (xs ys : List ℕ) → All (λ x. Away x ys) xs → All (λ y. Away y xs) ys
apart_swap xs [] p = tt
apart_swap xs (y ∷ ys) p =
    (all_map xs (λ x q e. q.0 (sym e)) p, apart_swap xs ys (all_map xs (λ x q. q.1) p))

-- The records ys behind xs are none of xs.
pub apart_from : (a : List ℕ) (xs ys : List ℕ) → Chain a (xs ++ ys) → All (λ y. Away y xs) ys
apart_from a [] ys c = all_refl ys (λ y. tt)
apart_from a (x ∷ xs) ys c =
    all_both ys (λ y p q. (λ e. p (sym e), q)) (all_right (λ y. y ≡ x → ⊥) xs ys c.0.away) (apart_from a xs ys c.1)
