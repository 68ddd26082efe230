-- Laws of the front of a list: its records before the first with link i and the rest, and how its stretch at a link is chained up to the record that follows.
-- The first record of a list xs ++ ys with a link is the first of xs, or the first of ys where xs has none.
use Rattle.std.proofs.Common.{◌≡◌, ℕ, suc, ◌+◌, ◌<◌, ◌≤◌, cond, ltb, List, [], ◌∷◌, ◌++◌, length, sym, refl, ap, ◌∙◌, subst, append_assoc, append-nil, arith, length-append}
use Rattle.arena.specs.Arena.{level, forward}
use Rattle.arena.specs.Lazy.{next_with, last_with}
use Rattle.arena.specs.inside.Chain.{Has, All, Away, Chain, Linked}
use Rattle.arena.proofs.Cases.{lt_or_ge}
use Rattle.arena.proofs.ListLaws.{last_here, last_past, all_left, all_right, all_append, next_back}
use Rattle.arena.proofs.Frames.{next_here, next_past}
use Rattle.settling.specs.inside.Lift.{next_or, Stretch, Chained}
use Rattle.settling.proofs.SettleLaws.{Starts}

-- The front before its first record with link i, and from there on.
pub record Parts (a : List ℕ) (i : ℕ) (front : List ℕ) : Type 0 where
  pub low : List ℕ
  pub rest : List ℕ
  pub split : front ≡ low ++ rest
  pub lower : All (λ x. level a x ≤ i) low
  pub starts : Starts a i rest

pub parts : (a : List ℕ) (i : ℕ) (front : List ℕ) → Parts a i front
parts a i [] = record { low = []; rest = []; split = refl; lower = tt; starts = tt }
parts a i (r ∷ rs) =
    lt_or_ge i (level a r) (λ h. record { low = []; rest = r ∷ rs; split = refl; lower = tt; starts = h })
    (λ h.
    let p = parts a i rs in
    record { low = r ∷ p.low; rest = p.rest; split = ap (λ (l : List ℕ). r ∷ l) p.split; lower = (h, p.lower); starts = p.starts })

-- Where no record has more than n links, the whole front is before the first with link n.
unfoldable pub parts_whole : (a : List ℕ) (n : ℕ) (front : List ℕ) → All (λ x. level a x ≤ n) front → Parts a n front
parts_whole a n front low = record { low = front; rest = []; split = sym (append-nil front); lower = low; starts = tt }

pub starts_lower : (a : List ℕ) (i k : ℕ) (xs : List ℕ) → k ≤ i → Starts a i xs → Starts a k xs
starts_lower a i k [] h s = tt
starts_lower a i k (x ∷ xs) h s = omega arith

-- The next record with link k, of two lists.
module _ (a : List ℕ) (k : ℕ) where
  pub next_or_is : (xs ys : List ℕ) → next_with a k (xs ++ ys) ≡ next_or a k (next_with a k ys) xs
  unfolding next_with next_or
  next_or_is [] ys = refl
  next_or_is (x ∷ xs) ys = ap (λ (n : ℕ). cond (ltb k (level a x)) x n) (next_or_is xs ys)

  -- The next record is none that is not of the list.
  pub next_other : (r : ℕ) (ys : List ℕ) → 1 ≤ r → Away r ys → r ≡ next_with a k ys → ⊥
  unfolding next_with
  next_other r [] some away e = omega arith
  next_other r (y ∷ ys) some away e =
      lt_or_ge k (level a y) (λ h. away.0 (sym (e ∙ next_here a k y ys h)))
      (λ h. next_other r ys some away.1 (e ∙ next_past a k y ys h))

  -- The arena has the last record with link k, of the head h and xs.
  pub last_has : (h : ℕ) (xs ys : List ℕ) → Has a h → Chain a (xs ++ ys) → Has a (last_with a k h xs)
  unfolding last_with
  last_has h [] ys has c = has
  last_has h (x ∷ xs) ys has c =
      lt_or_ge k (level a x)
      (λ p. rw (last_here a k h x xs p) (last_has x xs ys c.0.has c.1))
      (λ p. rw (last_past a k h x xs p) (last_has h xs ys has c.1))

  -- The records xs, none of which has link k + 1, are a stretch up to the next record with link k.
  pub stretch_of : (xs ys : List ℕ) → Chain a (xs ++ ys) → All (λ x. level a x ≤ suc k) xs → Stretch a k (next_with a k ys) xs
  stretch_of [] ys c low = tt
  stretch_of (x ∷ xs) ys c low = (
    record {
      has = c.0.has;
      low = c.0.low;
      high = low.0;
      link = λ h. c.0.links.at k h ∙ next_or_is xs ys;
      not_stop = next_other x ys c.0.some (all_right (λ y. y ≡ x → ⊥) xs ys c.0.away);
      away = all_left (λ y. y ≡ x → ⊥) xs ys c.0.away;
    },
    stretch_of xs ys c.1 low.1,
  )

-- A list that starts with a record of link k has the same next record for every lower link.
next_lower : (a : List ℕ) (k j : ℕ) (xs ys : List ℕ) → j ≤ k → Starts a k xs → (xs ≡ [] → ⊥) → next_with a k (xs ++ ys) ≡ next_with a j (xs ++ ys)
next_lower a k j [] ys below starts some = absurd (some refl)
next_lower a k j (x ∷ xs) ys below starts some =
    next_here a k x (xs ++ ys) starts ∙ sym (next_here a j x (xs ++ ys) (omega arith))

-- The records before the first with link i are chained at link i - 1, from the head's forward up to the next record behind them.
module _ (a : List ℕ) (head k : ℕ) (small : k < 8) (front back : List ℕ) (l : Linked a head (front ++ back)) where
  module _ (low rest : List ℕ) (split : front ≡ low ++ rest) where
    whole : front ++ back ≡ low ++ (rest ++ back)
    whole = ap (λ (x : List ℕ). x ++ back) split ∙ append_assoc low rest back

    head_next : forward a head k ≡ next_with a k (low ++ (rest ++ back))
    head_next = l.links.at k (let t = l.top in omega arith) ∙ ap (next_with a k) whole

    pub chained_low : (first stop : ℕ) → All (λ x. level a x ≤ suc k) low → length (front ++ back) ≤ 512 → first ≡ forward a head k → stop ≡ next_with a k (rest ++ back) → Chained a k first stop low
    chained_low first stop low_levels few e f =
        record {
          first_is = e ∙ head_next ∙ next_or_is a k low (rest ++ back) ∙ ap (λ (s : ℕ). next_or a k s low) (sym f);
          stretch =
              subst (λ (s : ℕ). Stretch a k s low) (sym f)
              (stretch_of a k low (rest ++ back) (subst (Chain a) whole l.chain) low_levels);
          few = let long : length (front ++ back) ≡ length low + length (rest ++ back) = ap length whole ∙ length-append low (rest ++ back) in omega arith;
        }

    -- The first record with link k, where the front has one, is the next with any lower link from there on.
    pub next_low : (j : ℕ) → j ≤ k → All (λ x. level a x ≤ k) low → Starts a k rest → (All (λ x. level a x ≤ k) front → ⊥) → forward a head k ≡ next_with a j (rest ++ back)
    next_low j below low_levels starts some =
        head_next ∙ next_back a k low (rest ++ back) low_levels
        ∙ next_lower a k j rest back below starts
        (λ e.
        some (subst (All (λ x. level a x ≤ k)) (sym (split ∙ ap (λ (x : List ℕ). low ++ x) e)) (all_append (λ x. level a x ≤ k) low [] low_levels tt)))
