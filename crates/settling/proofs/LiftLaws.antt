-- Raising a record at link k raises its true p, where the sum of link k that enters it is raised as well, and hands that sum on raised.
-- A record with link k has nothing of that sum in its own true p and hands its own adjust on, and one without it has the sum once.
use Rattle.std.proofs.Common.{◌≡◌, ℕ, zero, suc, ◌+◌, ◌%◌, ◌^◌, ◌<◌, ◌≤◌, true, cond, leb, List, sym, ap, ◌∙◌, subst, arith, le-leb}
use Rattle.arena.specs.Arena.{level, p_word, adjust}
use Rattle.arena.specs.Lazy.{sum_from}
use Rattle.arena.specs.inside.Chain.{wrap, p_under, after}
use Rattle.arena.proofs.Cases.{lt_or_ge, last_or_below}
use Rattle.arena.proofs.SumLaws.{sum_agree, sum_frame}
use Rattle.arena.proofs.Frames.{after_in, after_out}
use Rattle.settling.specs.inside.Lift.{Lifted}

-- g is f, but raised by v at k. Link 0 counts for no record, and nothing is said of it.
pub record Bumped (k v : ℕ) (f g : ℕ → ℕ) : Type 0 where
  pub at : 1 ≤ k → g k % 2 ^ 32 ≡ (f k + v) % 2 ^ 32
  pub other : (j : ℕ) → j < 8 → (j ≡ k → ⊥) → g j ≡ f j

two_sums : (x y s t v : ℕ) → x ≡ s → y % 2 ^ 32 ≡ (t + v) % 2 ^ 32 → (x + y) % 2 ^ 32 ≡ (s + t + v) % 2 ^ 32
two_sums x y s t v e f = omega arith

one_more : (x y s c v : ℕ) → x % 2 ^ 32 ≡ (s + v) % 2 ^ 32 → y ≡ c → (x + y) % 2 ^ 32 ≡ (s + c + v) % 2 ^ 32
one_more x y s c v e f = omega arith

-- The sum over the links from l on, with k among them.
sum_bumped : (f g : ℕ → ℕ) (k v l n : ℕ) → n ≤ 8 → 1 ≤ k → l ≤ k → k < n → Bumped k v f g → sum_from g l n % 2 ^ 32 ≡ (sum_from f l n + v) % 2 ^ 32
unfolding sum_from
sum_bumped f g k v l zero few some low high b = absurd (omega arith)
sum_bumped f g k v l (suc n) few some low high b =
    last_or_below k n high
    (λ e.
    let here : leb l n ≡ true = le-leb l n (omega arith) in
    let raised : g n % 2 ^ 32 ≡ (f n + v) % 2 ^ 32 = subst (λ (i : ℕ). g i % 2 ^ 32 ≡ (f i + v) % 2 ^ 32) e (b.at some) in
    simp here (two_sums (sum_from g l n) (g n) (sum_from f l n) (f n) v (sum_frame f g l n (λ j low. b.other j (omega arith) (omega arith))) raised))
    (λ p.
    one_more (sum_from g l n) (cond (leb l n) (g n) 0) (sum_from f l n) (cond (leb l n) (f n) 0) v
    (sum_bumped f g k v l n (omega arith) some low p b) (ap (λ (x : ℕ). cond (leb l n) x 0) (b.other n (omega arith) (omega arith))))

-- One record: its true p, and the sums after it.
raise_p : (p q s v : ℕ) → q ≡ (p + v) % 2 ^ 32 → (q + s) % 2 ^ 32 ≡ ((p + s) % 2 ^ 32 + v) % 2 ^ 32
raise_p p q s v e = omega arith

raise_sum : (p s t v : ℕ) → t % 2 ^ 32 ≡ (s + v) % 2 ^ 32 → (p + t) % 2 ^ 32 ≡ ((p + s) % 2 ^ 32 + v) % 2 ^ 32
raise_sum p s t v e = omega arith

module _ (a b : List ℕ) (k v : ℕ) (small : k < 8) (f g : ℕ → ℕ) (bump : Bumped k v f g) (r : ℕ) (same : level b r ≡ level a r) (l : Lifted a b k v r) where
  pub under_lifted : 1 ≤ level a r → level a r ≤ suc k → p_under b g r ≡ wrap (p_under a f r) v
  unfolding p_under wrap
  under_lifted low high =
      lt_or_ge k (level a r)
      (λ h.
      let up : p_word b r ≡ (p_word a r + v) % 2 ^ 32 = l.p_up h in
      let sums : sum_from g (level b r) 8 ≡ sum_from f (level a r) 8 = ap (λ (n : ℕ). sum_from g n 8) same ∙ sum_agree f g (level a r) 8 (λ j from high. bump.other j high (omega arith)) in
      ap (λ (s : ℕ). (p_word b r + s) % 2 ^ 32) sums ∙ raise_p (p_word a r) (p_word b r) (sum_from f (level a r) 8) v up)
      (λ h.
      let kept : p_word b r ≡ p_word a r = (l.untouched h).at 2 (omega arith) in
      let sums : sum_from g (level b r) 8 % 2 ^ 32 ≡ (sum_from f (level a r) 8 + v) % 2 ^ 32 = ap (λ (n : ℕ). sum_from g n 8 % 2 ^ 32) same ∙ sum_bumped f g k v (level a r) 8 (omega arith) (omega arith) h small bump in
      ap (λ (p : ℕ). (p + sum_from g (level b r) 8) % 2 ^ 32) kept ∙ raise_sum (p_word a r) (sum_from f (level a r) 8) (sum_from g (level b r) 8) v sums)

  raised_here : k < level a r → adjust b r k ≡ wrap (adjust a r k) v → after b g r k % 2 ^ 32 ≡ (after a f r k + v) % 2 ^ 32
  unfolding wrap
  raised_here h e =
      let now_is = after_in b g r k (omega arith) in
      let was = after_in a f r k h in
      let up : adjust b r k ≡ (adjust a r k + v) % 2 ^ 32 = e in
      omega arith

  pub after_lifted : Bumped k v (after a f r) (after b g r)
  after_lifted =
      record {
        at = λ some.
            lt_or_ge k (level a r)
            (λ h. raised_here h (l.adjust_up some h))
            (λ h. ap (λ (x : ℕ). x % 2 ^ 32) (after_out b g r k (omega arith)) ∙ bump.at some ∙ ap (λ (x : ℕ). (x + v) % 2 ^ 32) (sym (after_out a f r k h)));
        other = λ j few ne.
            lt_or_ge j (level a r)
            (λ h. after_in b g r j (omega arith) ∙ l.adjust_other j few ne ∙ sym (after_in a f r j h))
            (λ h. after_out b g r j (omega arith) ∙ bump.other j few ne ∙ sym (after_out a f r j h));
      }
