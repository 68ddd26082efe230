-- Suffix sums of running sums: they give true p by one sum, they start at 0, and what the loops keep that enter and renew them.
-- A record's adjusts count below its level alone, and the sum from one link lower is one link more.
use Rattle.std.proofs.Common.{◌≡◌, ℕ, zero, suc, ◌+◌, ◌-◌, ◌%◌, ◌^◌, ◌<◌, ◌≤◌, List, length, get_or, set, replicate, sym, refl, ap, ◌∙◌, subst, ap₂, arith, length-set, get_or-set_other, get_or-set_same, le-ltb, lt-ltb}
use native.Mathlib.Nat.{mod-add-mod, add-mod-mod}
use Rattle.arena.specs.Arena.{word, level, p_word, adjust}
use Rattle.arena.specs.Lazy.{sum_from}
use Rattle.arena.specs.inside.Chain.{p_under, after}
use Rattle.arena.specs.inside.Sums.{Summable, Enterable, Suffixes, TrueP, renewed, RenewedBelow, Renewed}
use Rattle.arena.proofs.Cases.{lt_or_ge, eq_or_ne}
use Rattle.arena.proofs.SumLaws.{sum_none, sum_first, sum_agree, sum_zero}
use Rattle.arena.proofs.Frames.{after_in, after_out}

-- The stored p and the sum from the level up are the true p.
pub suffix_p : (a : List ℕ) (r : ℕ) (sums : List ℕ) → Summable a r sums → (l v p s q : ℕ) → v ≡ word a r 0 → l ≡ v → p ≡ word a r 2 → s ≡ get_or sums l 0 → q ≡ (p + s) % 2 ^ 32 → TrueP a r sums q
unfolding p_under
suffix_p a r sums can l v p s q v_is l_is p_is s_is q_is f t =
    let low = can.low in
    let high = can.high in
    let here : s ≡ sum_from f (level a r) 8 % 2 ^ 32 = s_is ∙ ap (λ (n : ℕ). get_or sums n 0) (l_is ∙ v_is) ∙ t.at (level a r) low high in
    q_is ∙ ap₂ (λ (x : ℕ) (y : ℕ). (x + y) % 2 ^ 32) p_is here
    ∙ add-mod-mod (p_word a r) (sum_from f (level a r) 8) (2 ^ 32)

-- Where no link has a sum, the words are 0.
zeros_at : (n l : ℕ) → ◌≡◌ {A = ℕ} (get_or (replicate n 0) l 0) 0
zeros_at zero l = refl
zeros_at (suc n) zero = refl
zeros_at (suc n) (suc l) = zeros_at n l

pub suffixes_none : Suffixes (λ k. 0) (replicate 9 0)
suffixes_none =
    record { nine = refl; at = λ l low high. zeros_at 9 l ∙ sym (ap (λ (n : ℕ). n % 2 ^ 32) (sum_zero l 8)) }

-- The same words hold sums that agree from link 1 up.
pub suffixes_agree : (f g : ℕ → ℕ) (sums : List ℕ) → ((k : ℕ) → 1 ≤ k → k < 8 → g k ≡ f k) → Suffixes f sums → Suffixes g sums
suffixes_agree f g sums e t =
    record {
      nine = t.nine;
      at = λ l low high.
          t.at l low high
          ∙ ap (λ (n : ℕ). n % 2 ^ 32) (sym (sum_agree f g l 8 (λ k from inside. e k (omega arith) inside)));
    }

-- The sums that a record leaves are the same where its level and its adjusts are.
pub passed_kept : (a b : List ℕ) (f : ℕ → ℕ) (r : ℕ) (sums : List ℕ) → level b r ≡ level a r → ((k : ℕ) → k < 8 → adjust b r k ≡ adjust a r k) → Suffixes (after b f r) sums → Suffixes (after a f r) sums
passed_kept a b f r sums level_kept adjust_kept t =
    suffixes_agree (after b f r) (after a f r) sums
    (λ k some few.
    lt_or_ge k (level a r)
    (λ p. after_in a f r k p ∙ sym (adjust_kept k few) ∙ sym (after_in b f r k (omega arith)))
    (λ p. after_out a f r k p ∙ sym (after_out b f r k (omega arith))))
    t

-- The words from l up hold the sums f.
pub record HeldFrom (l : ℕ) (f : ℕ → ℕ) (sums : List ℕ) : Type 0 where
  pub at : (i : ℕ) → l ≤ i → 1 ≤ i → i ≤ 8 → get_or sums i 0 ≡ sum_from f i 8 % 2 ^ 32

-- A loop that counts down reads the word above the one that it sets, which is the last that it set.
pub word_above : (sums : List ℕ) (l : ℕ) → 1 < l → get_or sums (l - 1 + 1) 0 ≡ get_or sums l 0
word_above sums l less = let same : l - 1 + 1 ≡ l = omega arith in ap (λ (n : ℕ). get_or sums n 0) same

-- One word more: the sum from a link up is that link and the sum above it.
pub held_more : (l : ℕ) (f : ℕ → ℕ) (sums : List ℕ) → HeldFrom l f sums → 1 < l → l ≤ 8 → length sums ≡ 9 → (x v w : ℕ) → x ≡ get_or sums l 0 → v ≡ f (l - 1) → w ≡ (x + v) % 2 ^ 32 → HeldFrom (l - 1) f (set sums (l - 1) w)
held_more l f sums s less high nine x v w x_is v_is w_is =
    record {
      at =
          λ i from low end. eq_or_ne i (l - 1)
          (λ same.
          subst (λ (n : ℕ). get_or (set sums (l - 1) w) n 0 ≡ sum_from f n 8 % 2 ^ 32) (sym same)
          (get_or-set_same sums (l - 1) w 0 (omega arith) ∙ w_is
          ∙ ap (λ (n : ℕ). (n + v) % 2 ^ 32) (x_is ∙ s.at l (omega arith) (omega arith) high)
          ∙ mod-add-mod (sum_from f l 8) (2 ^ 32) v
          ∙ ap (λ (n : ℕ). n % 2 ^ 32) one_more))
          (λ other. get_or-set_other sums (l - 1) i w 0 (λ e. omega arith) ∙ s.at i (omega arith) low end);
    }
  where
    one_more : sum_from f l 8 + v ≡ sum_from f (l - 1) 8
    one_more =
        let same : suc (l - 1) ≡ l = omega arith in
        let first = sum_first f (l - 1) 8 (omega arith) in
        let rest : sum_from f (suc (l - 1)) 8 ≡ sum_from f l 8 = ap (λ (n : ℕ). sum_from f n 8) same in
        omega arith

-- The words from l up hold the sums of a head's adjusts.
pub record Entering (a : List ℕ) (h : ℕ) (sums : List ℕ) (l : ℕ) : Type 0 where
  pub high : l ≤ 8
  pub nine : length sums ≡ 9
  pub held : HeldFrom l (adjust a h) sums

pub entering_start : (a : List ℕ) (h : ℕ) (sums : List ℕ) → Enterable a h sums → Entering a h sums 8
entering_start a h sums can =
    record {
      high = omega arith;
      nine = can.nine;
      held =
          record {
            at =
                λ i from low end.
                let last : i ≡ 8 = omega arith in
                ap (λ (n : ℕ). get_or sums n 0) last ∙ can.none
                ∙ sym (ap (λ (n : ℕ). n % 2 ^ 32) (sum_none (adjust a h) i 8 from));
          };
    }

pub entering_more : (a : List ℕ) (h : ℕ) (sums : List ℕ) (l : ℕ) → Entering a h sums l → 1 < l → (x v w : ℕ) → x ≡ get_or sums l 0 → v ≡ word a h (11 + (l - 1)) → w ≡ (x + v) % 2 ^ 32 → Entering a h (set sums (l - 1) w) (l - 1)
entering_more a h sums l s less x v w x_is v_is w_is =
    let high = s.high in
    record {
      high = omega arith;
      nine = length-set sums (l - 1) w ∙ s.nine;
      held = held_more l (adjust a h) sums s.held less high s.nine x v w x_is v_is w_is;
    }

pub entering_done : (a : List ℕ) (h : ℕ) (sums : List ℕ) (l : ℕ) → Entering a h sums l → l ≤ 1 → Suffixes (adjust a h) sums
entering_done a h sums l s done =
    record { nine = s.nine; at = λ i low high. s.held.at i (omega arith) low high }

module _ (g : ℕ → ℕ) (n : ℕ) (f : ℕ → ℕ) (k : ℕ) where
  pub renewed_in : k < n → renewed g n f k ≡ g k
  unfolding renewed
  renewed_in h = simp (lt-ltb k n h)

  pub renewed_out : n ≤ k → renewed g n f k ≡ f k
  unfolding renewed
  renewed_out h = simp (le-ltb k n h)

-- Link 0 counts for no sum that is held, so that nothing is to be renewed below link 1.
pub renew_none : (g f : ℕ → ℕ) (sums : List ℕ) → Suffixes f sums → Suffixes (renewed g 1 f) sums
renew_none g f sums t = suffixes_agree f (renewed g 1 f) sums (λ k low high. renewed_out g 1 f k low) t

-- The words from l up hold the sums that are renewed below link n by the sums g.
pub record Renewing (g : ℕ → ℕ) (n : ℕ) (sums left : List ℕ) (l : ℕ) : Type 0 where
  pub high : l ≤ n
  pub nine : length left ≡ 9
  pub held : (f : ℕ → ℕ) → Suffixes f sums → HeldFrom l (renewed g n f) left

pub renewing_start : (g : ℕ → ℕ) (n : ℕ) (sums : List ℕ) (l : ℕ) → length sums ≡ 9 → l ≡ n → Renewing g n sums sums l
renewing_start g n sums l nine l_is =
    record {
      high = omega arith;
      nine = nine;
      held =
          λ f t. record {
            at =
                λ i from low high. t.at i low high
                ∙ ap (λ (x : ℕ). x % 2 ^ 32)
                (sym (sum_agree f (renewed g n f) i 8 (λ k past inside. renewed_out g n f k (omega arith))));
          };
    }

pub renewing_more : (g : ℕ → ℕ) (n : ℕ) (sums left : List ℕ) (l : ℕ) → n ≤ 8 → Renewing g n sums left l → 1 < l → (x v w : ℕ) → x ≡ get_or left l 0 → v ≡ g (l - 1) → w ≡ (x + v) % 2 ^ 32 → Renewing g n sums (set left (l - 1) w) (l - 1)
renewing_more g n sums left l top s less x v w x_is v_is w_is =
    let high = s.high in
    record {
      high = omega arith;
      nine = length-set left (l - 1) w ∙ s.nine;
      held = λ f t.
          held_more l (renewed g n f) left (s.held f t) less (omega arith) s.nine x v w x_is
          (v_is ∙ sym (renewed_in g n f (l - 1) (omega arith))) w_is;
    }

pub renewing_done : (g : ℕ → ℕ) (n : ℕ) (sums left : List ℕ) (l : ℕ) → Renewing g n sums left l → l ≤ 1 → RenewedBelow g n sums left
renewing_done g n sums left l s done f t =
    record { nine = s.nine; at = λ i low high. (s.held f t).at i (omega arith) low high }

-- The sums after record r are renewed by its adjusts below its level.
pub passing_done : (a : List ℕ) (r : ℕ) (sums left : List ℕ) (l : ℕ) → Renewing (adjust a r) (level a r) sums left l → l ≤ 1 → Renewed a r sums left
unfolding after renewed
passing_done a r sums left l s done = renewing_done (adjust a r) (level a r) sums left l s done
