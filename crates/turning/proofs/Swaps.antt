-- What the words are after m and p of a record change places and the record is put before a list that is being built.
-- The two stores reach m and p of that record alone, and what putting its links before the list does is known.
use Rattle.std.proofs.Common.{◌≡◌, ℕ, ◌+◌, ◌%◌, ◌^◌, ◌<◌, List, ◌∷◌, length, sym, refl, ap, ◌∙◌, subst, ap₂, arith}
use Rattle.arena.specs.Arena.{stride, word, level, m_word, p_word, level_at, m_at, p_at, forward_at, adjust_at}
use Rattle.arena.specs.inside.Chain.{Has, put, All, p_under, after, trues, Same}
use Rattle.arena.specs.inside.Built.{Built}
use Rattle.building.specs.inside.Building.{Hooked, Fresh, Prepended}
use Rattle.arena.specs.inside.Sums.{Suffixes, TrueP, Renewed}
use Rattle.turning.specs.inside.Turning.{swapped, TakenOver, Turnable1}
use Rattle.arena.proofs.PutLaws.{length_put, word_same, word_other_record, word_other_field, put_swap, same_trans}
use Rattle.arena.proofs.Frames.{all_map, same_value, built_frame, under_frame, trues_frame}
use Rattle.arena.proofs.Summing.{passed_kept}
use Rattle.building.proofs.HookLaws.{hooked_all}
use Rattle.building.proofs.PrependLaws.{prepended}

module _ (a : List ℕ) (f : ℕ → ℕ) (r : ℕ) where
  pub swapped_long : length (swapped a f r) ≡ length a
  unfolding swapped
  swapped_long = length_put _ r p_at (m_word a r) ∙ length_put a r m_at (p_under a f r)

  pub swapped_field : (x j : ℕ) → (j ≡ m_at → ⊥) → (j ≡ p_at → ⊥) → j < stride → word (swapped a f r) x j ≡ word a x j
  unfolding swapped
  swapped_field x j p q w =
      word_other_field _ r p_at _ x j q (omega arith) w ∙ word_other_field a r m_at _ x j p (omega arith) w

  pub swapped_outside : (x : ℕ) → (x ≡ r → ⊥) → Same a (swapped a f r) x
  unfolding swapped
  swapped_outside x p =
      record {
        at = λ j w. word_other_record _ r p_at _ x j p (omega arith) w ∙ word_other_record a r m_at _ x j p (omega arith) w;
      }

  module _ (has : Has a r) where
    pub swapped_m : m_word (swapped a f r) r ≡ p_under a f r
    unfolding swapped
    swapped_m =
        word_other_field _ r p_at _ r m_at (λ e. omega arith) (omega arith) (omega arith)
        ∙ word_same a r m_at _ has (omega arith)

    pub swapped_p : p_word (swapped a f r) r ≡ m_word a r
    unfolding swapped
    swapped_p =
        let l = length_put a r m_at (p_under a f r) in
        word_same _ r p_at _ (omega arith) (omega arith)

-- What one turn leaves.
pub record Turned1 (a : List ℕ) (f : ℕ → ℕ) (h r : ℕ) (rs b : List ℕ) : Type 0 where
  pub long : length b ≡ length a
  pub outside : (x : ℕ) → (x ≡ h → ⊥) → (x ≡ r → ⊥) → Same a b x
  pub level_kept : level b r ≡ level a r
  pub m_is : m_word b r ≡ p_under a f r
  pub p_is : p_word b r ≡ m_word a r
  pub built : Built b h (r ∷ rs)
  pub true_ps : trues b (λ k. 0) (r ∷ rs) ≡ (m_word a r % 2 ^ 32) ∷ trues a (λ k. 0) rs

module _ (a : List ℕ) (f : ℕ → ℕ) (h r : ℕ) (rs : List ℕ) (built : Built a h rs) (fresh : Fresh a h r rs) where
  s : List ℕ
  s = swapped a f r

  others_same : All (Same a s) rs
  unfolding s
  others_same = all_map rs (λ x (p : x ≡ r → ⊥). swapped_outside a f r x p) fresh.away

  head_same : Same a s h
  unfolding s
  head_same = swapped_outside a f r h (λ e. fresh.apart (sym e))

  built_swapped : Built s h rs
  unfolding s
  built_swapped = built_frame a s h rs (swapped_long a f r) head_same others_same built

  fresh_swapped : Fresh s h r rs
  unfolding s
  fresh_swapped =
      let l = swapped_field a f r r level_at (λ e. omega arith) (λ e. omega arith) (omega arith) in
      let long = swapped_long a f r in
      let has = fresh.has in
      let low = fresh.low in
      let high = fresh.high in
      record {
        some = fresh.some;
        has = omega arith;
        low = omega arith;
        high = omega arith;
        apart = fresh.apart;
        away = fresh.away;
      }

  turned_one : (b : List ℕ) → Hooked 0 (level a r) (swapped a f r) h r b → Turned1 a f h r rs b
  unfolding s
  turned_one b hooks =
      let l : level s r ≡ level a r = swapped_field a f r r level_at (λ e. omega arith) (λ e. omega arith) (omega arith) in
      let p : Prepended s h r rs b = prepended s h r rs b built_swapped fresh_swapped (subst (λ (n : ℕ). Hooked 0 n s h r b) (sym l) hooks) in
      let has = fresh.has in
      record {
        long = p.long ∙ swapped_long a f r;
        outside = λ x v w. same_trans a s b x (swapped_outside a f r x w) (p.outside x v w);
        level_kept = p.low r level_at (omega arith) ∙ l;
        m_is = p.low r m_at (omega arith) ∙ swapped_m a f r has;
        p_is = p.low r p_at (omega arith) ∙ swapped_p a f r has;
        built = p.built;
        true_ps =
            p.true_ps
            ∙ ap₂ (λ (n : ℕ) (ps : List ℕ). (n % 2 ^ 32) ∷ ps) (swapped_p a f r has)
            (trues_frame a s (λ k. 0) (λ k. 0) rs (λ k w. refl) (all_map rs (same_value a s) others_same));
      }

-- The head's first forward may be stored before the record is swapped or after.
swapped_beside : (a : List ℕ) (f : ℕ → ℕ) (r h v : ℕ) → put (swapped a f r) h forward_at v ≡ swapped (put a h forward_at v) f r
unfolding swapped
swapped_beside a f r h v =
    put_swap (put a r m_at (p_under a f r)) r p_at (m_word a r) h forward_at v (λ e. omega arith) (omega arith) (omega arith)
    ∙ ap (λ (l : List ℕ). put l r p_at (m_word a r)) (put_swap a r m_at (p_under a f r) h forward_at v (λ e. omega arith) (omega arith) (omega arith))
    ∙ ap₂ (λ (p : ℕ) (m : ℕ). put (put (put a h forward_at v) r m_at p) r p_at m)
    (sym (under_frame a (put a h forward_at v) f f (λ k few. refl) r (kept level_at (λ e. omega arith) (omega arith)) (kept p_at (λ e. omega arith) (omega arith))))
    (sym (kept m_at (λ e. omega arith) (omega arith)))
  where
    kept : (j : ℕ) → (j ≡ forward_at → ⊥) → j < stride → word (put a h forward_at v) r j ≡ word a r j
    kept j ne few = word_other_field a h forward_at v r j ne (omega arith) few

-- One turn, where the head's first forward stands beside the arena and is stored before and after.
pub turned_beside : (a : List ℕ) (f : ℕ → ℕ) (h r last : ℕ) (rs b : List ℕ) → Built (put a h forward_at last) h rs → Fresh (put a h forward_at last) h r rs → TakenOver a f h r last b → Turned1 (put a h forward_at last) f h r rs (put b h forward_at r)
turned_beside a f h r last rs b built fresh hooks =
    let long = length_put a h forward_at last in
    let s_long = swapped_long a f r in
    let l : level (put a h forward_at last) r ≡ level a r = word_other_field a h forward_at last r level_at (λ e. omega arith) (omega arith) (omega arith) in
    let head_has = built.linked.has in
    let has = fresh.has in
    let low = fresh.low in
    let high = fresh.high in
    let all = hooked_all (level a r) (swapped a f r) h r last b (omega arith) (omega arith) (omega arith) (omega arith) fresh.apart hooks in
    turned_one (put a h forward_at last) f h r rs built fresh (put b h forward_at r)
    (subst (λ (s : List ℕ). Hooked 0 (level (put a h forward_at last) r) s h r (put b h forward_at r)) (swapped_beside a f r h last)
    (subst (λ (n : ℕ). Hooked 0 n (put (swapped a f r) h forward_at last) h r (put b h forward_at r)) (sym l) all))

-- The code's three stores, of p, m and the record that follows.
module _ (a : List ℕ) (r p m last : ℕ) (b c d : List ℕ) (first : b ≡ put a r m_at p) (second : c ≡ put b r p_at m) (third : d ≡ put c r forward_at last) where
  stored_field : (j : ℕ) → (j ≡ m_at → ⊥) → (j ≡ p_at → ⊥) → (j ≡ forward_at → ⊥) → j < stride → word d r j ≡ word a r j
  stored_field j one two three few =
      ap (λ (l : List ℕ). word l r j) third ∙ word_other_field c r forward_at last r j three (omega arith) few
      ∙ ap (λ (l : List ℕ). word l r j) second ∙ word_other_field b r p_at m r j two (omega arith) few
      ∙ ap (λ (l : List ℕ). word l r j) first ∙ word_other_field a r m_at p r j one (omega arith) few

  stored_level : level d r ≡ level a r
  stored_level = stored_field level_at (λ e. omega arith) (λ e. omega arith) (λ e. omega arith) (omega arith)

  pub stored_can : (h : ℕ) (sums : List ℕ) → Turnable1 a h r sums → Turnable1 d h r sums
  stored_can h sums can =
      let l = stored_level in
      let long : length d ≡ length a = ap length third ∙ length_put c r forward_at last ∙ ap length second ∙ length_put b r p_at m ∙ ap length first ∙ length_put a r m_at p in
      let hook = can.hookable in
      let sum = can.summable in
      record {
        hookable = record { head_has = omega arith; has = omega arith; apart = hook.apart; fits = hook.fits };
        summable = record { has = omega arith; low = omega arith; high = omega arith; nine = sum.nine };
      }

  module _ (sums : List ℕ) (p_is : TrueP a r sums p) (m_is : m ≡ m_word a r) (f : ℕ → ℕ) (s : Suffixes f sums) where
    stored : d ≡ put (swapped a f r) r forward_at last
    unfolding swapped
    stored = let p_here = p_is f s in cc

    pub stored_hooked : (h : ℕ) (e : List ℕ) → Hooked 1 (level d r) d h r e → TakenOver a f h r last e
    stored_hooked h e hooks =
        subst (λ (l : List ℕ). Hooked 1 (level a r) l h r e) stored
        (subst (λ (n : ℕ). Hooked 1 n d h r e) stored_level hooks)

    pub stored_passed : (left : List ℕ) → Renewed d r sums left → Suffixes (after a f r) left
    stored_passed left passed =
        passed_kept a d f r left stored_level
        (λ k few. stored_field (adjust_at + k) (λ e. omega arith) (λ e. omega arith) (λ e. omega arith) (omega arith)) (passed f s)
