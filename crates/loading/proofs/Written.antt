-- What the words are after a record is filled and put before a list that is being built.
-- The three stores reach the level, m and p of that record alone, and what putting its links before the list does is known.
use mathlib.Core.Path.{◌≡◌, refl, sym, ap, ap₂, subst, ◌∙◌}
use mathlib.Core.List.{List, ◌∷◌}
use Prim.Native.Nat.{ℕ, ◌%◌, ◌^◌, ◌≤◌, ◌<◌}
use native.Mathlib.Omega.{arith}
use lib.ListN.{length}
use Rattle.arena.specs.Arena.{level, m_word, p_word, level_at, m_at, p_at, forward_at, back_at}
use Rattle.arena.specs.inside.Chain.{Has, put, All, Away, trues, Same}
use Rattle.arena.specs.inside.Built.{Built}
use Rattle.arena.specs.inside.Backs.{BacksKept}
use Rattle.building.specs.inside.Building.{Hooked, Fresh, Prepended}
use Rattle.loading.specs.inside.Loading.{written, Placed}
use Rattle.arena.proofs.PutLaws.{length_put, word_same, word_other_record, word_other_field, put_swap, same_trans}
use Rattle.arena.proofs.Frames.{all_map, same_value, built_frame, trues_frame}
use Rattle.building.proofs.HookLaws.{hooked_all}
use Rattle.building.proofs.PrependLaws.{prepended}

module _ (a : List ℕ) (r l m p : ℕ) where
  written_long : length (written a r l m p) ≡ length a
  unfolding written
  written_long = length_put _ r p_at p ∙ length_put _ r m_at m ∙ length_put a r level_at l

  written_outside : (x : ℕ) → (x ≡ r → ⊥) → Same a (written a r l m p) x
  unfolding written
  written_outside x q =
      record {
        at = λ j w. word_other_record _ r p_at p x j q (omega arith) w
            ∙ word_other_record _ r m_at m x j q (omega arith) w
            ∙ word_other_record a r level_at l x j q (omega arith) w;
      }

  written_backs : BacksKept a (written a r l m p)
  unfolding written
  written_backs x =
      word_other_field _ r p_at p x back_at (λ e. omega arith) (omega arith) (omega arith)
      ∙ word_other_field _ r m_at m x back_at (λ e. omega arith) (omega arith) (omega arith)
      ∙ word_other_field a r level_at l x back_at (λ e. omega arith) (omega arith) (omega arith)

  module _ (has : Has a r) where
    written_level : level (written a r l m p) r ≡ l
    unfolding written
    written_level =
        word_other_field _ r p_at p r level_at (λ e. omega arith) (omega arith) (omega arith)
        ∙ word_other_field _ r m_at m r level_at (λ e. omega arith) (omega arith) (omega arith)
        ∙ word_same a r level_at l has (omega arith)

    written_m : m_word (written a r l m p) r ≡ m
    unfolding written
    written_m =
        let long = length_put a r level_at l in
        word_other_field _ r p_at p r m_at (λ e. omega arith) (omega arith) (omega arith)
        ∙ word_same _ r m_at m (omega arith) (omega arith)

    written_p : p_word (written a r l m p) r ≡ p
    unfolding written
    written_p =
        let long = length_put a r level_at l in
        let long₂ = length_put (put a r level_at l) r m_at m in
        word_same _ r p_at p (omega arith) (omega arith)

-- The code's four stores, of the level, m, p and the record that follows.
module _ (a : List ℕ) (r l m p last : ℕ) (b c d e : List ℕ) (first : b ≡ put a r level_at l) (second : c ≡ put b r m_at m) (third : d ≡ put c r p_at p) (fourth : e ≡ put d r forward_at last) where
  stored : e ≡ put (written a r l m p) r forward_at last
  unfolding written
  stored = cc

  module _ (has : Has a r) where
    pub stored_level : level e r ≡ l
    stored_level =
        ap (λ (s : List ℕ). level s r) stored
        ∙ word_other_field (written a r l m p) r forward_at last r level_at (λ f. omega arith) (omega arith) (omega arith)
        ∙ written_level a r l m p has

    pub stored_loaded : (h : ℕ) (g : List ℕ) → Hooked 1 (level e r) e h r g → Placed a h r last l m p g
    stored_loaded h g hooks =
        subst (λ (s : List ℕ). Hooked 1 l s h r g) stored (subst (λ (n : ℕ). Hooked 1 n e h r g) stored_level hooks)

-- What one such record leaves.
pub record Loaded1 (a : List ℕ) (h r l m p : ℕ) (rs b : List ℕ) : Type 0 where
  pub long : length b ≡ length a
  pub outside : (x : ℕ) → (x ≡ h → ⊥) → (x ≡ r → ⊥) → Same a b x
  pub backs_kept : BacksKept a b
  pub level_is : level b r ≡ l
  pub m_is : m_word b r ≡ m
  pub built : Built b h (r ∷ rs)
  pub true_ps : trues b (λ k. 0) (r ∷ rs) ≡ p ∷ trues a (λ k. 0) rs

loaded_one : (a : List ℕ) (h r l m p : ℕ) (rs b : List ℕ) → Built a h rs → 1 ≤ r → Has a r → 1 ≤ l → l ≤ 8 → p < 4_294_967_296 → (r ≡ h → ⊥) → Away r rs → Hooked 0 l (written a r l m p) h r b → Loaded1 a h r l m p rs b
loaded_one a h r l m p rs b built some has low high small apart away hooks =
    let s = written a r l m p in
    let long = written_long a r l m p in
    let level_is : level s r ≡ l = written_level a r l m p has in
    let p_is = written_p a r l m p has in
    let others : All (Same a s) rs = all_map rs (written_outside a r l m p) away in
    let built_s : Built s h rs = built_frame a s h rs long (written_outside a r l m p h (λ f. apart (sym f))) others built in
    let fresh : Fresh s h r rs = record { some = some; has = omega arith; low = omega arith; high = omega arith; apart = apart; away = away } in
    let q : Prepended s h r rs b = prepended s h r rs b built_s fresh (subst (λ (n : ℕ). Hooked 0 n s h r b) (sym level_is) hooks) in
    let whole : p_word s r % 2 ^ 32 ≡ p = omega arith in
    record {
      long = q.long ∙ long;
      outside = λ x v w. same_trans a s b x (written_outside a r l m p x w) (q.outside x v w);
      backs_kept = λ x. hooks.backs_kept x ∙ written_backs a r l m p x;
      level_is = q.low r level_at (omega arith) ∙ level_is;
      m_is = q.low r m_at (omega arith) ∙ written_m a r l m p has;
      built = q.built;
      true_ps =
          q.true_ps
          ∙ ap₂ ◌∷◌ whole (trues_frame a s (λ k. 0) (λ k. 0) rs (λ k w. refl) (all_map rs (same_value a s) others));
    }

-- The head's first forward may be stored before the record is filled or after.
written_beside : (a : List ℕ) (r l m p h v : ℕ) → put (written a r l m p) h forward_at v ≡ written (put a h forward_at v) r l m p
unfolding written
written_beside a r l m p h v =
    put_swap (put (put a r level_at l) r m_at m) r p_at p h forward_at v (λ e. omega arith) (omega arith) (omega arith)
    ∙ ap (λ (s : List ℕ). put s r p_at p) (put_swap (put a r level_at l) r m_at m h forward_at v (λ e. omega arith) (omega arith) (omega arith))
    ∙ ap (λ (s : List ℕ). put (put s r m_at m) r p_at p) (put_swap a r level_at l h forward_at v (λ e. omega arith) (omega arith) (omega arith))

-- One such record, where the head's first forward stands beside the arena and is stored before and after.
pub loaded_beside : (a : List ℕ) (h r l m p last : ℕ) (rs b : List ℕ) → Built (put a h forward_at last) h rs → 1 ≤ r → Has a r → 1 ≤ l → l ≤ 8 → p < 4_294_967_296 → (r ≡ h → ⊥) → Away r rs → Placed a h r last l m p b → Loaded1 (put a h forward_at last) h r l m p rs (put b h forward_at r)
loaded_beside a h r l m p last rs b built some has low high small apart away hooks =
    let long = length_put a h forward_at last in
    let w_long = written_long a r l m p in
    let head_has = built.linked.has in
    loaded_one (put a h forward_at last) h r l m p rs (put b h forward_at r) built some (omega arith) low high small apart away
    (subst (λ (s : List ℕ). Hooked 0 l s h r (put b h forward_at r)) (written_beside a r l m p h last)
    (hooked_all l (written a r l m p) h r last b low high (omega arith) (omega arith) apart hooks))
