-- What a store of one word leaves: the length, and every word of another record or another field.
-- Two places of records differ where the record or the field differs, since a field is below the stride.
use Rattle.std.proofs.Common.{◌≡◌, ℕ, ◌+◌, ◌*◌, ◌<◌, List, length, refl, ap, ◌∙◌, arith, length-set, get_or-set_other, get_or-set_same}
use lib.Seq.{set-get_or, set_comm}
use Rattle.arena.specs.Arena.{stride, word}
use Rattle.arena.specs.inside.Chain.{Has, put, Same}

module _ (a : List ℕ) (r j v : ℕ) where
  pub length_put : length (put a r j v) ≡ length a
  unfolding put
  length_put = length-set a (stride * r + j) v

  pub word_same : Has a r → j < stride → word (put a r j v) r j ≡ v
  unfolding put word
  word_same h p = get_or-set_same a (stride * r + j) v 0 (omega arith)

  pub word_other_record : (x i : ℕ) → (x ≡ r → ⊥) → j < stride → i < stride → word (put a r j v) x i ≡ word a x i
  unfolding put word
  word_other_record x i e p q =
      let other : stride * x + i ≡ stride * r + j → ⊥ = λ f. e (omega arith) in
      get_or-set_other a (stride * r + j) (stride * x + i) v 0 other

  -- Another field, of any record.
  pub word_other_field : (x i : ℕ) → (i ≡ j → ⊥) → j < stride → i < stride → word (put a r j v) x i ≡ word a x i
  unfolding put word
  word_other_field x i e p q =
      let other : stride * x + i ≡ stride * r + j → ⊥ = λ f. e (omega arith) in
      get_or-set_other a (stride * r + j) (stride * x + i) v 0 other

  -- Two stores in different fields, in either order.
  pub put_swap : (x i w : ℕ) → (j ≡ i → ⊥) → j < stride → i < stride → put (put a r j v) x i w ≡ put (put a x i w) r j v
  unfolding put
  put_swap x i w e p q =
      let other : stride * r + j ≡ stride * x + i → ⊥ = λ f. e (omega arith) in
      set_comm a (stride * r + j) (stride * x + i) v w other

  pub same_put : (x : ℕ) → (x ≡ r → ⊥) → j < stride → Same a (put a r j v) x
  same_put x e p = record { at = λ i q. word_other_record x i e p q }

-- A store of what a word was.
pub put_same : (a : List ℕ) (r j v : ℕ) → v ≡ word a r j → put a r j v ≡ a
unfolding put word
put_same a r j v e = ap (put a r j) e ∙ set-get_or a (stride * r + j) 0

pub same_refl : (a : List ℕ) (x : ℕ) → Same a a x
same_refl a x = record { at = λ j p. refl }

pub same_trans : (a b c : List ℕ) (x : ℕ) → Same a b x → Same b c x → Same a c x
same_trans a b c x s t = record { at = λ j p. t.at j p ∙ s.at j p }
