-- What copying a head leaves: the same words at the other record, and every other record as before.
-- Each turn of the loop copies one more word, and no store reaches another record.
use mathlib.Core.Path.{◌≡◌, refl, sym, subst, ◌∙◌}
use mathlib.Core.List.{List}
use Prim.Native.Nat.{ℕ, ◌+◌, ◌≤◌, ◌<◌}
use native.Mathlib.Omega.{arith}
use borrow.Author.Count.{below_more}
use lib.ListN.{length}
use Rattle.arena.specs.Arena.{stride, word}
use Rattle.arena.specs.inside.Chain.{Has, put, Same}
use Rattle.arena.proofs.PutLaws.{length_put, word_same, word_other_record, word_other_field, same_refl}
use Rattle.parts.specs.inside.Copying.{Copied}

-- What the loop keeps: the first j words are copied, and the head that they are copied from is as it was from word j on.
pub record Copying (a : List ℕ) (from to : ℕ) (b : List ℕ) (j : ℕ) : Type 0 where
  pub within : j ≤ stride
  pub length_kept : length b ≡ length a
  pub done : (i : ℕ) → i < j → word b to i ≡ word a from i
  pub left : (i : ℕ) → j ≤ i → i < stride → word b from i ≡ word a from i
  pub outside : (x : ℕ) → (x ≡ to → ⊥) → Same a b x

pub copying_start : (a : List ℕ) (from to : ℕ) → Copying a from to a 0
copying_start a from to =
    record {
      within = omega arith;
      length_kept = refl;
      done = λ i p. absurd (omega arith);
      left = λ i p q. refl;
      outside = λ x p. same_refl a x;
    }

pub copying_more : (a : List ℕ) (from to : ℕ) (b c : List ℕ) (j v : ℕ) → Has a to → Copying a from to b j → j < stride → v ≡ word b from j → c ≡ put b to j v → Copying a from to c (j + 1)
copying_more a from to b c j v has s less read e =
    let long = s.length_kept in
    let here : Has b to = omega arith in
    subst (λ (d : List ℕ). Copying a from to d (j + 1)) (sym e)
    (record {
      within = omega arith;
      length_kept = length_put b to j v ∙ long;
      done =
          below_more _ _ (λ i below. word_other_field b to j v to i (λ f. omega arith) less (omega arith) ∙ s.done i below)
          (word_same b to j v here less ∙ read ∙ s.left j (omega arith) less);
      left = λ i p q. word_other_field b to j v from i (λ f. omega arith) less q ∙ s.left i (omega arith) q;
      outside = λ x p. record { at = λ i w. word_other_record b to j v x i p less w ∙ (s.outside x p).at i w };
    })

pub copying_has : (a : List ℕ) (from to : ℕ) (b : List ℕ) (j x : ℕ) → Copying a from to b j → Has a x → Has b x
copying_has a from to b j x s has = let long = s.length_kept in omega arith

pub copying_done : (a : List ℕ) (from to : ℕ) (b : List ℕ) (j : ℕ) → Copying a from to b j → stride ≤ j → Copied a from to b
copying_done a from to b j s done =
    record { length_kept = s.length_kept; words = λ i p. s.done i (omega arith); outside = s.outside }
