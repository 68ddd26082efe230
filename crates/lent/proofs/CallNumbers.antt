-- The law of a call on a face over numbers: of a caller that has the number of the file's answer, and then that of what is asked beside it.
-- A number that is not 0 is that of the check which refuses, since no check has the number 0.
use mathlib.Core.Path.{◌≡◌, sym, ap, subst, ◌∙◌}
use Prim.Native.Nat.{ℕ}
use Rattle.checks.specs.Check.{number_of}
use Rattle.checks.specs.declared.Check.{Check}
use Rattle.checks.specs.Answer.{Answer, refused, taken, Asked, also, number}
use Rattle.checks.proofs.Answers.{number_taken, number_refused}
use Rattle.slicing.specs.Tree.{Tree, gauge_count, size_count}
use Rattle.facefile.specs.declared.Face.{Face}
use Rattle.facefile.specs.Summary.{summary}
use Rattle.facefile.proofs.Answered.{Counts, answer_taken, answer_refused}
use Rattle.lent.specs.Call.{call_on}

module _ (face : Answer Tree) (asks : Tree → Asked) where
  -- What a call leaves by the answer of its checks: where a refusal by any check leaves it, answering that check's number alone, the refusal of this call does.
  pub refusal_kept : {A : Type 0} (Left : Answer Tree → A → Type 0) (none : ℕ → A) → ((c : Check) → Left (refused c) (none (number_of c))) → (n : ℕ) → (c : Check) × (call_on face asks ≡ refused c) × (n ≡ number_of c) → (r : A) → r ≡ none n → Left (call_on face asks) r
  refusal_kept {A} Left none kept n bad r made =
      subst (λ (a : Answer Tree). Left a r) (sym bad.1)
      (subst (λ (x : A). Left (refused bad.0) x) (sym (made ∙ ap none bad.2)) (kept bad.0))

  -- With what the reader answers of the file.
  module _ (f : Face) (read : f ≡ summary face) where
    pub refused_by_file : (f.number ≡ 0 → ⊥) → (c : Check) × (call_on face asks ≡ refused c) × (f.number ≡ number_of c)
    refused_by_file other =
        let bad = answer_refused f face read other in
        (bad.0, ap (λ (a : Answer Tree). call_on a asks) bad.1, bad.2)

    module _ (zero : f.number ≡ 0) where
      pub counts : Counts f face
      counts = answer_taken f face read zero

      -- What is asked hangs on the numbers of sizes and of gauges alone, which the reader counted.
      pub asked_of_counts : (asked : ℕ → ℕ → Asked) → asked f.sizes f.gauges ≡ asked (size_count counts.tree) (gauge_count counts.tree)
      asked_of_counts asked =
          ap (λ (n : ℕ). asked n f.gauges) counts.sizes ∙ ap (λ (g : ℕ). asked (size_count counts.tree) g) counts.gauges

      answer_is : call_on face asks ≡ also (asks counts.tree) (taken counts.tree)
      answer_is = ap (λ (a : Answer Tree). call_on a asks) counts.face

      -- And with the number of what is asked of the face.
      module _ (n : ℕ) (asked : n ≡ number (asks counts.tree)) where
        pub refused_by_asked : (n ≡ 0 → ⊥) → (c : Check) × (call_on face asks ≡ refused c) × (n ≡ number_of c)
        refused_by_asked other =
            let bad = number_refused (asks counts.tree) n asked other in
            (bad.0, answer_is ∙ ap (λ (q : Asked). also q (taken counts.tree)) bad.1, bad.2)

        pub asked_taken : n ≡ 0 → asks counts.tree ≡ taken tt
        asked_taken passed = (number_taken (asks counts.tree) (sym asked ∙ passed)).1

        pub taken_by_all : n ≡ 0 → call_on face asks ≡ taken counts.tree
        taken_by_all passed = answer_is ∙ ap (λ (q : Asked). also q (taken counts.tree)) (asked_taken passed)
