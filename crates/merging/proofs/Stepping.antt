-- A step of the merge: it moves a run of the list whose first m is the larger, and the merge is further on after it.
-- The first forwards of the two heads are the first records of the lists, so the words compared are their m.
use mathlib.Core.Path.{◌≡◌, ap, ◌∙◌}
use mathlib.Core.List.{List, ◌∷◌}
use Prim.Native.Nat.{ℕ, ◌≤◌, ◌<◌}
use native.Mathlib.Omega.{arith}
use Rattle.arena.specs.Arena.{word, m_word}
use Rattle.arena.specs.inside.Chain.{Has, Linked}
use Rattle.dropping.proofs.DropLaws.{same_first, first_has}
use Rattle.stepping.specs.inside.Running.{Task, Both, OlderReady, OlderDone, NewerReady, NewerDone}
use Rattle.merging.specs.inside.Runs.{StepReady, StepDone}

module _ (gap : ℕ) (a : List ℕ) (ho hn v w : ℕ) (ends : List ℕ) (e : v ≡ word a ho 3) (f : w ≡ word a hn 3) where
  older_linked : (t : Task gap) (z : Both t a ho hn ends) → Linked a ho (z.r ∷ z.xs)
  older_linked t z = z.merging.runs.waits.lists.older.linked

  newer_linked : (t : Task gap) (z : Both t a ho hn ends) → Linked a hn (z.s ∷ z.ys)
  newer_linked t z = z.merging.runs.waits.lists.newer.linked

  pub step_older_has : StepReady gap a ho hn ends → Has a v
  step_older_has p = first_has a ho v (p.1.r, p.1.xs, older_linked p.0 p.1) e

  pub step_newer_has : StepReady gap a ho hn ends → Has a w
  step_newer_has p = first_has a hn w (p.1.s, p.1.ys, newer_linked p.0 p.1) f

  module _ (x y : ℕ) (g : x ≡ word a v 1) (h : y ≡ word a w 1) where
    older_first : (t : Task gap) (z : Both t a ho hn ends) → x ≡ m_word a z.r
    older_first t z = g ∙ ap (λ (n : ℕ). word a n 1) (same_first a ho v z.r z.xs (older_linked t z) e)

    newer_first : (t : Task gap) (z : Both t a ho hn ends) → y ≡ m_word a z.s
    newer_first t z = h ∙ ap (λ (n : ℕ). word a n 1) (same_first a hn w z.s z.ys (newer_linked t z) f)

    older_is : y ≤ x → (t : Task gap) (z : Both t a ho hn ends) → m_word a z.s ≤ m_word a z.r
    older_is low t z = let first = older_first t z in let other = newer_first t z in omega arith

    newer_is : x < y → (t : Task gap) (z : Both t a ho hn ends) → m_word a z.r < m_word a z.s
    newer_is less t z = let first = older_first t z in let other = newer_first t z in omega arith

    pub step_older : y ≤ x → StepReady gap a ho hn ends → OlderReady gap a ho hn ends
    step_older low p = (p.0, record { both = p.1; order = older_is low p.0 p.1 })

    pub step_newer : x < y → StepReady gap a ho hn ends → NewerReady gap a ho hn ends
    step_newer less p = (p.0, record { both = p.1; order = newer_is less p.0 p.1 })

    module _ (b ends' : List ℕ) where
      pub step_older_done : y ≤ x → OlderDone gap a b ho hn ends ends' → StepDone gap a b ho hn ends ends'
      step_older_done low d t z = d t (record { both = z; order = older_is low t z })

      pub step_newer_done : x < y → NewerDone gap a b ho hn ends ends' → StepDone gap a b ho hn ends ends'
      step_newer_done less d t z = d t (record { both = z; order = newer_is less t z })
