-- What the stack of parts holds, read from the oldest part to the newest: an entry only adds to it at the end.
-- A gauge is a new part at the end, and a join has the lists of its two parts one after the other, as they stood.
use mathlib.Core.Path.{◌≡◌, refl, sym, ap, ◌∙◌}
use mathlib.Core.List.{List, [], ◌∷◌, ◌++◌, append-nil, append_assoc}
use Prim.Native.Nat.{ℕ}
use Rattle.slicing.specs.Tree.{Tree, gauge, beside, stacked, gauges_of, sizes_of}
use Rattle.sizes.specs.Rules.{Rules}
use Rattle.entries.specs.Entry.{State}
use Rattle.entries.specs.inside.Tracking.{flat}
use Rattle.entries.specs.inside.Kinds.{Cut, cut_beside, cut_stacked}
use Rattle.entries.proofs.Took.{Took, took_gauge, took_join, Reads, reads_none, reads_more}

-- f makes of a join the lists of its parts, one after the other.
pub record Joins {A : Type 0} (f : Tree → List A) : Type 0 where
  pub at_beside : (a b : Tree) → f (beside a b) ≡ f a ++ f b
  pub at_stacked : (a b : Tree) → f (stacked a b) ≡ f a ++ f b

pub gauges_join : Joins gauges_of
gauges_join = record { at_beside = λ a b. refl; at_stacked = λ a b. refl }

pub sizes_join : Joins sizes_of
sizes_join = record { at_beside = λ a b. refl; at_stacked = λ a b. refl }

module _ {A : Type 0} (f : Tree → List A) (joins : Joins f) where
  at_cut : (kind : ℕ) (cut : Tree → Tree → Tree) (a b : Tree) → Cut kind cut → f (cut a b) ≡ f a ++ f b
  at_cut kind cut a b cut_beside = joins.at_beside a b
  at_cut kind cut a b cut_stacked = joins.at_stacked a b

  -- A join leaves the list as it was.
  pub join_flat : (kind : ℕ) (cut : Tree → Tree → Tree) (a b : Tree) (parts : List Tree) → Cut kind cut → flat f (cut a b ∷ parts) ≡ flat f (b ∷ a ∷ parts)
  join_flat kind cut a b parts c =
      ap (λ (l : List A). flat f parts ++ l) (at_cut kind cut a b c) ∙ sym (append_assoc (flat f parts) (f a) (f b))

  -- What an entry adds.
  pub took_flat : {rules : Rules} (s t : State) → Took rules s t → (more : List A) × (flat f t.stack ≡ flat f s.stack ++ more)
  took_flat s t (took_gauge count bytes parts g z few some most present sized) = (f (gauge z), refl)
  took_flat s t (took_join kind cut bytes a b parts g c) =
      ([], join_flat kind cut a b parts c ∙ sym (append-nil (flat f (b ∷ a ∷ parts))))

  pub reads_flat : {rules : Rules} (k : ℕ) (s t : State) → Reads rules k s t → (more : List A) × (flat f t.stack ≡ flat f s.stack ++ more)
  reads_flat k s t (reads_none x) = ([], sym (append-nil (flat f s.stack)))
  reads_flat k s t (reads_more j x u y first rest) =
      let p = took_flat s u first in
      let q = reads_flat j u t rest in
      (p.0 ++ q.0, q.1 ∙ ap (λ (l : List A). l ++ q.0) p.1 ∙ append_assoc (flat f s.stack) p.0 q.0)
