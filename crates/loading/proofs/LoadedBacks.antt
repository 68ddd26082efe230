-- The back words of a list that grows at its top.
-- All are right but that of its first record, which waits for the record that goes before it, or for 0 where none does; in an empty list the head's waits so.
use mathlib.Core.Path.{◌≡◌, sym, subst, ◌∙◌}
use mathlib.Core.List.{List, [], ◌∷◌}
use Prim.Native.Nat.{ℕ}
use Rattle.arena.specs.Arena.{back, back_at}
use Rattle.arena.specs.inside.Chain.{Has, put, Away, Chain}
use Rattle.arena.specs.inside.Backs.{Backs, BacksKept, last_of, Backed}
use Rattle.arena.proofs.Frames.{all_map, all_refl}
use Rattle.arena.proofs.BackLaws.{backs_frame}
use Rattle.arena.proofs.BackStores.{back_same, back_other}

-- The back words of the list rs of the head h are right, where `before` goes before the first of rs.
pub record BackedBy (a : List ℕ) (h before : ℕ) (rs : List ℕ) : Type 0 where
  pub backs : Backs a before rs
  pub head : back a h ≡ last_of before rs

-- The back word of `top` waits, which is the first of rs or, where there is none, the head; the others are right.
abbrev pub Waiting : List ℕ → (h top : ℕ) → List ℕ → Type 0
Waiting a h top [] = top ≡ h
Waiting a h top (r ∷ rs) = (top ≡ r) × BackedBy a h r rs

pub backed_none : (a : List ℕ) (h : ℕ) (rs : List ℕ) → BackedBy a h 0 rs → Backed a h rs
backed_none a h rs b = record { backs = b.backs; head = b.head }

pub waiting_has : (a : List ℕ) (h top : ℕ) (rs : List ℕ) → Has a h → Chain a rs → Waiting a h top rs → Has a top
waiting_has a h top [] has chain e = subst (λ (x : ℕ). Has a x) (sym e) has
waiting_has a h top (r ∷ rs) has chain w = subst (λ (x : ℕ). Has a x) (sym w.0) chain.0.has

-- A record off the list does not wait.
pub waiting_other : (a : List ℕ) (h top : ℕ) (rs : List ℕ) → Waiting a h top rs → (x : ℕ) → (x ≡ h → ⊥) → Away x rs → x ≡ top → ⊥
waiting_other a h top [] e x p q f = p (f ∙ e)
waiting_other a h top (r ∷ rs) w x p q f = q.0 (sym (f ∙ w.0))

module _ (a b : List ℕ) (h top : ℕ) (kept : BacksKept a b) where
  pub waiting_kept : (rs : List ℕ) → Waiting a h top rs → Waiting b h top rs
  waiting_kept [] e = e
  waiting_kept (r ∷ rs) w = (
    w.0,
    record { backs = backs_frame a b r rs (all_refl rs kept) w.1.backs; head = kept h ∙ w.1.head },
  )

-- The record v goes before the list, or 0 does.
pub waiting_stored : (a : List ℕ) (h top v : ℕ) (rs : List ℕ) → Has a h → Away h rs → Chain a rs → Waiting a h top rs → BackedBy (put a top back_at v) h v rs
unfolding last_of
waiting_stored a h top v [] has away chain e =
    subst (λ (x : ℕ). BackedBy (put a x back_at v) h v []) (sym e) (record { backs = tt; head = back_same a h v has })
waiting_stored a h top v (r ∷ rs) has away chain w =
    subst (λ (x : ℕ). BackedBy (put a x back_at v) h v (r ∷ rs)) (sym w.0)
    (record {
      backs = (
        back_same a r v chain.0.has,
        backs_frame a (put a r back_at v) r rs (all_map rs (back_other a r v) chain.0.away) w.1.backs,
      );
      head = back_other a r v h (λ f. away.0 (sym f)) ∙ w.1.head;
    })
