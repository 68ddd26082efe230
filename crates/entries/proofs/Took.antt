-- A taken run of entries as a relation: which bytes each entry had, and what it did to the stack. Every law of taken files goes by cases on it.
-- It holds because a chain of questions is taken only where each was answered "yes".
use mathlib.Core.Path.{◌≡◌, refl, sym, subst}
use mathlib.Core.Bool.{Bool, true, false, cond}
use mathlib.Core.List.{List, [], ◌∷◌}
use Prim.Native.Nat.{ℕ, zero, suc, ◌+◌, ◌*◌, ◌≤◌, ◌<◌}
use lib.ListN.{length, drop}
use lib.Dec.{leb, ltb, eqb}
use borrow.Author.Tests.{leb-true, ltb-true, eqb-true}
use Rattle.checks.specs.declared.Check.TheVariants.{Kind, Join}
use Rattle.checks.specs.Answer.{refused, taken}
use Rattle.checks.proofs.Answers.{not_both, same_taken, ask_taken, next_taken}
use Rattle.slicing.specs.Item.{Item}
use Rattle.slicing.specs.Tree.{Tree, gauge, beside, stacked}
use Rattle.entries.specs.inside.Kinds.{Cut, cut_beside, cut_stacked}
use Rattle.sizes.specs.Rules.{Rules}
use Rattle.sizes.specs.GaugeSizes.{within, sizes_from}
use Rattle.sizes.proofs.SizeChecks.{within_true}
use Rattle.entries.specs.Entry.{State, skip, gauge_taken, gauge_sizes, gauge_entry, join_parts, join_entry, kind_entry, entry, entries}

abbrev pub state : List ℕ → List Tree → ℕ → State
state rest parts g = record { rest = rest; stack = parts; gauges = g }

-- One entry took the first state to the second, by the rules of some version.
pub data Took (rules : Rules) : State → State → Type 0 where
  took_gauge : (count : ℕ) (bytes : List ℕ) (parts : List Tree) (g : ℕ) (z : List Item) → g < 64 → 1 ≤ count → count ≤ 8 → rules.step * count ≤ length bytes → sizes_from rules count bytes ≡ taken z
      → Took rules (state (0x01 ∷ count ∷ bytes) parts g) (state (drop (rules.step * count) bytes) (gauge z ∷ parts) (g + 1))
  took_join : (kind : ℕ) (cut : Tree → Tree → Tree) (bytes : List ℕ) (a b : Tree) (parts : List Tree) (g : ℕ) → Cut kind cut → Took rules (state (kind ∷ bytes) (b ∷ a ∷ parts) g) (state bytes (cut a b ∷ parts) g)

-- So many entries took the first state to the second.
pub data Reads (rules : Rules) : ℕ → State → State → Type 0 where
  reads_none : (s : State) → Reads rules zero s s
  reads_more : (k : ℕ) (s t u : State) → Took rules s t → Reads rules k t u → Reads rules (suc k) s u

sizes_took : (rules : Rules) (count : ℕ) (bytes : List ℕ) (parts : List Tree) (g : ℕ) (s : State) → g < 64 → gauge_sizes rules count (state bytes parts g) ≡ taken s → Took rules (state (0x01 ∷ count ∷ bytes) parts g) s
unfolding gauge_sizes
sizes_took rules count bytes parts g s few e =
    let counted = ask_taken (within 1 8 count) _ _ s e in
    let present = ask_taken (leb (rules.step * count) (length bytes)) _ _ s counted.1 in
    let limits = within_true 1 8 count counted.0 in
    let sized = next_taken (sizes_from rules count bytes) (gauge_taken (skip (rules.step * count) (state bytes parts g))) s present.1 in
    subst (λ (t : State). Took rules (state (0x01 ∷ count ∷ bytes) parts g) t) (same_taken _ s sized.2)
    (took_gauge count bytes parts g sized.0 few limits.0 limits.1
    (leb-true (rules.step * count) (length bytes) present.0) sized.1)

gauge_took : (rules : Rules) (rest : List ℕ) (parts : List Tree) (g : ℕ) (s : State) → gauge_entry rules (state rest parts g) ≡ taken s → Took rules (state (0x01 ∷ rest) parts g) s
unfolding gauge_entry
gauge_took rules [] parts g s e =
    absurd (not_both _ s (ask_taken (ltb g 64) _ _ s e).1)
gauge_took rules (count ∷ bytes) parts g s e =
    let few = ask_taken (ltb g 64) _ _ s e in
    let present = ask_taken (ltb 0 (suc (length bytes))) _ _ s few.1 in
    sizes_took rules count bytes parts g s (ltb-true g 64 few.0) present.1

join_took : (rules : Rules) (kind : ℕ) (cut : Tree → Tree → Tree) (rest : List ℕ) (parts : List Tree) (g : ℕ) (s : State) → Cut kind cut → join_entry cut (state rest parts g) ≡ taken s → Took rules (state (kind ∷ rest) parts g) s
unfolding join_entry join_parts
join_took rules kind cut rest [] g s c e = absurd (not_both Join s e)
join_took rules kind cut rest (b ∷ []) g s c e = absurd (not_both Join s e)
join_took rules kind cut rest (b ∷ a ∷ parts) g s c e =
    subst (λ (t : State). Took rules (state (kind ∷ rest) (b ∷ a ∷ parts) g) t) (same_taken _ s e)
    (took_join kind cut rest a b parts g c)

kind_took : (rules : Rules) (kind : ℕ) (rest : List ℕ) (parts : List Tree) (g : ℕ) (s : State) → kind_entry rules kind (state rest parts g) ≡ taken s → Took rules (state (kind ∷ rest) parts g) s
unfolding kind_entry
kind_took rules kind rest parts g s e = by_kind (eqb kind 0x01) (eqb kind 0x02) (eqb kind 0x03) refl refl refl e
  where
    after : State
    after = state rest parts g

    by_kind : (x y z : Bool) → eqb kind 0x01 ≡ x → eqb kind 0x02 ≡ y → eqb kind 0x03 ≡ z → cond x (gauge_entry rules after) (cond y (join_entry beside after) (cond z (join_entry stacked after) (refused Kind))) ≡ taken s → Took rules (state (kind ∷ rest) parts g) s
    by_kind true y z p q r t =
        subst (λ (k : ℕ). Took rules (state (k ∷ rest) parts g) s) (sym (eqb-true kind 0x01 p)) (gauge_took rules rest parts g s t)
    by_kind false true z p q r t =
        subst (λ (k : ℕ). Took rules (state (k ∷ rest) parts g) s) (sym (eqb-true kind 0x02 q))
        (join_took rules 0x02 beside rest parts g s cut_beside t)
    by_kind false false true p q r t =
        subst (λ (k : ℕ). Took rules (state (k ∷ rest) parts g) s) (sym (eqb-true kind 0x03 r))
        (join_took rules 0x03 stacked rest parts g s cut_stacked t)
    by_kind false false false p q r t = absurd (not_both Kind s t)

pub entry_took : (rules : Rules) (rest : List ℕ) (parts : List Tree) (g : ℕ) (s : State) → entry rules (state rest parts g) ≡ taken s → Took rules (state rest parts g) s
unfolding entry
entry_took rules [] parts g s e = absurd (not_both _ s e)
entry_took rules (kind ∷ bytes) parts g s e =
    kind_took rules kind bytes parts g s (ask_taken (ltb 0 (suc (length bytes))) _ _ s e).1

-- A run of entries that is taken is a run of this relation.
pub entries_read : (rules : Rules) (k : ℕ) (s t : State) → entries rules k s ≡ taken t → Reads rules k s t
unfolding entries
entries_read rules zero s t e = subst (λ (u : State). Reads rules zero s u) (same_taken s t e) (reads_none s)
entries_read rules (suc k) s t e =
    let first = next_taken (entry rules s) (entries rules k) t e in
    reads_more k s first.0 t (entry_took rules s.rest s.stack s.gauges first.0 first.1)
    (entries_read rules k first.0 t first.2)
