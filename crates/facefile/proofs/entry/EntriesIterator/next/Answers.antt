-- `facefile::entry::Entries::next` meets its contract.
-- Its ways out are those of the run of entries: where a byte is left it is a kind, and a gauge has its count and its sizes.
use mathlib.Core.Path.{refl, sym, ◌∙◌}
use native.Mathlib.Omega.{arith}
use Rattle.facefile.proofs.EntrySteps.{none_left, gives_stacked, gives_beside, gives_gauge, stands_join, stands_gauge, count_present, sizes_present}
use Rattle.facefile.proofs.entry.EntriesIterator.next.Goals as goal

pub returns-in_err-kind-clause-steps : goal.returns-in_err-kind-clause-steps
returns-in_err-kind-clause-steps c =
    let none = c.in_err-kind.ensures.lookup in none_left _ _ _ c.from_residual.ensures (omega arith)

pub bounds-self-self : goal.bounds-self-self
bounds-self-self c =
    let first = c.in_ok-kind.ensures.lookup.3 in
    count_present _ _ c.args.self.now.stands first.0 (sym (first.1 0) ∙ c.if-kind.true)

pub invariant_of-self : goal.invariant_of-self
invariant_of-self c =
    let first = c.in_ok-kind.ensures.lookup.3 in
    record { stands = stands_gauge _ _ c.args.self.now.stands first.0 (sym (first.1 0) ∙ c.if-kind.true) _ c.from.ensures }

pub slice_bounds-result-end : goal.slice_bounds-result-end
slice_bounds-result-end c =
    let first = c.in_ok-kind.ensures.lookup.3 in
    let present = sizes_present _ _ c.args.self.now.stands first.0 (sym (first.1 0) ∙ c.if-kind.true) _ c.from.ensures in
    omega arith

pub returns-then-kind-clause-steps : goal.returns-then-kind-clause-steps
returns-then-kind-clause-steps c =
    let first = c.in_ok-kind.ensures.lookup.3 in
    gives_gauge _ _ first.0 (sym (first.1 0) ∙ c.if-kind.true) _ c.from.ensures _ refl refl

pub invariant_of-self-2 : goal.invariant_of-self-2
invariant_of-self-2 c =
    let first = c.in_ok-kind.ensures.lookup.3 in
    record { stands = stands_join _ _ c.args.self.now.stands first.0 (λ e. c.if-kind.false (first.1 0 ∙ e)) }

pub returns-then-kind-2-clause-steps : goal.returns-then-kind-2-clause-steps
returns-then-kind-2-clause-steps c =
    let first = c.in_ok-kind.ensures.lookup.3 in
    gives_stacked _ _ first.0 (sym (first.1 0) ∙ c.if-kind-2.true) refl

pub returns-else-kind-2-clause-steps : goal.returns-else-kind-2-clause-steps
returns-else-kind-2-clause-steps c =
    let first = c.in_ok-kind.ensures.lookup.3 in
    gives_beside _ _ first.0 (λ e. c.if-kind.false (first.1 0 ∙ e)) (λ e. c.if-kind-2.false (first.1 0 ∙ e)) refl
