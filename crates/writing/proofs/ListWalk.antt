-- A walk along a list by the first link: what holds of the whole list and of the records left is kept record by record, and at the end no record is left.
-- The records left are a chain that begins with the next record, so that the walk meets them one by one and ends at 0.
use mathlib.Core.Path.{◌≡◌, sym, subst, ◌∙◌}
use mathlib.Core.List.{List, [], ◌∷◌}
use Prim.Native.Nat.{ℕ, ◌≤◌, ◌<◌}
use native.Mathlib.Omega.{arith}
use lib.ListN.{length}
use Rattle.arena.specs.Arena.{word, forward_at}
use Rattle.arena.specs.Lazy.{next_with}
use Rattle.arena.specs.inside.Chain.{Has, Member, Chain, Linked}
use Rattle.arena.specs.inside.Sums.{Summable}
use Rattle.arena.proofs.Walking.{count, next_none, next_first, next_second, count_is, one_list}

-- Of the list rs of the head h the records qs are left, the first of them is `next`, and P holds of both.
pub record Walk (a : List ℕ) (h next : ℕ) (P : List ℕ → List ℕ → Type 0) : Type 0 where
  pub rs : List ℕ
  pub qs : List ℕ
  pub linked : Linked a h rs
  pub chain : Chain a qs
  pub next_is : next ≡ next_with a 0 qs
  pub few : length qs ≤ 512
  pub state : P rs qs

pub walk_start : (a : List ℕ) (h : ℕ) (rs : List ℕ) (next : ℕ) (P : List ℕ → List ℕ → Type 0) → Linked a h rs → length rs ≤ 512 → next ≡ word a h forward_at → P rs rs → Walk a h next P
walk_start a h rs next P linked few e state =
    let top = linked.top in
    record {
      rs = rs;
      qs = rs;
      linked = linked;
      chain = linked.chain;
      next_is = e ∙ linked.links.at 0 (omega arith);
      few = few;
      state = state;
    }

-- The same where record r is the next one.
record Ahead (a : List ℕ) (h r : ℕ) (P : List ℕ → List ℕ → Type 0) : Type 0 where
  pub rs : List ℕ
  pub qs : List ℕ
  pub linked : Linked a h rs
  pub member : Member a r qs
  pub chain : Chain a qs
  pub few : length (r ∷ qs) ≤ 512
  pub state : P rs (r ∷ qs)

module _ (a : List ℕ) (h next : ℕ) (P : List ℕ → List ℕ → Type 0) (w : Walk a h next P) (some : next ≡ 0 → ⊥) (r : ℕ) (same : r ≡ next) where
  ahead : Ahead a h r P
  ahead = first w.qs w.chain w.next_is w.few w.state
    where
      first : (qs : List ℕ) → Chain a qs → next ≡ next_with a 0 qs → length qs ≤ 512 → P w.rs qs → Ahead a h r P
      first [] chain e few state = absurd (some (e ∙ next_none a))
      first (q ∷ qs) chain e few state =
          let f : q ≡ r = sym (same ∙ e ∙ next_first a q qs chain.0) in
          record {
            rs = w.rs;
            qs = qs;
            linked = w.linked;
            member = subst (λ (x : ℕ). Member a x qs) f chain.0;
            chain = chain.1;
            few = few;
            state = subst (λ (x : ℕ). P w.rs (x ∷ qs)) f state;
          }

  pub walk_has : Has a r
  walk_has = ahead.member.has

  pub walk_summable : (sums : List ℕ) → length sums ≡ 9 → Summable a r sums
  walk_summable sums e =
      record { has = ahead.member.has; low = ahead.member.low; high = ahead.member.high; nine = e }

  -- What P says while a record is left.
  pub walk_know : {C : Type 0} → ((rs qs : List ℕ) → P rs (r ∷ qs) → C) → C
  walk_know f = f ahead.rs ahead.qs ahead.state

  module _ (n : ℕ) (e : n ≡ word a r forward_at) where
    pub walk_less : count 512 a n < count 512 a next
    walk_less =
        let ah = ahead in
        let few = ah.few in
        let x = count_is 512 a (r ∷ ah.qs) next (ah.member, ah.chain) (sym same ∙ sym (next_first a r ah.qs ah.member)) few in
        let y = count_is 512 a ah.qs n ah.chain (e ∙ next_second a r ah.qs ah.member) (omega arith) in
        omega arith

    pub walk_more : (Q : List ℕ → List ℕ → Type 0) → ((rs qs : List ℕ) → P rs (r ∷ qs) → Q rs qs) → Walk a h n Q
    walk_more Q step =
        let ah = ahead in
        let few = ah.few in
        record {
          rs = ah.rs;
          qs = ah.qs;
          linked = ah.linked;
          chain = ah.chain;
          next_is = e ∙ next_second a r ah.qs ah.member;
          few = omega arith;
          state = step ah.rs ah.qs ah.state;
        }

-- At the end, for the one list of the head.
pub walk_done : (a : List ℕ) (h next : ℕ) (P : List ℕ → List ℕ → Type 0) → Walk a h next P → next ≡ 0 → (rs : List ℕ) → Linked a h rs → P rs []
walk_done a h next P w e rs linked =
    subst (λ (l : List ℕ). P l []) (one_list a h w.rs rs w.linked linked) (last w.qs w.chain w.next_is w.state)
  where
    last : (qs : List ℕ) → Chain a qs → next ≡ next_with a 0 qs → P w.rs qs → P w.rs []
    last [] chain f state = state
    last (q ∷ qs) chain f state =
        let g = next_first a q qs chain.0 in
        let some = chain.0.some in
        absurd (omega arith)
