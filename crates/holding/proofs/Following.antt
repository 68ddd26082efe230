-- Check 20 one record at a time: what the records after those passed must be, and that the next record settles a part of it.
-- The links due after the passed records are those that the rest of the list has first; a record settles the links that it has and makes its own due, and its back word is the last of those passed.
use mathlib.Core.Path.{◌≡◌, refl, sym, ap, subst, ◌∙◌}
use mathlib.Core.Bool.{Bool, true, ◌&&◌, and-eq-true_iff}
use mathlib.Core.List.{List, [], ◌∷◌, ◌++◌}
use Prim.Native.Nat.{ℕ, zero, suc, ◌≤◌, ◌<◌}
use native.Mathlib.Omega.{arith}
use Rattle.std.specs.Prelude.{Option, Some}
use lib.Dec.{leb, ltb, eqb}
use borrow.Author.Tests.{ltb-true, leb-true, eqb-true, lt-ltb, le-ltb, le-leb, eq-eqb}
use Rattle.checks.specs.declared.Check.TheVariants.{LazyList}
use Rattle.checks.specs.Answer.{taken, next}
use Rattle.checks.proofs.Answers.{not_both, same_taken, ask_taken, next_taken}
use Rattle.slicing.specs.Recorded.{Recorded}
use Rattle.arena.specs.Arena.{level, m_word, forward, back}
use Rattle.arena.specs.Lazy.{next_with, last_with, true_p, held, walk, links_right, linked, falling, backs_right}
use Rattle.arena.specs.inside.Backs.{last_of}
use Rattle.arena.proofs.Cases.{lt_or_ge}
use Rattle.arena.proofs.Frames.{next_here, next_past}
use Rattle.arena.proofs.ListLaws.{last_more}
use Rattle.arena.proofs.BackLaws.{last_of_more}
use Rattle.holding.specs.declared.items.Item.{Item as Laid}
use Rattle.holding.specs.inside.Pass.{in_row, Follows}

-- Both of two tests hold where each does.
pub each : (x y : Bool) → x ≡ true → y ≡ true → (x && y) ≡ true
each x y e f = (and-eq-true_iff x y).1 (e, f)

-- The record that is due with link k after those passed, and what one more record makes of it.
abbrev pub due : List ℕ → List ℕ → ℕ → ℕ
due a passed k = forward a (last_with a k 0 passed) k

module _ (a passed : List ℕ) (k r : ℕ) where
  pub due_here : k < level a r → due a (passed ++ (r ∷ [])) k ≡ forward a r k
  due_here h = ap (λ (x : ℕ). forward a x k) (last_more a k 0 passed r ∙ rw (lt-ltb k (level a r) h))

  pub due_past : level a r ≤ k → due a (passed ++ (r ∷ [])) k ≡ due a passed k
  due_past h = ap (λ (x : ℕ). forward a x k) (last_more a k 0 passed r ∙ rw (le-ltb k (level a r) h))

-- The links of one record.
pub links_each : (a : List ℕ) (r : ℕ) (rs : List ℕ) (n : ℕ) → links_right a r rs n ≡ true → (k : ℕ) → k < n → forward a r k ≡ next_with a k rs
unfolding links_right
links_each a r rs zero e k h = absurd (omega arith)
links_each a r rs (suc n) e k h =
    let t = (and-eq-true_iff (links_right a r rs n) (eqb (forward a r n) (next_with a n rs))).0 e in
    lt_or_ge k n (λ b. links_each a r rs n t.0 k b)
    (λ b. let same : n ≡ k = omega arith in subst (λ (i : ℕ). forward a r i ≡ next_with a i rs) same (eqb-true _ _ t.1))

pub links_all : (a : List ℕ) (r : ℕ) (rs : List ℕ) (n : ℕ) → ((k : ℕ) → k < n → forward a r k ≡ next_with a k rs) → links_right a r rs n ≡ true
unfolding links_right
links_all a r rs zero f = refl
links_all a r rs (suc n) f =
    each (links_right a r rs n) (eqb (forward a r n) (next_with a n rs)) (links_all a r rs n (λ k h. f k (omega arith))) (eq-eqb _ _ (f n (omega arith)))

-- The walk.
record Onward (a : List ℕ) (most r : ℕ) (rs : List ℕ) : Type 0 where
  rest : List ℕ
  same : rs ≡ r ∷ rest
  few : r ≤ 512
  walks : walk most a (forward a r 0) ≡ taken rest

walk_onward : (a : List ℕ) (most r : ℕ) (rs : List ℕ) → (r ≡ 0 → ⊥) → walk (suc most) a r ≡ taken rs → Onward a most r rs
unfolding walk
walk_onward a most zero rs h e = absurd (h refl)
walk_onward a most (suc r) rs h e =
    let asked = ask_taken (leb (suc r) 512) LazyList (next (walk most a (forward a (suc r) 0)) (λ l. taken (suc r ∷ l))) rs e in
    let onward = next_taken (walk most a (forward a (suc r) 0)) (λ l. taken (suc r ∷ l)) rs asked.1 in
    record {
      rest = onward.0;
      same = sym (same_taken _ _ onward.2);
      few = leb-true _ _ asked.0;
      walks = onward.1;
    }

pub walk_back : (a : List ℕ) (most r : ℕ) (rs : List ℕ) → (r ≡ 0 → ⊥) → r ≤ 512 → walk most a (forward a r 0) ≡ taken rs → walk (suc most) a r ≡ taken (r ∷ rs)
unfolding walk
walk_back a most zero rs h b e = absurd (h refl)
walk_back a most (suc r) rs h b e = rw (le-leb (suc r) 512 b, e)

pub walk_over : (a : List ℕ) (most r : ℕ) (rs : List ℕ) → r ≡ 0 → walk most a r ≡ taken rs → rs ≡ []
unfolding walk
walk_over a zero zero rs h e = sym (same_taken _ _ e)
walk_over a (suc most) zero rs h e = sym (same_taken _ _ e)
walk_over a zero (suc r) rs h e = absurd (omega arith)
walk_over a (suc most) (suc r) rs h e = absurd (omega arith)

pub walk_stops : (a : List ℕ) (most r : ℕ) → r ≡ 0 → walk most a r ≡ taken []
unfolding walk
walk_stops a zero zero h = refl
walk_stops a (suc most) zero h = refl
walk_stops a zero (suc r) h = absurd (omega arith)
walk_stops a (suc most) (suc r) h = absurd (omega arith)

walk_full : (a : List ℕ) (r : ℕ) (rs : List ℕ) → (r ≡ 0 → ⊥) → walk 0 a r ≡ taken rs → ⊥
unfolding walk
walk_full a zero rs h e = h refl
walk_full a (suc r) rs h e = not_both LazyList rs e

-- The items: the first follows the one before, where there is one.
abbrev pub Under : Option Laid → List Recorded → Type 0
Under before [] = Unit {0}
Under before (x ∷ l) = Follows before (in_row x.item)

falling_under : (x : Recorded) (l : List Recorded) → falling (x ∷ l) ≡ true → Under (Some (in_row x.item)) l × (falling l ≡ true)
unfolding falling
falling_under x [] e = (tt, refl)
falling_under x (y ∷ l) e =
    let first = (and-eq-true_iff (ltb y.item.m x.item.m) (ltb x.item.p y.item.p && falling (y ∷ l))).0 e in
    let second = (and-eq-true_iff (ltb x.item.p y.item.p) (falling (y ∷ l))).0 first.1 in
    ((ltb-true _ _ first.0, ltb-true _ _ second.0), second.1)

under_falling : (x : Recorded) (l : List Recorded) → Under (Some (in_row x.item)) l → falling l ≡ true → falling (x ∷ l) ≡ true
unfolding falling
under_falling x [] u e = refl
under_falling x (y ∷ l) u e = rw (lt-ltb _ _ u.0, lt-ltb _ _ u.1, e)

-- The records rs follow those passed, on a walk of at most `most` more, and the item before them where there is one.
pub record Rest (a : List ℕ) (most : ℕ) (passed : List ℕ) (before : Option Laid) (rs : List ℕ) : Type 0 where
  pub walks : walk most a (due a passed 0) ≡ taken rs
  pub links : (k : ℕ) → k < 8 → due a passed k ≡ next_with a k rs
  pub chain : linked a rs ≡ true
  pub falls : falling (held a 0 passed rs) ≡ true
  pub under : Under before (held a 0 passed rs)
  pub backs : backs_right a (last_of 0 passed) rs ≡ true

-- The item of the next record r.
abbrev pub come : List ℕ → List ℕ → ℕ → Laid
come a passed r = record { m = m_word a r; p = true_p a 0 passed r }

-- Record r can come next.
pub record Meets (a passed : List ℕ) (before : Option Laid) (r : ℕ) : Type 0 where
  pub few : r ≤ 512
  pub behind : back a r ≡ last_of 0 passed
  pub some : 1 ≤ level a r
  pub most : level a r ≤ 8
  pub links : (k : ℕ) → k < level a r → due a passed k ≡ r
  pub follows : Follows before (come a passed r)

pub record Turn (a : List ℕ) (most : ℕ) (passed : List ℕ) (before : Option Laid) (r : ℕ) : Type 0 where
  pub meets : Meets a passed before r
  pub rest : List ℕ
  pub after : Rest a most (passed ++ (r ∷ [])) (Some (come a passed r)) rest

module _ (a : List ℕ) (most : ℕ) (passed : List ℕ) (before : Option Laid) (r : ℕ) (here : due a passed 0 ≡ r) (more : r ≡ 0 → ⊥) where
  turn_of : (rest : List ℕ) → r ≤ 512 → walk most a (forward a r 0) ≡ taken rest → Rest a (suc most) passed before (r ∷ rest) → Turn a most passed before r
  unfolding linked held backs_right
  turn_of rest few walks k =
      let one = (and-eq-true_iff (leb 1 (level a r)) (leb (level a r) 8 && (links_right a r rest (level a r) && linked a rest))).0 k.chain in
      let two = (and-eq-true_iff (leb (level a r) 8) (links_right a r rest (level a r) && linked a rest)).0 one.1 in
      let three = (and-eq-true_iff (links_right a r rest (level a r)) (linked a rest)).0 two.1 in
      let some = leb-true 1 (level a r) one.0 in
      let own = links_each a r rest (level a r) three.0 in
      let order = falling_under _ _ k.falls in
      let behind = (and-eq-true_iff (eqb (back a r) (last_of 0 passed)) (backs_right a r rest)).0 k.backs in
      record {
        meets =
            record {
              few = few;
              behind = eqb-true (back a r) (last_of 0 passed) behind.0;
              some = some;
              most = leb-true (level a r) 8 two.0;
              links = λ i h. k.links i (omega (arith, leb-true (level a r) 8 two.0)) ∙ next_here a i r rest h;
              follows = k.under;
            };
        rest = rest;
        after =
            record {
              walks = ap (λ (x : ℕ). walk most a x) (due_here a passed 0 r some) ∙ walks;
              links =
                  λ i h.
                  lt_or_ge i (level a r) (λ b. due_here a passed i r b ∙ own i b)
                  (λ b. due_past a passed i r b ∙ k.links i h ∙ next_past a i r rest b);
              chain = three.1;
              falls = order.1;
              under = order.0;
              backs = ap (λ (x : ℕ). backs_right a x rest) (last_of_more 0 passed r) ∙ behind.1;
            };
      }

  -- What follows the passed records begins with r, and the rest follows r.
  pub turn : (rs : List ℕ) → Rest a (suc most) passed before rs → Turn a most passed before r
  turn rs k =
      let onward = walk_onward a most r rs more (ap (λ (x : ℕ). walk (suc most) a x) (sym here) ∙ k.walks) in
      turn_of onward.rest onward.few onward.walks (subst (λ (l : List ℕ). Rest a (suc most) passed before l) onward.same k)

  -- What follows r, with r before it, follows the passed records.
  pub turn_back : (rest : List ℕ) → Meets a passed before r → Rest a most (passed ++ (r ∷ [])) (Some (come a passed r)) rest → Rest a (suc most) passed before (r ∷ rest)
  unfolding linked held backs_right
  turn_back rest z k =
      let some = z.some in
      let walks = ap (λ (x : ℕ). walk most a x) (sym (due_here a passed 0 r some)) ∙ k.walks in
      let own = links_all a r rest (level a r) (λ i h. sym (due_here a passed i r h) ∙ k.links i (let b = z.most in omega arith)) in
      record {
        walks = ap (λ (x : ℕ). walk (suc most) a x) here ∙ walk_back a most r rest more z.few walks;
        links =
            λ i h.
            lt_or_ge i (level a r) (λ b. z.links i b ∙ sym (next_here a i r rest b))
            (λ b. sym (due_past a passed i r b) ∙ k.links i h ∙ sym (next_past a i r rest b));
        chain =
            each (leb 1 (level a r)) _ (le-leb 1 (level a r) some)
            (each (leb (level a r) 8) _ (le-leb (level a r) 8 z.most) (each (links_right a r rest (level a r)) (linked a rest) own k.chain));
        falls = under_falling _ _ k.under k.falls;
        under = z.follows;
        backs =
            each (eqb (back a r) (last_of 0 passed)) (backs_right a r rest) (eq-eqb _ _ z.behind)
            (ap (λ (x : ℕ). backs_right a x rest) (sym (last_of_more 0 passed r)) ∙ k.backs);
      }

module _ (a : List ℕ) (most : ℕ) (passed : List ℕ) (before : Option Laid) where
  -- No record may follow on a walk that may meet no more.
  pub rest_full : (rs : List ℕ) → (due a passed 0 ≡ 0 → ⊥) → Rest a 0 passed before rs → ⊥
  rest_full rs h k = walk_full a (due a passed 0) rs h k.walks

  -- Where no record is due with link 0, none is due with another.
  pub rest_over : (rs : List ℕ) → due a passed 0 ≡ 0 → Rest a most passed before rs → (k : ℕ) → k < 8 → due a passed k ≡ 0
  unfolding next_with
  rest_over rs h z k b =
      let none = walk_over a most (due a passed 0) rs h z.walks in
      z.links k b ∙ ap (λ (l : List ℕ). next_with a k l) none

  -- The last record passed is then the head's back word.
  pub rest_back : (rs : List ℕ) → due a passed 0 ≡ 0 → Rest a most passed before rs → back a 0 ≡ last_of 0 passed
  unfolding backs_right
  rest_back rs h z =
      let none = walk_over a most (due a passed 0) rs h z.walks in
      eqb-true (back a 0) (last_of 0 passed) (ap (λ (l : List ℕ). backs_right a (last_of 0 passed) l) (sym none) ∙ z.backs)

  pub rest_none : ((k : ℕ) → k < 8 → due a passed k ≡ 0) → back a 0 ≡ last_of 0 passed → Rest a most passed before []
  unfolding next_with linked held falling backs_right
  rest_none f behind =
      record {
        walks = walk_stops a most (due a passed 0) (f 0 (omega arith));
        links = f;
        chain = refl;
        falls = refl;
        under = tt;
        backs = eq-eqb (back a 0) (last_of 0 passed) behind;
      }
