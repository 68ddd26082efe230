-- What the loops over the row of due links keep, one law for each way through them.
-- A record's forwards are put down from its level, and each word that they replace named the record; a row of which each word is 0 names none.
use Rattle.std.proofs.Common.{◌≡◌, ℕ, ◌+◌, ◌-◌, ◌%◌, ◌^◌, ◌<◌, ◌≤◌, Bool, true, false, List, length, get_or, set, take, drop, sym, refl, ap, ◌∙◌, subst, arith, length-set, length-drop, get_or-take, get_or-set_other, get_or-set_same}
use Rattle.std.proofs.lemmas.List.{length-take-le}
use Rattle.std.proofs.lemmas.Grind.{get_or_after_one}
use Rattle.std.specs.Bool.{MatchBool}
use Rattle.std.specs.List.{AllWithin, HoldsAt}
use Rattle.arena.specs.Arena.{word, level, forward, adjust}
use Rattle.arena.specs.inside.Sums.{Summable, Renewed}
use Rattle.arena.proofs.Cases.{eq_or_ne}
use Rattle.arena.proofs.Summing.{word_above, Renewing, renewing_start, renewing_more, passing_done}
use Rattle.forwards.specs.inside.Due.{Decides, Are, Passed}

-- The forwards of record r from link l up are in their places.
pub record Relinking (a : List ℕ) (r : ℕ) (first e : List ℕ) (l : ℕ) : Type 0 where
  pub high : l ≤ level a r
  pub most : level a r ≤ 8
  pub inside : 8 ≤ length first
  pub long : length e ≡ length first
  pub here : (k : ℕ) → l ≤ k → k < level a r → get_or e k 0 ≡ forward a r k
  pub below : (k : ℕ) → k < l → get_or e k 0 ≡ get_or first k 0
  pub past : (k : ℕ) → level a r ≤ k → get_or e k 0 ≡ get_or first k 0

pub relinking_start : (a : List ℕ) (r : ℕ) (first : List ℕ) (l : ℕ) → l ≡ level a r → l ≤ 8 → 8 ≤ length first → Relinking a r first first l
relinking_start a r first l e few inside =
    record {
      high = omega arith;
      most = omega arith;
      inside = inside;
      long = refl;
      here = λ k from inside. absurd (omega arith);
      below = λ k h. refl;
      past = λ k h. refl;
    }

pub relinking_more : (a : List ℕ) (r : ℕ) (first e : List ℕ) (l w : ℕ) → Relinking a r first e l → 1 < l → w ≡ word a r (3 + (l - 1)) → Relinking a r first (set e (l - 1) w) (l - 1)
relinking_more a r first e l w z more is =
    let high = z.high in
    let long = z.long in
    let most = z.most in
    let inside = z.inside in
    record {
      high = omega arith;
      most = most;
      inside = inside;
      long = length-set e (l - 1) w ∙ z.long;
      here =
          λ k from end. eq_or_ne k (l - 1)
          (λ same.
          subst (λ (i : ℕ). get_or (set e (l - 1) w) i 0 ≡ forward a r i) (sym same)
          (get_or-set_same e (l - 1) w 0 (omega arith) ∙ is))
          (λ other. get_or-set_other e (l - 1) k w 0 (λ q. omega arith) ∙ z.here k (omega arith) end);
      below = λ k h. get_or-set_other e (l - 1) k w 0 (λ q. omega arith) ∙ z.below k (omega arith);
      past = λ k h. get_or-set_other e (l - 1) k w 0 (λ q. omega arith) ∙ z.past k h;
    }

pub relinking_done : (a : List ℕ) (r : ℕ) (first e : List ℕ) (l : ℕ) → Relinking a r first e l → l ≤ 1 → Passed a r first e
relinking_done a r first e l z done =
    record { long = z.long; here = λ k from inside. z.here k (omega arith) inside; past = z.past }

-- The links of record r from l up are passed: it was due with each.
pub record Passing (a : List ℕ) (r : ℕ) (first sums e s : List ℕ) (l : ℕ) : Type 0 where
  pub relinks : Relinking a r first e l
  pub renews : Renewing (adjust a r) (level a r) sums s l
  pub was : (k : ℕ) → l ≤ k → k < level a r → get_or first k 0 ≡ r

module _ (a : List ℕ) (r : ℕ) (first sums : List ℕ) where
  pub passing_start : Summable a r sums → 8 ≤ length first → (v l : ℕ) → v ≡ word a r 0 → l ≡ v → Passing a r first sums first sums l
  passing_start can inside v l v_is l_is =
      let high = can.high in
      record {
        relinks = relinking_start a r first l (l_is ∙ v_is) (omega arith) inside;
        renews = renewing_start (adjust a r) (level a r) sums l can.nine (l_is ∙ v_is);
        was = λ k from inside. absurd (omega arith);
      }

  module _ (e s : List ℕ) (l : ℕ) (z : Passing a r first sums e s l) where
    -- The word of the next lower link is as it was.
    untouched : 1 < l → get_or e (l - 1) 0 ≡ get_or first (l - 1) 0
    untouched more = z.relinks.below (l - 1) (omega arith)

    pub passing_more : Summable a r sums → 1 < l → (n w v y : ℕ) → n ≡ get_or e (l - 1) 0 → n ≡ r → w ≡ word a r (3 + (l - 1)) → v ≡ word a r (11 + (l - 1)) → y ≡ (get_or s (l - 1 + 1) 0 + v) % 2 ^ 32 → Passing a r first sums (set e (l - 1) w) (set s (l - 1) y) (l - 1)
    passing_more can more n w v y n_is due w_is v_is y_is =
        record {
          relinks = relinking_more a r first e l w z.relinks more w_is;
          renews = renewing_more (adjust a r) (level a r) sums s l can.high z.renews more _ v y (word_above s l more) v_is y_is;
          was =
              λ k from end. eq_or_ne k (l - 1)
              (λ same. subst (λ (i : ℕ). get_or first i 0 ≡ r) (sym same) (sym (untouched more) ∙ sym n_is ∙ due))
              (λ other. z.was k (omega arith) end);
        }

    pub passing_not : (n : ℕ) → 1 < l → n ≡ get_or e (l - 1) 0 → (n ≡ r → ⊥) → Decides false (Are first (level a r) r)
    unfolding Are
    passing_not n more n_is other f =
        let high = z.relinks.high in
        other (n_is ∙ untouched more ∙ f (l - 1) (omega arith) (omega arith))

    module _ (done : l ≤ 1) where
      pub passing_met : Decides true (Are first (level a r) r)
      unfolding Are
      passing_met k from inside = z.was k (omega arith) inside

      pub passing_due : Passed a r first e
      passing_due = relinking_done a r first e l z.relinks done

      pub passing_sums : Summable a r sums → Renewed a r sums s
      passing_sums can = passing_done a r sums s l z.renews done

-- The words 1 to 7 of a row, and what a test of each of them answers.
module _ (row : List ℕ) (long : 8 ≤ length row) where
  abbrev pub words : List ℕ
  words = take 7 (drop 1 row)

  word_at : (i : ℕ) → i < 7 → get_or words i 0 ≡ get_or row (1 + i) 0
  word_at i less = get_or-take 7 (drop 1 row) i 0 less ∙ get_or_after_one row i 0

  seven : length words ≡ 7
  seven = let rest = length-drop 1 row in length-take-le 7 (drop 1 row) (omega arith)

  pub all_free : (r : Bool) → MatchBool r (AllWithin (λ x. x ≡ 0) words 0 (length words)) ((k : ℕ) × (k < length words) × HoldsAt (λ x. x ≡ 0 → ⊥) words k) → Decides r (Are row 8 0)
  unfolding Are
  all_free true each =
      let many = seven in
      λ k low high.
      let same : 1 + (k - 1) ≡ k = omega arith in
      ap (λ (i : ℕ). get_or row i 0) (sym same) ∙ sym (word_at (k - 1) (omega arith)) ∙ each (k - 1) 0 (omega arith) (omega arith)
  all_free false some =
      let many = seven in
      let less = some.1 in
      λ are. some.2 0 (word_at some.0 (omega arith) ∙ are (1 + some.0) (omega arith) (omega arith))
