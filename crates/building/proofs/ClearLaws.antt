-- What clearing a head leaves: the head of an empty list, and every other record as before.
-- Each turn of the loop sets one more word from 1 on to 0, and no store reaches another record.
use mathlib.Core.Path.{◌≡◌, refl, subst, sym, ◌∙◌}
use mathlib.Core.List.{List}
use Prim.Native.Nat.{ℕ, ◌+◌, ◌≤◌, ◌<◌}
use native.Mathlib.Numerals.{add-one}
use native.Mathlib.Omega.{arith}
use lib.ListN.{length}
use Rattle.arena.specs.Arena.{stride, word}
use Rattle.arena.specs.Lazy.{next_with}
use Rattle.arena.specs.inside.Chain.{Has, put, Same}
use Rattle.building.specs.inside.Building.{Cleared}
use Rattle.arena.proofs.Cases.{last_or_below}
use Rattle.arena.proofs.PutLaws.{length_put, word_same, word_other_record, word_other_field, put_same, same_refl}

-- What the loop keeps: words 1 to j - 1 of the head are 0.
pub record Clearing (a : List ℕ) (h : ℕ) (b : List ℕ) (j : ℕ) : Type 0 where
  pub from : 1 ≤ j
  pub inside : j ≤ stride
  pub has : Has b h
  pub long : length b ≡ length a
  pub outside : (x : ℕ) → (x ≡ h → ⊥) → Same a b x
  pub zero : (i : ℕ) → 1 ≤ i → i < j → word b h i ≡ 0

pub clearing_start : (a : List ℕ) (h : ℕ) → Has a h → Clearing a h a 1
clearing_start a h has =
    record {
      from = omega arith;
      inside = omega arith;
      has = has;
      long = refl;
      outside = λ x p. same_refl a x;
      zero = λ i p q. absurd (omega arith);
    }

pub clearing_more : (a : List ℕ) (h : ℕ) (b c : List ℕ) (j : ℕ) → Clearing a h b j → j < stride → c ≡ put b h j 0 → Clearing a h c (j + 1)
clearing_more a h b c j s less e =
    let l = length_put b h j 0 in
    let from = s.from in
    let has = s.has in
    subst (λ (d : List ℕ). Clearing a h d (j + 1)) (sym e)
    (record {
      from = omega arith;
      inside = omega arith;
      has = omega arith;
      long = l ∙ s.long;
      outside = λ x p. record { at = λ i w. word_other_record b h j 0 x i p less w ∙ (s.outside x p).at i w };
      zero =
          λ i p q. last_or_below i j (subst (λ (n : ℕ). i < n) (add-one j) q)
          (λ f. rw f (word_same b h j 0 has less))
          (λ below. word_other_field b h j 0 h i (λ f. omega arith) less (omega arith) ∙ s.zero i p below);
    })

pub clearing_done : (a : List ℕ) (h : ℕ) (b c : List ℕ) (j : ℕ) → Clearing a h b j → stride ≤ j → c ≡ put b h 0 8 → Cleared a h c
unfolding next_with
clearing_done a h b c j s done e = subst (λ (d : List ℕ). Cleared a h d) (sym e) topped
  where
    zeros : (i : ℕ) → 1 ≤ i → i < stride → word (put b h 0 8) h i ≡ 0
    zeros i p q =
        word_other_field b h 0 8 h i (λ f. omega arith) (omega arith) q ∙ s.zero i p (omega arith)

    level_8 : word (put b h 0 8) h 0 ≡ 8
    level_8 = word_same b h 0 8 s.has (omega arith)

    topped : Cleared a h (put b h 0 8)
    topped =
        let l = length_put b h 0 8 in
        let has = s.has in
        record {
          long = l ∙ s.long;
          outside =
              λ x p. record { at = λ i w. word_other_record b h 0 8 x i p (omega arith) w ∙ (s.outside x p).at i w };
          floor = zeros 1 (omega arith) (omega arith);
          built =
              record {
                linked =
                    record {
                      has = omega arith;
                      top = level_8;
                      links = record { at = λ k p. zeros (3 + k) (omega arith) (omega (arith, level_8)) };
                      away = tt;
                      chain = tt;
                    };
                still = λ k p. zeros (11 + k) (omega arith) (omega arith);
              };
        }

-- The first forward of a cleared head is 0, so that a store of 0 changes nothing.
pub cleared_first : (a : List ℕ) (h : ℕ) (b : List ℕ) → Cleared a h b → put b h 3 0 ≡ b
unfolding next_with
cleared_first a h b cleared =
    let top = cleared.built.linked.top in
    put_same b h 3 0 (sym (cleared.built.linked.links.at 0 (omega arith)))
