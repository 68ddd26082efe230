-- A record hooked before a list whose head's adjusts are 0 makes a list with that record first, and no true p changes.
-- The head's forwards pass to the record up to its level and stand above it, and the record's adjusts from link 1 up are 0 like the head's.
use mathlib.Core.Path.{◌≡◌, refl, sym, ap, ap₂, ◌∙◌}
use mathlib.Core.List.{List, ◌∷◌}
use Prim.Native.Nat.{ℕ, ◌%◌, ◌^◌, ◌≤◌, ◌<◌}
use native.Mathlib.Omega.{arith}
use Rattle.arena.specs.Arena.{level, p_word, forward}
use Rattle.arena.specs.Lazy.{next_with}
use Rattle.arena.specs.inside.Chain.{All, Member, Chain, Linked, p_under, after, trues, Same, closed}
use Rattle.arena.specs.inside.Built.{Built}
use Rattle.building.specs.inside.Building.{Hooked, Fresh, Prepended}
use Rattle.arena.proofs.Cases.{lt_or_ge}
use Rattle.arena.proofs.SumLaws.{sum_zero}
use Rattle.arena.proofs.Frames.{all_map, all_both, same_shape, same_value, next_here, next_past, next_frame, chain_frame, chain_low, after_in, after_out, trues_frame, lowest_free}

module _ (a : List ℕ) (h r : ℕ) (rs b : List ℕ) (built : Built a h rs) (fresh : Fresh a h r rs) (s : Hooked 0 (level a r) a h r b) where
  linked : Linked a h rs
  linked = built.linked

  rest_same : All (Same a b) rs
  rest_same = all_both rs s.outside linked.away fresh.away

  rest_levels : All (λ x. level b x ≡ level a x) rs
  rest_levels = all_map rs (λ x t. t.at 0 (omega arith)) rest_same

  level_kept : level b r ≡ level a r
  level_kept = s.low r 0 (omega arith)

  head_links : (k : ℕ) → k < 8 → forward b h k ≡ next_with b k (r ∷ rs)
  head_links k p =
      let e = level_kept in
      let top = linked.top in
      lt_or_ge k (level a r) (λ less. s.head_new k (omega arith) less ∙ sym (next_here b k r rs (omega arith)))
      (λ past. s.head_old k (λ from below. omega arith) p ∙ linked.links.at k (omega arith) ∙ sym (next_frame a b k rs rest_levels)
      ∙ sym (next_past b k r rs (omega arith)))

  new_member : Member b r rs
  new_member =
      let e = level_kept in
      let top = linked.top in
      let high = fresh.high in
      let low = fresh.low in
      let has = fresh.has in
      let long = s.long in
      record {
        some = fresh.some;
        has = omega arith;
        low = omega arith;
        high = omega arith;
        links =
            record {
              at = λ k p. s.new_forward k (omega arith) (omega arith) ∙ linked.links.at k (omega arith)
                  ∙ sym (next_frame a b k rs rest_levels);
            };
        away = fresh.away;
      }

  rest_chain : Chain b rs
  rest_chain = chain_frame a b rs s.long (all_map rs (same_shape a b) rest_same) linked.chain

  after_zero : (k : ℕ) → 1 ≤ k → k < 8 → after b (λ n. 0) r k ≡ 0
  after_zero k some few =
      let e = level_kept in
      lt_or_ge k (level b r) (λ p. after_in b (λ n. 0) r k p ∙ s.new_adjust k some (omega arith) (omega arith))
      (λ p. after_out b (λ n. 0) r k p)

  first_p : p_under b (λ k. 0) r ≡ p_word a r % 2 ^ 32
  unfolding p_under
  first_p =
      let p = s.low r 2 (omega arith) in
      let z = sum_zero (level b r) 8 in
      ap (λ (n : ℕ). n % 2 ^ 32) (omega arith)

  pub prepended : Prepended a h r rs b
  unfolding trues
  prepended =
      let has = linked.has in
      let long = s.long in
      let e = s.low h 0 (omega arith) in
      let top = linked.top in
      record {
        long = s.long;
        outside = s.outside;
        low = s.low;
        built =
            record {
              linked =
                  record {
                    has = omega arith;
                    top = e ∙ top;
                    links = record { at = λ k p. head_links k (omega arith) };
                    away = (fresh.apart, linked.away);
                    chain = (new_member, rest_chain);
                  };
              still = λ k p. s.head_adjust k p ∙ built.still k p;
            };
        true_ps =
            ap₂ ◌∷◌ first_p
            (lowest_free b (λ k. 0) (after b (λ k. 0) r) rs (chain_low closed b rs rest_chain) after_zero
            ∙ trues_frame a b (λ k. 0) (λ k. 0) rs (λ k w. refl) (all_map rs (same_value a b) rest_same));
      }
