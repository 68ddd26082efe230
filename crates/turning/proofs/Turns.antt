-- What the walk that turns a list keeps: if the records left are turned right from the present state, all are.
-- One record goes over at a turn, and what it leaves of the records left is the same chain with the same true p.
use Rattle.std.proofs.Common.{◌≡◌, ℕ, ◌%◌, ◌^◌, ◌<◌, ◌≤◌, List, [], ◌∷◌, map, length, sym, refl, ap, ◌∙◌, ap₂, arith}
use mathlib.Core.List.{reverse_aux}
use Rattle.arena.specs.Arena.{word, level, m_word, p_word, level_at, m_at, forward_at, back_at}
use Rattle.arena.specs.Lazy.{next_with}
use Rattle.arena.specs.inside.Chain.{put, All, Away, Member, Chain, after, trues, Same}
use Rattle.arena.specs.inside.Built.{Built}
use Rattle.building.specs.inside.Building.{Fresh}
use Rattle.arena.proofs.PutLaws.{length_put, same_put, same_trans}
use Rattle.arena.proofs.Frames.{all_map, all_refl, all_both, map_same, same_shape, same_value, next_frame, chain_frame, trues_frame}
use Rattle.arena.proofs.BackStores.{word_stays, built_stays, trues_stay}
use Rattle.turning.proofs.Swaps.{Turned1}

-- The arena b is a with the records qs turned, one by one, to before the list ds of the head h.
pub record Moved (a : List ℕ) (f : ℕ → ℕ) (h : ℕ) (ds qs b : List ℕ) : Type 0 where
  pub long : length b ≡ length a
  pub outside : (x : ℕ) → (x ≡ h → ⊥) → Away x qs → Away x ds → Same a b x
  pub kept : All (λ x. (j : ℕ) → j < forward_at → word b x j ≡ word a x j) ds
  pub built : Built b h (reverse_aux qs ds)
  pub levels : All (λ x. level b x ≡ level a x) qs
  pub m_is : map (m_word b) qs ≡ trues a f qs
  pub p_is : map (p_word b) qs ≡ map (m_word a) qs
  pub true_ps : trues b (λ k. 0) (reverse_aux qs ds) ≡ reverse_aux (map (λ x. m_word a x % 2 ^ 32) qs) (trues a (λ k. 0) ds)

-- The records qs are left, the first of them is `next`, and ds is the list built so far.
pub record Ready (a : List ℕ) (h : ℕ) (ds qs : List ℕ) (next : ℕ) : Type 0 where
  pub built : Built a h ds
  pub chain : Chain a qs
  pub next_is : next ≡ next_with a 0 qs
  pub few : length qs ≤ 512
  pub apart : Away h qs
  pub cross : All (λ x. Away x ds) qs

-- Where none are left, the back word of the head is stored.
pub moved_none : (a : List ℕ) (f : ℕ → ℕ) (h v : ℕ) (ds : List ℕ) → Built a h ds → Moved a f h ds [] (put a h back_at v)
unfolding trues
moved_none a f h v ds built =
    record {
      long = length_put a h back_at v;
      outside = λ x p q w. same_put a h back_at v x p (omega arith);
      kept = all_refl ds (λ x j p. word_stays a h v x j (omega arith));
      built = built_stays a h v h ds built;
      levels = tt;
      m_is = refl;
      p_is = refl;
      true_ps = trues_stay a h v (λ k. 0) ds;
    }

-- The first record left can stand before the list.
pub ready_fresh : (a : List ℕ) (h r : ℕ) (ds qs : List ℕ) (next : ℕ) → Ready a h ds (r ∷ qs) next → Fresh a h r ds
ready_fresh a h r ds qs next ready =
    let member = ready.chain.0 in
    record {
      some = member.some;
      has = member.has;
      low = member.low;
      high = member.high;
      apart = ready.apart.0;
      away = ready.cross.0;
    }

-- One more record.
module _ (a : List ℕ) (f : ℕ → ℕ) (h r : ℕ) (ds qs : List ℕ) (next : ℕ) (ready : Ready a h ds (r ∷ qs) next) (b : List ℕ) (one : Turned1 a f h r ds b) where
  member : Member a r qs
  member = ready.chain.0

  left_same : All (Same a b) qs
  left_same = all_both qs one.outside ready.apart.1 member.away

  pub built_same : All (Same a b) ds
  built_same = all_both ds one.outside ready.built.linked.away ready.cross.0

  pub ready_more : (n : ℕ) → n ≡ word a r forward_at → Ready b h (r ∷ ds) qs n
  ready_more n k =
      let low = member.low in
      let few = ready.few in
      record {
        built = one.built;
        chain = chain_frame a b qs one.long (all_map qs (same_shape a b) left_same) ready.chain.1;
        next_is =
            k ∙ member.links.at 0 (omega arith)
            ∙ sym (next_frame a b 0 qs (all_map qs (λ x (s : Same a b x). s.at level_at (omega arith)) left_same));
        few = omega arith;
        apart = ready.apart.1;
        cross =
            all_both qs (λ x (p : x ≡ r → ⊥) (q : Away x ds). ((λ (g : r ≡ x). p (sym g)), q)) member.away
            ready.cross.1;
      }

  pub moved_more : (c : List ℕ) → Moved b (after a f r) h (r ∷ ds) qs c → Moved a f h ds (r ∷ qs) c
  unfolding trues
  moved_more c t =
      record {
        long = t.long ∙ one.long;
        outside =
            λ x p q v. same_trans a b c x (one.outside x p (λ k. q.0 (sym k))) (t.outside x p q.1 (q.0, v));
        kept =
            all_both ds
            (λ x (p : (j : ℕ) → j < forward_at → word c x j ≡ word b x j) (q : Same a b x) j v. p j v ∙ q.at j (omega arith))
            t.kept.1 built_same;
        built = t.built;
        levels = (
          t.kept.0 0 (omega arith) ∙ one.level_kept,
          all_both qs (λ x (p : level c x ≡ level b x) (q : Same a b x). p ∙ q.at level_at (omega arith)) t.levels
              left_same,
        );
        m_is =
            ap₂ ◌∷◌ (t.kept.0 1 (omega arith) ∙ one.m_is)
            (t.m_is ∙ trues_frame a b (after a f r) (after a f r) qs (λ k w. refl) (all_map qs (same_value a b) left_same));
        p_is =
            ap₂ ◌∷◌ (t.kept.0 2 (omega arith) ∙ one.p_is)
            (t.p_is
            ∙ map_same (m_word b) (m_word a) qs (all_map qs (λ x (s : Same a b x). s.at m_at (omega arith)) left_same));
        true_ps =
            t.true_ps
            ∙ ap₂ reverse_aux
            (map_same (λ x. m_word b x % 2 ^ 32) (λ x. m_word a x % 2 ^ 32) qs
            (all_map qs (λ x (s : Same a b x). ap (λ (n : ℕ). n % 2 ^ 32) (s.at m_at (omega arith))) left_same))
            one.true_ps;
      }
