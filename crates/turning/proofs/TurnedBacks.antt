-- The back words of a list that is being turned, and what storing one leaves of a turn.
-- A record that is turned goes before those turned already, and the record that it pointed to will go before it; nothing else that a turn says reads a back word.
use Rattle.std.proofs.Common.{◌≡◌, ℕ, List, [], ◌∷◌, sym, ap, ◌∙◌, subst, arith}
use Rattle.arena.specs.Arena.{level_at, m_at, p_at, back_at}
use Rattle.arena.specs.inside.Chain.{put, Same}
use Rattle.arena.specs.inside.Built.{Built}
use Rattle.arena.specs.inside.Backs.{Backs, last_of, Backed}
use Rattle.arena.proofs.PutLaws.{length_put, same_put, same_trans}
use Rattle.arena.proofs.Frames.{all_map}
use Rattle.arena.proofs.BackLaws.{backs_frame}
use Rattle.arena.proofs.BackStores.{back_same, back_other, word_stays, built_stays, trues_stay}
use Rattle.turning.proofs.Swaps.{Turned1}
use Rattle.turning.proofs.Turns.{Ready, built_same}

-- The record `next` will go before the list ds, whose last record is `first`; where ds is empty, `next` will be the last.
pub record Behind (a : List ℕ) (first next : ℕ) (ds : List ℕ) : Type 0 where
  pub backs : Backs a next ds
  pub low : last_of next ds ≡ first

pub behind_none : (a : List ℕ) (first next : ℕ) → next ≡ first → Behind a first next []
unfolding last_of
behind_none a first next e = record { backs = tt; low = e }

-- One turn, with the turned record's back word stored too.
module _ (a : List ℕ) (f : ℕ → ℕ) (h r : ℕ) (ds b : List ℕ) (one : Turned1 a f h r ds b) (n : ℕ) where
  pub turned_stored : Turned1 a f h r ds (put b r back_at n)
  turned_stored =
      record {
        long = length_put b r back_at n ∙ one.long;
        outside =
            λ x p q. same_trans a b (put b r back_at n) x (one.outside x p q) (same_put b r back_at n x q (omega arith));
        level_kept = word_stays b r n r level_at (omega arith) ∙ one.level_kept;
        m_is = word_stays b r n r m_at (omega arith) ∙ one.m_is;
        p_is = word_stays b r n r p_at (omega arith) ∙ one.p_is;
        built = built_stays b r n h (r ∷ ds) one.built;
        true_ps = trues_stay b r n (λ k. 0) (r ∷ ds) ∙ one.true_ps;
      }

  pub behind_more : (qs : List ℕ) (next first : ℕ) → Ready a h ds (r ∷ qs) next → Behind a first r ds → Behind (put b r back_at n) first n (r ∷ ds)
  unfolding last_of
  behind_more qs next first ready old =
      let c = put b r back_at n in
      let same = built_same a f h r ds qs next ready c turned_stored in
      record {
        backs = (
          back_same b r n one.built.linked.chain.0.has,
          backs_frame a c r ds (all_map ds (λ x (s : Same a c x). s.at back_at (omega arith)) same) old.backs,
        );
        low = old.low;
      }

-- Where no record is left, the back word of the head is the last thing stored.
pub behind_done : (a : List ℕ) (h first next : ℕ) (ds : List ℕ) → Behind a first next ds → next ≡ 0 → Built a h ds → Backed (put a h back_at first) h ds
behind_done a h first next ds t none built =
    record {
      backs =
          backs_frame a (put a h back_at first) 0 ds (all_map ds (back_other a h first) built.linked.away)
          (subst (λ (x : ℕ). Backs a x ds) none t.backs);
      head = back_same a h first built.linked.has ∙ sym t.low ∙ ap (λ (x : ℕ). last_of x ds) none;
    }
