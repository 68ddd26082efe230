-- What the loop that closes an open list keeps: the links below the present one are closed.
-- The ends are records of the arena from the start, and no turn changes its length.
use Rattle.std.proofs.Common.{◌≡◌, ℕ, ◌+◌, ◌<◌, ◌≤◌, List, length, get_or, sym, refl, subst, arith}
use Rattle.arena.specs.inside.Chain.{Has, put}
use Rattle.splicing.specs.inside.Open.{OpenLinked, EndsOf, Closed}
use Rattle.splicing.proofs.ClosingLaws.{Ended, ended_none, ended_turn, ends_has, closed}

pub record Closing (a₀ a ends : List ℕ) (k : ℕ) : Type 0 where
  pub within : k ≤ 8
  pub long : 8 ≤ length ends
  pub kept : length a ≡ length a₀
  pub has : (i : ℕ) → i < 8 → Has a₀ (get_or ends i 0)
  pub words : Ended a₀ a ends k

pub closing_start : (a ends : List ℕ) → (h : ℕ) × (cs : List ℕ) × OpenLinked a h cs × EndsOf a h cs ends → Closing a a ends 0
closing_start a ends p =
    record {
      within = omega arith;
      long = p.3.long;
      kept = refl;
      has = ends_has a p.0 p.1 ends p.2 p.3;
      words = ended_none a ends;
    }

module _ (a₀ a ends : List ℕ) (k : ℕ) (g : Closing a₀ a ends k) where
  pub closing_has : k < 8 → Has a (get_or ends k 0)
  closing_has less = let same = g.kept in let has = g.has k less in omega arith

  pub closing_turn : k < 8 → (b : List ℕ) → b ≡ put a (get_or ends k 0) (3 + k) 0 → Closing a₀ b ends (k + 1)
  closing_turn less b e =
      let words = subst (λ (x : List ℕ). Ended a₀ x ends (k + 1)) (sym e) (ended_turn a₀ a ends k less (g.has k less) g.words) in
      record {
        within = omega arith;
        long = g.long;
        kept = words.length_kept;
        has = g.has;
        words = words;
      }

  pub closing_done : 8 ≤ k → (h : ℕ) (cs : List ℕ) → OpenLinked a₀ h cs → EndsOf a₀ h cs ends → Closed a₀ a h cs ends
  closing_done over h cs l lasts =
      let within = g.within in
      let e : k ≡ 8 = omega arith in
      closed a₀ a ends (subst (λ (i : ℕ). Ended a₀ a ends i) e g.words) h cs l lasts
