-- Each step of the merge touches the records of the two lists and the three heads alone.
-- A step touches the run that it moves, the result and two heads, and all of these come from the lists that the merge began with.
use mathlib.Core.Path.{◌≡◌, sym, ◌∙◌}
use mathlib.Core.List.{List, ◌∷◌, ◌++◌}
use Prim.Native.Nat.{ℕ, ◌+◌}
use native.Mathlib.Omega.{arith}
use Rattle.arena.specs.inside.Chain.{Away}
use Rattle.arena.proofs.ListLaws.{all_append}
use Rattle.arena.proofs.PutLaws.{same_trans}
use Rattle.searching.specs.inside.Cut.{front, behind}
use Rattle.searching.proofs.CutLaws.{all_front, all_behind}
use Rattle.dropping.specs.inside.Dropping.{Dropped}
use Rattle.moving.specs.inside.Advance.{MovedFront}
use Rattle.stepping.specs.inside.Running.{Confined}

module _ (a₀ a b : List ℕ) (ho hn hc key q r : ℕ) (xs₀ ys₀ xs ys cs ends' : List ℕ) (w : Confined a₀ a ho hn hc xs₀ ys₀ (r ∷ xs) ys cs) (d : MovedFront a b ho hc key q cs (r ∷ xs) ends') where
  abbrev fr : List ℕ
  fr = front a key (r ∷ xs)

  abbrev back : List ℕ
  back = behind a key (r ∷ xs)

  off_run : (x : ℕ) → Away x (r ∷ xs) → Away x fr
  off_run x h = all_front (λ z. z ≡ x → ⊥) a key (r ∷ xs) h

  off_rest : (x : ℕ) → Away x (r ∷ xs) → Away x back
  off_rest x h = all_behind (λ z. z ≡ x → ⊥) a key (r ∷ xs) h

  pub confined_moved : Confined a₀ b ho hn hc xs₀ ys₀ back ys (cs ++ fr)
  confined_moved =
      record {
        length_kept = d.length_kept ∙ w.length_kept;
        level_kept = λ x. d.level_kept x ∙ w.level_kept x;
        m_kept = λ x. d.m_kept x ∙ w.m_kept x;
        result_sums = λ k few. d.result_sums k few ∙ w.result_sums k few;
        records = λ x u v.
            let off = w.records x u v in
            (off_rest x off.0, off.1, all_append (λ z. z ≡ x → ⊥) cs fr off.2 (off_run x off.0));
        outside = λ x o n c u v.
            let off = w.records x u v in
            same_trans a₀ a b x (w.outside x o n c u v) (d.outside x o c off.2 (off_run x off.0));
      }

pub confined_swap : (a₀ a : List ℕ) (ho hn hc : ℕ) (xs₀ ys₀ xs ys cs : List ℕ) → Confined a₀ a ho hn hc xs₀ ys₀ xs ys cs → Confined a₀ a hn ho hc ys₀ xs₀ ys xs cs
confined_swap a₀ a ho hn hc xs₀ ys₀ xs ys cs w =
    record {
      length_kept = w.length_kept;
      level_kept = w.level_kept;
      m_kept = w.m_kept;
      result_sums = w.result_sums;
      records = λ x u v. let off = w.records x v u in (off.1, off.0, off.2);
      outside = λ x n o c u v. w.outside x o n c v u;
    }

pub confined_dropped : (a₀ a b : List ℕ) (ho hn hc y : ℕ) (xs₀ ys₀ xs ys cs : List ℕ) → Confined a₀ a ho hn hc xs₀ ys₀ xs (y ∷ ys) cs → (hn ≡ hc → ⊥) → Dropped a b hn y ys → Confined a₀ b ho hn hc xs₀ ys₀ xs ys cs
confined_dropped a₀ a b ho hn hc y xs₀ ys₀ xs ys cs w apart d =
    record {
      length_kept = d.length_kept ∙ w.length_kept;
      level_kept = λ x. d.level_kept x ∙ w.level_kept x;
      m_kept = λ x. d.m_kept x ∙ w.m_kept x;
      result_sums = λ k few. (d.outside hc (λ e. apart (sym e))).at (11 + k) (omega arith) ∙ w.result_sums k few;
      records = λ x u v. let off = w.records x u v in (off.0, off.1.1, off.2);
      outside = λ x o n c u v. same_trans a₀ a b x (w.outside x o n c u v) (d.outside x (λ e. n (sym e)));
    }
