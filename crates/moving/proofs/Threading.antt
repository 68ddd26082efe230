-- A run that was moved is still moved after the back word of its first record was stored, and the way back along both lists is right then.
-- No link, no level, no m and no true p reads a back word, and those inside the run and of the rest are as they were.
use mathlib.Core.Path.{◌≡◌, sym, subst, ◌∙◌}
use mathlib.Core.List.{List, ◌∷◌, ◌++◌}
use Prim.Native.Nat.{ℕ, ◌+◌, ◌<◌}
use native.Mathlib.Omega.{arith}
use Rattle.arena.specs.Arena.{adjust, back, back_at, level_at, m_at, adjust_at}
use Rattle.arena.specs.inside.Chain.{Has, put, All, Away}
use Rattle.arena.specs.inside.Backs.{Backs, Inner, BacksKept, WayBack, last_of}
use Rattle.arena.proofs.PutLaws.{length_put, same_put, same_trans}
use Rattle.arena.proofs.Frames.{all_map, all_refl, linked_frame, trues_frame}
use Rattle.arena.proofs.Summing.{suffixes_agree}
use Rattle.arena.proofs.BackLaws.{run_backs, rest_inner, backs_frame, inner_frame}
use Rattle.arena.proofs.BackStores.{back_same, back_other, word_stays, shape_stays, value_stays}
use Rattle.splicing.specs.inside.Open.{last_sums}
use Rattle.splicing.proofs.OpenLaws.{ends_frame}
use Rattle.settling.specs.inside.Cached.{Cached}
use Rattle.moving.specs.inside.Advance.{Moved}

module _ (d : List ℕ) (r v : ℕ) where
  abbrev c : List ℕ
  c = put d r back_at v

  adjust_stays : (x k : ℕ) → k < 8 → adjust c x k ≡ adjust d x k
  adjust_stays x k few = word_stays d r v x (adjust_at + k) (omega arith)

  pub cached_stored : (h : ℕ) (ends heads lasts : List ℕ) → Cached d h ends heads lasts → Cached c h ends heads lasts
  cached_stored h ends heads lasts k =
      record {
        head = suffixes_agree (adjust d h) (adjust c h) heads (λ i low high. adjust_stays h i high) k.head;
        ends = suffixes_agree (last_sums d ends) (last_sums c ends) lasts (λ i low high. adjust_stays _ i high) k.ends;
      }

  module _ (a : List ℕ) (h hc q : ℕ) (cs fr rest ends' : List ℕ) (m : Moved a d h hc q cs fr rest ends') where
    pub moved_stored : ((x : ℕ) → Away x fr → x ≡ r → ⊥) → Moved a c h hc q cs fr rest ends'
    moved_stored other =
        let long = length_put d r back_at v in
        let shape = shape_stays d r v in
        record {
          length_kept = long ∙ m.length_kept;
          list = linked_frame d c h rest long (shape h) (all_refl rest shape) m.list;
          result = linked_frame d c hc (cs ++ fr) long (shape hc) (all_refl (cs ++ fr) shape) m.result;
          result_ends = ends_frame d c hc (cs ++ fr) ends' (all_refl (cs ++ fr) (λ x. word_stays d r v x level_at (omega arith))) m.result_ends;
          level_kept = λ x. word_stays d r v x level_at (omega arith) ∙ m.level_kept x;
          m_kept = λ x. word_stays d r v x m_at (omega arith) ∙ m.m_kept x;
          values =
              trues_frame d c (adjust d hc) (adjust c hc) (cs ++ fr) (adjust_stays hc) (all_refl (cs ++ fr) (value_stays d r v))
              ∙ m.values;
          rest_values =
              trues_frame d c (adjust d h) (adjust c h) rest (adjust_stays h) (all_refl rest (value_stays d r v)) ∙ m.rest_values;
          result_sums = λ k few. adjust_stays hc k few ∙ m.result_sums k few;
          outside = λ x o n p w. same_trans a d c x (m.outside x o n p w) (same_put d r back_at v x (other x w) (omega arith));
        }

    -- The record is the first of the run, and the word is the last record of the list that the run is behind.
    module _ (kept : BacksKept a d) (fs : List ℕ) (first : fr ≡ r ∷ fs) (has : Has d r) (off : Away r (fs ++ rest)) (off_cs : Away r cs) (last : v ≡ last_of hc cs) where
      pub way_stored : WayBack a c hc cs fr rest
      way_stored waits done =
          let inner = subst (λ (l : List ℕ). Inner d (l ++ rest)) first (inner_frame a d (fr ++ rest) (all_refl (fr ++ rest) kept) waits) in
          let still : (rs : List ℕ) → Away r rs → All (λ x. back c x ≡ back d x) rs = λ rs away. all_map rs (back_other d r v) away in
          let inside = backs_frame d c r (fs ++ rest) (still (fs ++ rest) off) inner in
          let before = backs_frame d c hc cs (still cs off_cs) (backs_frame a d hc cs (all_refl cs kept) done) in (
            subst (λ (l : List ℕ). Backs c hc (cs ++ l)) (sym first) (run_backs c hc r cs fs rest inside before (back_same d r v has ∙ last)),
            rest_inner c hc r cs fs rest inside,
          )
