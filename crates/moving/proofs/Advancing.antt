-- The records in front of a list can be settled and relinked once they are cut, and then stand behind the open list with their true p raised, while the rest of the list keeps its own.
-- Settling changes values of the front alone and relinking changes links and the head's sums alone, so each leaves what the other needs.
use mathlib.Core.Path.{◌≡◌, refl, sym, ap, subst, ◌∙◌}
use mathlib.Core.List.{List, ◌∷◌, ◌++◌, map}
use Prim.Native.Nat.{ℕ, ◌+◌, ◌-◌, ◌≤◌, ◌<◌}
use native.Mathlib.Omega.{arith}
use lib.ListN.{length, get_or, drop}
use Rattle.arena.specs.Arena.{level, forward, adjust, back_at}
use Rattle.arena.specs.Lazy.{last_with}
use Rattle.arena.specs.inside.Chain.{Has, put, wrap, All, Away, Linked, trues, leaving, Same, Shape, Value}
use Rattle.arena.specs.inside.Backs.{BacksKept}
use Rattle.arena.specs.inside.Sums.{renewed, RenewedBelow}
use Rattle.arena.proofs.Cases.{lt_or_ge}
use Rattle.arena.proofs.ListLaws.{all_left, all_right, last_none, last_append, last_all, last_inside, leaving_last, trues_append, apart_swap, apart_from}
use Rattle.arena.proofs.Summing.{suffixes_agree, renewed_in, renewed_out}
use Rattle.arena.proofs.PutLaws.{same_trans}
use Rattle.arena.proofs.Walking.{next_first}
use Rattle.arena.proofs.BackStores.{back_other}
use Rattle.arena.proofs.Frames.{all_map, all_refl, all_both, same_value, next_frame, linked_frame, trues_frame, last_frame}
use Rattle.searching.specs.inside.Cut.{front, behind, LinkCount, CutAt}
use Rattle.searching.proofs.CutLaws.{front_behind, all_front}
use Rattle.searching.proofs.SearchLaws.{front_in}
use Rattle.splicing.specs.inside.Open.{Relinkable, Relinked, last_sums, cut_sums}
use Rattle.splicing.proofs.OpenLaws.{ends_frame, ends_last}
use Rattle.splicing.proofs.RelinkLaws.{relinked_value, relinked_same}
use Rattle.settling.specs.inside.Cached.{Cached}
use Rattle.settling.specs.inside.Settled.{Ready, Settled}
use Rattle.moving.specs.inside.Advance.{Movable, Moved, Run}
use Rattle.moving.proofs.Threading.{moved_stored, way_stored, cached_stored}

-- The list as it is cut.
module _ (a : List ℕ) (h hc key : ℕ) (cs : List ℕ) (r : ℕ) (rs ends : List ℕ) (w : Movable a h hc key cs r rs ends) where
  abbrev fr : List ℕ
  fr = front a key (r ∷ rs)

  abbrev back : List ℕ
  back = behind a key (r ∷ rs)

  whole : r ∷ rs ≡ fr ++ back
  whole = front_behind a key (r ∷ rs)

  pub linked : Linked a h (fr ++ back)
  linked = subst (λ (l : List ℕ). Linked a h l) whole w.list.linked

  cs_apart : All (λ x. Away x fr) cs
  cs_apart = all_map cs (λ x y. all_front (λ z. z ≡ x → ⊥) a key (r ∷ rs) y) w.apart

  hc_apart : Away hc fr
  hc_apart = all_front (λ x. x ≡ hc → ⊥) a key (r ∷ rs) w.result_away

  head_off : Away h fr
  head_off = all_left (λ x. x ≡ h → ⊥) fr back linked.away

  module _ (n : ℕ) (l : LinkCount a key (r ∷ rs) n) (cut sums : List ℕ) (c : CutAt a h key n (r ∷ rs) cut sums) where
    pub can_settle : Ready a h n cut fr back
    can_settle =
        let some = l.some in
        record {
          linked = linked;
          some = some;
          most = l.few;
          lower = l.lower;
          long = c.long;
          cut_at = c.at (n - 1) (omega arith);
          cut_in = λ e.
              last_inside a (n - 1) (λ x. x ≡ h → ⊥) h fr (l.with_link (n - 1) (omega arith)) head_off
              (sym (c.at (n - 1) (omega arith)) ∙ e);
          few = subst (λ (l : List ℕ). length l ≤ 512) whole w.list.few;
        }

    -- After the front was settled, in the arena b.
    module _ (q : ℕ) (b : List ℕ) (s : Settled a b h q ends fr) where
      levels : (rs : List ℕ) → All (λ x. level b x ≡ level a x) rs
      levels l = all_refl l (λ x. (s.shape x).level_kept)

      shapes : (rs : List ℕ) → All (Shape a b) rs
      shapes l = all_refl l (λ x. s.shape x)

      pub can_relink : Relinkable b h hc cs fr back cut sums ends n
      can_relink =
          let few = l.few in
          let cut_long = c.long in
          let sums_long = c.sums_long in
          record {
            list = linked_frame a b h (fr ++ back) s.length_kept (s.shape h) (shapes (fr ++ back)) linked;
            result = linked_frame a b hc cs s.length_kept (s.shape hc) (shapes cs) w.result;
            result_ends = ends_frame a b hc cs ends (levels cs) w.result_ends;
            heads = w.heads;
            head_away = w.head_away;
            result_away = subst (λ (l : List ℕ). Away hc l) whole w.result_away;
            apart = all_map cs (λ x y. subst (λ (l : List ℕ). Away x l) whole y) w.apart;
            some = l.some;
            high = few;
            with_link = λ k e.
                subst (λ (x : ℕ). 1 ≤ x) (sym (next_frame a b k fr (levels fr))) (l.with_link k e);
            lower = all_map fr (λ x y. let same = (s.shape x).level_kept in omega arith) l.lower;
            cut_long = omega arith;
            cut_at = λ k e. c.at k e ∙ sym (last_frame a b k h fr (levels fr));
            sums_long = omega arith;
            end_fits = w.end_fits;
          }

      -- After it was relinked as well, in the arena d.
      module _ (d ends' : List ℕ) (e : Relinked b d h hc cs fr back cut sums ends ends' n) where
        can : Relinkable b h hc cs fr back cut sums ends n
        can = can_relink

        value : (x : ℕ) → (x ≡ h → ⊥) → Away x fr → Value a d x
        value x off away =
            let first = same_value a b x (s.outside x away) in
            let second = relinked_value b d h hc cs fr back cut sums ends ends' n can e x off in
            record {
              level_kept = second.level_kept ∙ first.level_kept;
              p_kept = second.p_kept ∙ first.p_kept;
              adjust_kept = λ k f. second.adjust_kept k f ∙ first.adjust_kept k f;
            }

        values_of : (xs : List ℕ) → Away h xs → All (λ x. Away x fr) xs → All (Value a d) xs
        values_of xs off away = all_both xs value off away

        hc_sums : (k : ℕ) → k < 8 → adjust d hc k ≡ adjust a hc k
        hc_sums k f = (value hc (λ x. w.heads (sym x)) hc_apart).adjust_kept k f

        d_levels : (xs : List ℕ) → All (λ x. level d x ≡ level b x) xs
        d_levels xs = all_refl xs e.level_kept

        -- What leaves the open list is what the front was settled for.
        leaving_is : (k : ℕ) → k < 8 → leaving d (adjust d hc) cs k ≡ last_sums a ends k
        leaving_is k f =
            let last = last_frame b d k hc cs (d_levels cs) ∙ last_frame a b k hc cs (levels cs) in
            leaving_last d k (adjust d hc) hc cs refl ∙ ap (λ (x : ℕ). adjust d x k) (last ∙ sym (w.result_ends.at k f))
            ∙ subst (λ (x : ℕ). adjust d x k ≡ adjust a x k) (sym (w.result_ends.at k f))
            (last_all a k (λ x. adjust d x k ≡ adjust a x k) hc cs (hc_sums k f)
            (all_map cs (λ x v. v.adjust_kept k f) (values_of cs w.head_away cs_apart)))

        fr_values : All (Value b d) fr
        fr_values = all_map fr (relinked_value b d h hc cs fr back cut sums ends ends' n can e) head_off

        result_values : trues d (adjust d hc) (cs ++ fr) ≡ trues a (adjust a hc) cs ++ map (λ (t : ℕ). wrap t q) (trues a (adjust a h) fr)
        result_values =
            trues_append d (adjust d hc) cs fr
            ∙ ap (λ (l : List ℕ). l ++ trues d (leaving d (adjust d hc) cs) fr)
            (trues_frame a d (adjust a hc) (adjust d hc) cs hc_sums (values_of cs w.head_away cs_apart))
            ∙ ap (λ (l : List ℕ). trues a (adjust a hc) cs ++ l)
            (trues_frame b d (last_sums a ends) (leaving d (adjust d hc) cs) fr leaving_is fr_values ∙ s.values)

        -- The head takes what left the front.
        head_is : (k : ℕ) → k < 8 → adjust d h k ≡ leaving a (adjust a h) fr k
        head_is k f =
            lt_or_ge k n
            (λ less.
            e.adjust_head k less ∙ c.sums_at k less
            ∙ sym (leaving_last a k (adjust a h) h fr refl))
            (λ more.
            e.adjust_above k more f ∙ (s.outside h (away_head)).at (11 + k) (omega arith)
            ∙ ap (λ (x : ℕ). adjust a x k) (sym (last_none a k h fr (all_map fr (λ x y. omega arith) l.lower)))
            ∙ sym (leaving_last a k (adjust a h) h fr refl))
          where
            away_head : Away h fr
            away_head = head_off

        -- The sums of the head from link n up are kept, as those of the ends are; those below it are those of the cut.
        head_kept : (k : ℕ) → n ≤ k → k < 8 → adjust d h k ≡ adjust a h k
        head_kept k more f = e.adjust_above k more f ∙ (s.outside h head_off).at (11 + k) (omega arith)

        ends_kept : (k : ℕ) → n ≤ k → k < 8 → last_sums d ends' k ≡ last_sums a ends k
        ends_kept k more f =
            let none : All (λ x. level d x ≤ k) fr = all_map fr (λ x (low : level a x ≤ n). let one = e.level_kept x in let two = (s.shape x).level_kept in omega arith) l.lower in
            ap (λ (x : ℕ). adjust d x k)
            (e.result_ends.at k f ∙ last_append d k hc cs fr ∙ last_none d k (last_with d k hc cs) fr none)
            ∙ sym (leaving_last d k (adjust d hc) hc cs refl)
            ∙ leaving_is k f

        ends_cut : (k : ℕ) → k < n → k < 8 → last_sums d ends' k ≡ last_sums b cut k
        ends_cut k less f =
            ap (λ (x : ℕ). adjust d x k) (e.replaced k less)
            ∙ e.adjust_kept (get_or cut k 0) k f
            (λ is. last_inside a k (λ x. x ≡ h → ⊥) h fr (l.with_link k less) head_off (sym (c.at k less) ∙ is))

        -- So the sums that are kept are right again once those below link n are renewed.
        moved_cached : (heads lasts heads' lasts' : List ℕ) → Cached a h ends heads lasts → RenewedBelow (cut_sums sums) n heads heads' → RenewedBelow (last_sums b cut) n lasts lasts' → Cached d h ends' heads' lasts'
        moved_cached heads lasts heads' lasts' k renews_head renews_ends =
            record {
              head =
                  suffixes_agree (renewed (cut_sums sums) n (adjust a h)) (adjust d h) heads'
                  (λ i low high.
                  lt_or_ge i n (λ p. e.adjust_head i p ∙ sym (renewed_in (cut_sums sums) n (adjust a h) i p))
                  (λ p. head_kept i p high ∙ sym (renewed_out (cut_sums sums) n (adjust a h) i p)))
                  (renews_head (adjust a h) k.head);
              ends =
                  suffixes_agree (renewed (last_sums b cut) n (last_sums a ends)) (last_sums d ends') lasts'
                  (λ i low high.
                  lt_or_ge i n (λ p. ends_cut i p high ∙ sym (renewed_in (last_sums b cut) n (last_sums a ends) i p))
                  (λ p. ends_kept i p high ∙ sym (renewed_out (last_sums b cut) n (last_sums a ends) i p)))
                  (renews_ends (last_sums a ends) k.ends);
            }

        back_values : All (Value a d) back
        back_values = values_of back (all_right (λ x. x ≡ h → ⊥) fr back linked.away) (apart_from a fr back linked.chain)

        outside : (x : ℕ) → (h ≡ x → ⊥) → (hc ≡ x → ⊥) → Away x cs → Away x fr → Same a d x
        outside x off off_result off_cs off_fr =
            same_trans a b d x (s.outside x off_fr) (relinked_same b d h hc cs fr back cut sums ends ends' n can e x off off_result off_cs)

        moved : Moved a d h hc q cs fr back ends'
        moved =
            record {
              length_kept = e.length_kept ∙ s.length_kept;
              list = e.list;
              result = e.result;
              result_ends = e.result_ends;
              level_kept = λ x. e.level_kept x ∙ (s.shape x).level_kept;
              m_kept = λ x. e.m_kept x ∙ (s.shape x).m_kept;
              values = result_values;
              rest_values = trues_frame a d (leaving a (adjust a h) fr) (adjust d h) back head_is back_values;
              result_sums = hc_sums;
              outside = outside;
            }

        -- And after the back word of its first record was stored, in the arena z.
        module _ (z : List ℕ) (stored : z ≡ put d (forward b h 0) back_at (get_or ends 0 0)) where
          abbrev v : ℕ
          v = get_or ends 0 0

          stored_first : z ≡ put d r back_at v
          stored_first =
              let top = w.list.linked.top in
              stored
              ∙ ap (λ (x : ℕ). put d x back_at v)
              ((s.shape h).forward_kept 0 (omega arith) ∙ w.list.linked.links.at 0 (omega arith) ∙ next_first a r rs w.list.linked.chain.0)

          run_first : fr ≡ r ∷ front a key rs
          run_first = front_in a key r rs w.first

          in_run : (x : ℕ) → Away x fr → x ≡ r → ⊥
          in_run x away e = (subst (λ (l : List ℕ). Away x l) run_first away).0 (sym e)

          kept : BacksKept a d
          kept x = e.backs_kept x ∙ s.backs_kept x

          split : r ∷ rs ≡ r ∷ (front a key rs ++ back)
          split = whole ∙ ap (λ (l : List ℕ). l ++ back) run_first

          off : Away r (front a key rs ++ back)
          off = subst (λ (l : List ℕ). Away r (drop 1 l)) split w.list.linked.chain.0.away

          off_cs : Away r cs
          off_cs = (apart_swap cs (r ∷ rs) w.apart).0

          has_first : Has d r
          has_first = let has = w.list.linked.chain.0.has in let one = e.length_kept in let two = s.length_kept in omega arith

          pub run : Run a z h hc key q cs (r ∷ rs) ends'
          run =
              subst (λ (y : List ℕ). Run a y h hc key q cs (r ∷ rs) ends') (sym stored_first)
              (record {
                moved = moved_stored d r v a h hc q cs fr back ends' moved in_run;
                backs_off = λ x away. back_other d r v x (in_run x away) ∙ kept x;
                way_back =
                    way_stored d r v a h hc q cs fr back ends' moved kept (front a key rs) run_first has_first off off_cs
                    (ends_last a hc cs ends w.result w.result_ends);
              })

          pub run_cached : (heads lasts heads' lasts' : List ℕ) → Cached a h ends heads lasts → RenewedBelow (cut_sums sums) n heads heads' → RenewedBelow (last_sums b cut) n lasts lasts' → Cached z h ends' heads' lasts'
          run_cached heads lasts heads' lasts' k renews_head renews_ends =
              subst (λ (y : List ℕ). Cached y h ends' heads' lasts') (sym stored)
              (cached_stored d (forward b h 0) v h ends' heads' lasts' (moved_cached heads lasts heads' lasts' k renews_head renews_ends))
