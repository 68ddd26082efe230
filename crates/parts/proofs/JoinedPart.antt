-- Two parts that were joined are one part: the record-carrying merge of their lists, each turned where it ran the other way.
-- Their records are neighbouring ranges and the heads are no size's records, so that each call leaves what the next one needs.
use mathlib.Core.Path.{◌≡◌, refl, sym, ap₂, subst, ◌∙◌}
use mathlib.Core.Bool.{Bool, true, false, cond}
use mathlib.Core.List.{List, [], ◌∷◌, Memᴰ}
use Prim.Native.Nat.{ℕ, ◌+◌, ◌-◌, ◌≤◌, ◌<◌}
use native.Mathlib.Omega.{arith}
use lib.ListN.{get_or}
use Rattle.checks.specs.Limits.{most_rib, most_opening}
use Rattle.checks.proofs.Cases.{cond_holds}
use Rattle.slicing.specs.Good.{Ordered}
use Rattle.slicing.specs.Recorded.{Recorded, merge_recorded, items}
use Rattle.arena.specs.Arena.{level, m_word}
use Rattle.arena.specs.Lazy.{held}
use Rattle.arena.specs.inside.Chain.{All, Away, Same}
use Rattle.arena.proofs.Cases.{lt_or_ge, eq_or_ne}
use Rattle.arena.proofs.Frames.{all_map, all_both}
use Rattle.arena.proofs.PutLaws.{same_trans}
use Rattle.arena.proofs.BackLaws.{backs_inner}
use Rattle.stepping.specs.inside.Trio.{Roomy}
use Rattle.merging.specs.inside.Merge.{Mergeable, Merged}
use Rattle.parts.specs.inside.Part.{first_head, head_of, older_turned, newer_turned, Part, Suits}
use Rattle.parts.specs.inside.Copying.{Copied}
use Rattle.parts.specs.inside.Joining.{turned_if, Ranged, Turns, Faces, Joinable, Joined}
use Rattle.parts.proofs.PartLaws.{away_from, away_out, part_length, part_frame, part_copied}

-- What holds of the m of each item holds of the m of each record.
held_all : (P : ℕ → Type 0) (a : List ℕ) (h : ℕ) (before rs : List ℕ) → ((x : Recorded) → Memᴰ x (held a h before rs) → P x.item.m) → All (λ x. P (m_word a x)) rs
unfolding held
held_all P a h before [] f = tt
held_all P a h before (r ∷ rs) f = (f _ (Memᴰ.head refl), held_all P a h _ rs (λ x i. f x (Memᴰ.tail i)))

-- A property that a record has as soon as it cannot lack it: to be inside a range is one, and to have a given level.
abbrev Sure : (ℕ → Type 0) → Type 0
Sure P = (x : ℕ) → ((P x → ⊥) → ⊥) → P x

inside_sure : (lo hi : ℕ) → Sure (λ x. (lo ≤ x) × (x < hi))
inside_sure lo hi x not_out =
    lt_or_ge x lo (λ low. absurd (not_out (λ i. let u = i.0 in omega arith)))
    (λ from. lt_or_ge x hi (λ to. (from, to)) (λ high. absurd (not_out (λ i. let u = i.1 in omega arith))))

level_sure : (levels a : List ℕ) → Sure (λ x. level a x ≡ get_or levels (x - 1) 0)
level_sure levels a x not_other = eq_or_ne (level a x) (get_or levels (x - 1) 0) (λ e. e) (λ other. absurd (not_other other))

-- All records of a list have it, since none without it is one of them.
all_of : (P : ℕ → Type 0) → Sure P → (rs : List ℕ) → ((x : ℕ) → (P x → ⊥) → Away x rs) → All P rs
all_of P sure [] h = tt
all_of P sure (r ∷ rs) h = (sure r (λ out. (h r out).0 refl), all_of P sure rs (λ x out. (h x out).1))

heads_apart : (s t : Bool) (place : ℕ) → place < 63 → cond s older_turned (first_head + place) ≡ cond t newer_turned (first_head + (place + 1)) → ⊥
heads_apart true true place low e = omega arith
heads_apart true false place low e = omega arith
heads_apart false true place low e = omega arith
heads_apart false false place low e = omega arith

-- Two parts of neighbouring ranges can be merged to record 0.
module _ (gap : ℕ) (levels c : List ℕ) (x y lo mid hi : ℕ) (l k : List Recorded) (p : Part levels c x lo mid l) (q : Part levels c y mid hi k) where
  module _ (narrow : gap ≤ most_rib) (older_range : Ranged c lo mid) (newer_range : Ranged c mid hi) (older_suits : Suits l) (newer_suits : Suits k) (x_high : first_head ≤ x) (y_high : first_head ≤ y) (apart : x ≡ y → ⊥) where
    off : (low high z : ℕ) (rs : List ℕ) → high ≤ z → All (λ u. (low ≤ u) × (u < high)) rs → Away z rs
    off low high z rs above inside = away_out low high z rs (λ i. let v = i.1 in omega arith) inside

    below : (low high z : ℕ) (rs : List ℕ) → z < low → All (λ u. (low ≤ u) × (u < high)) rs → Away z rs
    below low high z rs under inside = away_out low high z rs (λ i. let v = i.0 in omega arith) inside

    room : (h low high : ℕ) (g : List Recorded) (z : Part levels c h low high g) → Suits g → All (Roomy c) z.list
    room h low high g z suits =
        all_map z.list (λ u few. let low = few.0 in let high = few.1 in record { some = omega arith; small = omega arith })
        (held_all (λ m. (1 ≤ m) × (m ≤ most_opening)) c h [] z.list (λ u i. let in_list = subst (λ (r : List Recorded). Memᴰ u r) z.holds i in (suits.some u in_list, (suits.low u in_list).0)))

    pub mergeable : Mergeable gap c x y 0 p.list q.list
    mergeable =
        let long = older_range.long in
        let some = older_range.some in
        let later = newer_range.some in
        let most = newer_range.most in
        let middle = older_range.most in
        record {
          older = p.built;
          newer = q.built;
          result_has = omega arith;
          older_newer = apart;
          older_result = λ e. omega arith;
          newer_result = λ e. omega arith;
          older_off_newer = off mid hi x q.list (omega arith) q.inside;
          newer_off_older = off lo mid y p.list (omega arith) p.inside;
          result_off_older = below lo mid 0 p.list (omega arith) p.inside;
          result_off_newer = below mid hi 0 q.list (omega arith) q.inside;
          lists_apart = all_map p.list (λ u i. let v = i.1 in below mid hi u q.list v q.inside) p.inside;
          older_few = let few = older_suits.few in let same = part_length levels c c x lo mid l p in omega arith;
          newer_few = let few = newer_suits.few in let same = part_length levels c c y mid hi k q in omega arith;
          older_order = subst (λ (r : List Recorded). Ordered (items r)) (sym p.holds) older_suits.ordered;
          newer_order = subst (λ (r : List Recorded). Ordered (items r)) (sym q.holds) newer_suits.ordered;
          small = λ u v i j.
              let first = (older_suits.low u (subst (λ (r : List Recorded). Memᴰ u r) p.holds i)).1 in
              let second = (newer_suits.low v (subst (λ (r : List Recorded). Memᴰ v r) q.holds j)).1 in
              omega arith;
          older_room = room x lo mid l p older_suits;
          newer_room = room y mid hi k q newer_suits;
          older_backs = backs_inner c 0 p.list p.backed.backs;
          newer_backs = backs_inner c 0 q.list q.backed.backs;
          older_fits = all_map p.list (λ u i. let v = i.1 in omega arith) p.inside;
          newer_fits = all_map q.list (λ u i. let v = i.1 in omega arith) q.inside;
          result_fits = omega arith;
        }

    -- What the records of both lists have, those of the merged list have.
    merged_all : (d : List ℕ) (m : Merged gap c d x y 0 p.list q.list) (P : ℕ → Type 0) → Sure P → All P p.list → All P q.list → All P m.list
    merged_all d m P sure older newer =
        all_of P sure m.list (λ u out. m.records u (away_from P u p.list out older) (away_from P u q.list out newer))

    kept_levels : (d : List ℕ) → Merged gap c d x y 0 p.list q.list → (low high : ℕ) (rs : List ℕ) → 1 ≤ low → All (λ u. (low ≤ u) × (u < high)) rs → All (λ u. level c u ≡ get_or levels (u - 1) 0) rs → All (λ u. level d u ≡ get_or levels (u - 1) 0) rs
    kept_levels d m low high rs some inside levels_are =
        all_both rs (λ u i e. let from = i.0 in m.level_kept u (λ none. omega arith) ∙ e) inside levels_are

    pub merged_part : (d : List ℕ) → Merged gap c d x y 0 p.list q.list → Part levels d 0 lo hi (merge_recorded gap l k)
    merged_part d m =
        let first = older_range.upward in
        let second = newer_range.upward in
        record {
          list = m.list;
          built = m.built;
          backed = record { backs = m.backs; head = m.last };
          holds = m.holds ∙ ap₂ (merge_recorded gap) p.holds q.holds;
          inside =
              merged_all d m (λ u. (lo ≤ u) × (u < hi)) (inside_sure lo hi)
              (all_map p.list (λ u i. let to = i.1 in (i.0, omega arith)) p.inside)
              (all_map q.list (λ u i. let from = i.0 in (omega arith, i.1)) q.inside);
          level_is =
              merged_all d m (λ u. level d u ≡ get_or levels (u - 1) 0) (level_sure levels d)
              (kept_levels d m lo mid p.list older_range.some p.inside p.level_is)
              (kept_levels d m mid hi q.list newer_range.some q.inside q.level_is);
        }

-- The join, call by call.
module _ (gap : ℕ) (narrow : gap ≤ most_rib) (levels a : List ℕ) (place lo mid hi : ℕ) (l k : List Recorded) (s t : Bool) (g : Joinable levels a place lo mid hi l k s t) where
  abbrev older_head : ℕ
  older_head = head_of place

  abbrev newer_head : ℕ
  newer_head = head_of (place + 1)

  pub older_turns : Turns levels a older_head older_turned lo mid l
  older_turns =
      let low = g.low_place in
      record {
        ranged = g.older_range;
        head_high = omega arith;
        spare_high = omega arith;
        spare_low = omega arith;
        apart = λ e. omega arith;
        few = g.older_few;
        part = g.older;
      }

  -- The older part faces the join.
  module _ (b : List ℕ) (x : ℕ) (f : Faces levels a b older_head older_turned lo mid l s x) where
    ranged_after : (low high : ℕ) → Ranged a low high → Ranged b low high
    ranged_after low high r =
        let long = r.long in
        let same = f.length_kept in
        record { long = omega arith; some = r.some; upward = r.upward; most = r.most }

    pub newer_turns : Turns levels b newer_head newer_turned mid hi k
    newer_turns =
        let low = g.low_place in
        let most = g.newer_range.most in
        let middle = g.older_range.most in
        record {
          ranged = ranged_after mid hi g.newer_range;
          head_high = omega arith;
          spare_high = omega arith;
          spare_low = omega arith;
          apart = λ e. omega arith;
          few = g.newer_few;
          part =
              part_frame levels a b newer_head mid hi k g.newer f.length_kept
              (λ z u v. f.outside z (λ e. omega arith) (λ i. let w = i.1 in omega arith))
              (f.outside newer_head (λ e. omega arith) (λ i. let w = i.1 in omega arith)) (λ i. let w = i.1 in omega arith);
        }

    -- And so does the newer one.
    module _ (c : List ℕ) (y : ℕ) (h : Faces levels b c newer_head newer_turned mid hi k t y) where
      pub x_high : first_head ≤ x
      x_high = subst (λ (z : ℕ). first_head ≤ z) (sym f.head) (cond_holds (λ (z : ℕ). first_head ≤ z) s older_turned older_head (omega arith) (omega arith))

      y_high : first_head ≤ y
      y_high = subst (λ (z : ℕ). first_head ≤ z) (sym h.head) (cond_holds (λ (z : ℕ). first_head ≤ z) t newer_turned newer_head (omega arith) (omega arith))

      pub x_other : (z : ℕ) → (older_turned ≡ z → ⊥) → (older_head ≡ z → ⊥) → x ≡ z → ⊥
      x_other z p q e = cond_holds (λ (u : ℕ). u ≡ z → ⊥) s older_turned older_head p q (sym f.head ∙ e)

      y_other : (z : ℕ) → (newer_turned ≡ z → ⊥) → (newer_head ≡ z → ⊥) → y ≡ z → ⊥
      y_other z p q e = cond_holds (λ (u : ℕ). u ≡ z → ⊥) t newer_turned newer_head p q (sym h.head ∙ e)

      x_y : x ≡ y → ⊥
      x_y e = heads_apart s t place g.low_place (sym f.head ∙ e ∙ h.head)

      abbrev older_part : Part levels c x lo mid (turned_if s l)
      older_part =
          let low = g.low_place in
          let middle = g.older_range.most in
          let high = x_high in
          let from = g.newer_range.upward in
          part_frame levels b c x lo mid (turned_if s l) f.part h.length_kept
          (λ z u v. h.outside z (λ e. omega arith) (λ i. let w = i.0 in omega arith))
          (h.outside x (x_other newer_turned (λ e. omega arith) (λ e. omega arith)) (λ i. let w = i.1 in let most = g.newer_range.most in omega arith))
          (λ i. let w = i.1 in omega arith)

      ranged_now : (low high : ℕ) → Ranged a low high → Ranged c low high
      ranged_now low high r =
          let long = r.long in
          let same = f.length_kept in
          let again = h.length_kept in
          record { long = omega arith; some = r.some; upward = r.upward; most = r.most }

      pub join_mergeable : Mergeable gap c x y 0 older_part.list h.part.list
      join_mergeable =
          mergeable gap levels c x y lo mid hi (turned_if s l) (turned_if t k) older_part h.part narrow (ranged_now lo mid g.older_range) (ranged_now mid hi g.newer_range) g.older_suits g.newer_suits x_high y_high x_y

      -- The merge stands at record 0, and is copied to the older part's head.
      module _ (d : List ℕ) (m : Merged gap c d x y 0 older_part.list h.part.list) (e : List ℕ) (copied : Copied d 0 older_head e) where
        root : Part levels d 0 lo hi (merge_recorded gap (turned_if s l) (turned_if t k))
        root =
            merged_part gap levels c x y lo mid hi (turned_if s l) (turned_if t k) older_part h.part narrow (ranged_now lo mid g.older_range) (ranged_now mid hi g.newer_range) g.older_suits g.newer_suits x_high y_high x_y d m

        same_all : (z : ℕ) → 1 ≤ z → (older_turned ≡ z → ⊥) → (newer_turned ≡ z → ⊥) → (older_head ≡ z → ⊥) → (newer_head ≡ z → ⊥) → ((lo ≤ z) × (z < mid) → ⊥) → ((mid ≤ z) × (z < hi) → ⊥) → Same a e z
        same_all z some p q r w off_older off_newer =
            same_trans a b e z (f.outside z (λ u. p (sym u)) off_older)
            (same_trans b c e z (h.outside z (λ u. q (sym u)) off_newer)
            (same_trans c d e z
            (m.outside z (x_other z p r) (y_other z q w) (λ u. omega arith) (away_out lo mid z older_part.list off_older older_part.inside)
            (away_out mid hi z h.part.list off_newer h.part.inside))
            (copied.outside z (λ u. r (sym u)))))

        pub joined : Joined gap levels a e place lo mid hi l k s t
        joined =
            let low = g.low_place in
            let most = g.newer_range.most in
            let middle = g.older_range.most in
            let first = g.older_range.upward in
            let second = g.newer_range.upward in
            let long = g.older_range.long in
            let l1 = f.length_kept in
            let l2 = h.length_kept in
            let l3 = m.length_kept in
            record {
              length_kept = copied.length_kept ∙ l3 ∙ l2 ∙ l1;
              part =
                  part_copied levels d e 0 older_head lo hi (merge_recorded gap (turned_if s l) (turned_if t k)) root (omega arith)
                  (λ i. let w = i.1 in omega arith) copied;
              outside = λ z some. (
                λ under.
                    same_all z some (λ u. omega arith) (λ u. omega arith) (λ u. omega arith) (λ u. omega arith) (λ i. let w = i.0 in omega arith)
                    (λ i. let w = i.0 in omega arith),
                λ high less.
                    same_all z some (λ u. omega arith) (λ u. omega arith) (λ u. omega arith) (λ u. omega arith) (λ i. let w = i.1 in omega arith)
                    (λ i. let w = i.1 in omega arith),
              );
            }

-- What the function's calls ask, and what it promises.
abbrev Ready : List ℕ → ℕ → Bool → Bool → Type 0
Ready a place s t =
    (levels : List ℕ) × (lo : ℕ) × (mid : ℕ) × (hi : ℕ) × (l : List Recorded) × (k : List Recorded) × Joinable levels a place lo mid hi l k s t

-- What `facing` promises.
abbrev Facing : (a b : List ℕ) (h spare : ℕ) (t : Bool) (r : ℕ) → Type 0
Facing a b h spare t r =
    (levels : List ℕ) (lo hi : ℕ) (l : List Recorded) → Turns levels a h spare lo hi l → Faces levels a b h spare lo hi l t r

module _ (gap : ℕ) (narrow : gap ≤ most_rib) (a : List ℕ) (place : ℕ) (s t : Bool) where
  pub join_older : Ready a place s t → (levels : List ℕ) × (lo : ℕ) × (hi : ℕ) × (l : List Recorded) × Turns levels a (head_of place) older_turned lo hi l
  join_older p =
      (p.0, p.1, p.2, p.4, older_turns gap narrow p.0 a place p.1 p.2 p.3 p.4 p.5 s t p.6)

  module _ (b : List ℕ) (x : ℕ) (f : Facing a b (head_of place) older_turned s x) where
    abbrev older_faces : (levels : List ℕ) (lo mid hi : ℕ) (l k : List Recorded) → Joinable levels a place lo mid hi l k s t → Faces levels a b (head_of place) older_turned lo mid l s x
    older_faces levels lo mid hi l k g = f levels lo mid l (older_turns gap narrow levels a place lo mid hi l k s t g)

    pub join_newer : Ready a place s t → (levels : List ℕ) × (lo : ℕ) × (hi : ℕ) × (l : List Recorded) × Turns levels b (head_of (place + 1)) newer_turned lo hi l
    join_newer p =
        (p.0, p.2, p.3, p.5, newer_turns gap narrow p.0 a place p.1 p.2 p.3 p.4 p.5 s t p.6 b x (older_faces p.0 p.1 p.2 p.3 p.4 p.5 p.6))

    module _ (c : List ℕ) (y : ℕ) (h : Facing b c (head_of (place + 1)) newer_turned t y) where
      abbrev newer_faces : (levels : List ℕ) (lo mid hi : ℕ) (l k : List Recorded) → Joinable levels a place lo mid hi l k s t → Faces levels b c (head_of (place + 1)) newer_turned mid hi k t y
      newer_faces levels lo mid hi l k g =
          h levels mid hi k (newer_turns gap narrow levels a place lo mid hi l k s t g b x (older_faces levels lo mid hi l k g))

      pub join_merges : Ready a place s t → (xs : List ℕ) × (ys : List ℕ) × Mergeable gap c x y 0 xs ys
      join_merges p =
          (_, _, join_mergeable gap narrow p.0 a place p.1 p.2 p.3 p.4 p.5 s t p.6 b x (older_faces p.0 p.1 p.2 p.3 p.4 p.5 p.6) c y (newer_faces p.0 p.1 p.2 p.3 p.4 p.5 p.6))

      module _ (d : List ℕ) (m : (xs ys : List ℕ) → Mergeable gap c x y 0 xs ys → Merged gap c d x y 0 xs ys) where
        pub join_done : (e : List ℕ) → Copied d 0 (head_of place) e → (levels : List ℕ) (lo mid hi : ℕ) (l k : List Recorded) → Joinable levels a place lo mid hi l k s t → Joined gap levels a e place lo mid hi l k s t
        join_done e copied levels lo mid hi l k g =
            let f₁ = older_faces levels lo mid hi l k g in
            let h₁ = newer_faces levels lo mid hi l k g in
            joined gap narrow levels a place lo mid hi l k s t g b x f₁ c y h₁ d (m _ _ (join_mergeable gap narrow levels a place lo mid hi l k s t g b x f₁ c y h₁)) e copied
