-- The layout of a stored join is written: the words of the older part, and then those of the newer.
-- What each part takes is the item at the place handed on, and the newer part's words follow the older's in the stretch that is lent on.
use mathlib.Core.Path.{◌≡◌, refl, sym, ap, subst, ◌∙◌}
use mathlib.Core.Bool.{Bool, true, false, cond, not}
use mathlib.Core.List.{List, [], ◌++◌, append_assoc, append-nil}
use Prim.Native.Nat.{ℕ, ◌+◌, ◌*◌, ◌-◌, ◌/◌, ◌%◌, ◌^◌, ◌≤◌, ◌<◌}
use native.Mathlib.Omega.{arith}
use lib.ListN.{length, get_or, take, drop, length-take, length-drop, drop_of_length-le}
use lib.Seq.{take_at, drop_at, take_all, drop-drop}
use borrow.Rule.Slice.PartMut.{put_mid}
use Rattle.slicing.specs.Item.{Item, height, width}
use Rattle.slicing.specs.Tree.{Tree, gauge_count}
use Rattle.slicing.specs.Shapes.{shapes}
use Rattle.slicing.specs.Fit.{no_taller, place}
use Rattle.slicing.proofs.Depths.{depth_few}
use Rattle.slicing.proofs.Placing.{words_length}
use Rattle.packed.specs.inside.Packed.{pack, facing}
use Rattle.packed.proofs.StoredLists.{Low, m_is, p_is}
use Rattle.entries.specs.declared.kinds.Kind.{Kind}
use Rattle.entries.specs.declared.kinds.Kind.TheVariants.{Gauge}
use Rattle.stored.specs.inside.Store.{Stored}
use Rattle.stored.specs.inside.PartWords.{kind_read}
use Rattle.stored.proofs.PartLists.{entry_of}
use Rattle.laying.specs.inside.Taking.{facing_item, goes_up, Takable, Takes}
use Rattle.laying.specs.inside.Laying.{shape_at, moved_by, Layable, laid}
use Rattle.laying.proofs.StretchLaws.{table_inside}
use Rattle.laying.proofs.ShapeReading.{shape_low}
use Rattle.laying.proofs.TakeLaws.{Side}
use Rattle.laying.proofs.JoinLaws.{side, words_of, view, View, Edges, edges}
use Rattle.laying.proofs.GaugeLaws.{Word, Ready, Lays}

-- What is lent on of a list from a place.
abbrev rest_from : ℕ → List ℕ → List ℕ
rest_from m l = take (length l - m) (drop m l)

-- The list law that puts the newer part's words back.
two_parts : (first second out one two : List ℕ) (m n : ℕ) → length first ≡ m → length second ≡ n → one ≡ first ++ drop m out → two ≡ second ++ drop n (rest_from m one) → put_mid m (length one - m) one two ≡ (first ++ second) ++ drop (m + n) out
two_parts first second out one two m n e f g h =
    let before : take m one ≡ first = ap (λ (l : List ℕ). take m l) g ∙ take_at first (drop m out) m e in
    let after : drop m one ≡ drop m out = ap (λ (l : List ℕ). drop m l) g ∙ drop_at first (drop m out) m e in
    let all : rest_from m one ≡ drop m one = take_all (length one - m) (drop m one) (omega (arith, length-drop m one)) in
    let none : drop (length one - m) (drop m one) ≡ [] = drop_of_length-le (drop m one) {i = length one - m} (omega (arith, length-drop m one)) in
    let rest : two ≡ second ++ drop (m + n) out = h ∙ ap (λ (l : List ℕ). second ++ drop n l) (all ∙ after) ∙ ap (λ (l : List ℕ). second ++ l) (drop-drop n m out) in
    rw (before, none, append-nil, rest) (sym (append_assoc first second (drop (m + n) out)))

limit_same : (upward : Bool) (item : Item) (z limit : ℕ) → Low item → z ≡ pack item → limit ≡ cond upward (z % 65_536) (z / 65_536) → limit ≡ (facing_item upward item).m
limit_same true item z limit low e f = p_is item z limit low e f
limit_same false item z limit low e f = m_is item z limit low e f

facing_back : (upward : Bool) (z : Item) → facing_item upward (facing_item upward z) ≡ z
facing_back true z = refl
facing_back false z = refl

-- What is known at a join: some part can be laid out, it is seen as two, and the word read is its item's, which sets the limit.
pub record Join (gap : ℕ) (s : List ℕ) (part k x y : ℕ) (out : List ℕ) (upward : Bool) (z limit : ℕ) : Type 0 where
  pub ready : Ready gap s part k x y out
  pub seen : (t : Tree) → Layable gap s part t k x y out → View gap s part upward t k x y
  pub word : Word s part k z
  pub limit_is : limit ≡ cond upward (z % 65_536) (z / 65_536)

-- It comes from what is read of the part, of which none says that it is a gauge.
pub seen_join : {gap : ℕ} {s : List ℕ} {part k x y : ℕ} {out : List ℕ} {kind : Kind} {z limit : ℕ} → Ready gap s part k x y out → kind ≡ kind_read (get_or s (4 * part + 2) 0) → (kind ≡ Gauge → ⊥) → Word s part k z → limit ≡ cond (goes_up kind) (z % 65_536) (z / 65_536) → Join gap s part k x y out (goes_up kind) z limit
seen_join ready e other word limit = record { ready = ready; seen = view e other; word = word; limit_is = limit }

-- What the whole's item z makes the two parts take is at the places ka and kb of their lists.
record Took (gap : ℕ) (upward : Bool) (z : Item) (a b : Tree) (ka ea kb : ℕ) : Type 0 where
  in_a : ka < length (shapes gap a)
  in_b : kb < length (shapes gap b)
  side_a : side gap upward z a ≡ facing_item upward (shape_at gap a ka)
  side_b : side gap upward z b ≡ facing_item upward (shape_at gap b kb)
  extent : ea ≡ (side gap upward z a).p

module _ {gap : ℕ} {s : List ℕ} {part k x y : ℕ} {out : List ℕ} {upward : Bool} {z limit : ℕ} (j : Join gap s part k x y out upward z limit) where
  the_view : View gap s part upward j.ready.0 k x y
  the_view = j.seen j.ready.0 j.ready.1

  pub join_some : 1 ≤ part
  join_some = let v = the_view in omega (arith, v.enough, v.count, depth_few v.a, depth_few v.b)

  pub newer_inside : 4 * (part - 1) + 3 < length s
  newer_inside = let v = the_view in table_inside gap s (part - 1) v.b v.newer

  -- With the number of the newer part's gauges.
  module _ {rest : ℕ} (rest_read : rest ≡ get_or s (4 * (part - 1) + 3) 0) where
    rest_is : (t : Tree) (v : View gap s part upward t k x y) → rest ≡ gauge_count v.b
    rest_is t v = rest_read ∙ (entry_of gap s (part - 1) v.b v.newer).gauges_is

    older_stored : (t : Tree) (v : View gap s part upward t k x y) → Stored gap s (part - 2 * rest) v.a
    older_stored t v = subst (λ (n : ℕ). Stored gap s (part - 2 * n) v.a) (sym (rest_is t v)) v.older

    -- The older part stands before all entries of the newer.
    pub newer_count : (part < 127) × (2 * rest ≤ part) × (1 ≤ rest)
    newer_count =
        let v = the_view in
        let same = rest_is j.ready.0 v in
        (v.in_table, omega (arith, v.enough, v.count, depth_few v.a), omega (arith, depth_few v.b))

    first_is : {first : ℕ} → first ≡ get_or s (4 * (part - 2 * rest) + 3) 0 → (t : Tree) (v : View gap s part upward t k x y) → first ≡ gauge_count v.a
    first_is read t v = read ∙ (entry_of gap s (part - 2 * rest) v.a (older_stored t v)).gauges_is

    -- The older part's words fit the output.
    pub first_fits : {first : ℕ} → first ≡ get_or s (4 * (part - 2 * rest) + 3) 0 → (first ≤ 64) × (5 * first ≤ length out)
    first_fits read =
        let v = the_view in
        let same = first_is read j.ready.0 v in
        let room = j.ready.1.room in
        let table = v.in_table in
        (omega (arith, v.enough, v.count), omega (arith, v.count))

    -- Each part has fewer gauges than the whole.
    whole_is : get_or s (4 * part + 3) 0 ≡ gauge_count j.ready.0
    whole_is = (entry_of gap s part j.ready.0 j.ready.1.stored).gauges_is

    older_fewer : {top : ℕ} → get_or s (4 * part + 3) 0 ≡ top → get_or s (4 * (part - 2 * rest) + 3) 0 < top
    older_fewer e =
        let v = the_view in
        let all = whole_is in
        let same = first_is refl j.ready.0 v in
        omega (arith, v.count, depth_few v.b)

    newer_fewer : {top : ℕ} → get_or s (4 * part + 3) 0 ≡ top → get_or s (4 * (part - 1) + 3) 0 < top
    newer_fewer e =
        let v = the_view in
        let all = whole_is in
        let same = rest_is j.ready.0 v in
        omega (arith, v.count, depth_few v.a)

    pub older_inside : 4 * (part - 2 * rest) + 3 < length s
    older_inside = let v = the_view in table_inside gap s (part - 2 * rest) v.a (older_stored j.ready.0 v)

    the_limit : (t : Tree) → Layable gap s part t k x y out → limit ≡ (facing_item upward (shape_at gap t k)).m
    the_limit t h = limit_same upward (shape_at gap t k) z limit (shape_low gap s part k t h.stored h.in_list) (j.word gap t h.stored h.in_list) j.limit_is

    older_takable : (t : Tree) → Layable gap s part t k x y out → (v : View gap s part upward t k x y) → Takable gap s (part - 2 * rest) upward limit v.a
    older_takable t h v =
        let m = v.both.m_is in
        record {
          stored = older_stored t v;
          good = v.good_a;
          some = record { item = side gap upward (shape_at gap t k) v.a; item_in = v.both.first_in; item_low = omega (arith, the_limit t h) };
        }

    newer_takable : (t : Tree) → Layable gap s part t k x y out → (v : View gap s part upward t k x y) → Takable gap s (part - 1) upward limit v.b
    newer_takable t h v =
        let m = v.both.m_is in
        record {
          stored = v.newer;
          good = v.good_b;
          some = record { item = side gap upward (shape_at gap t k) v.b; item_in = v.both.second_in; item_low = omega (arith, the_limit t h) };
        }

    pub older_takes : Side s (part - 2 * rest) upward limit
    older_takes = let v = the_view in (gap, v.a, older_takable j.ready.0 j.ready.1 v)

    pub newer_takes : Side s (part - 1) upward limit
    newer_takes = let v = the_view in (gap, v.b, newer_takable j.ready.0 j.ready.1 v)

    -- With the places and the length that the two parts take.
    module _ {ka ea kb eb : ℕ} (took_a : (g : ℕ) (t : Tree) → Takable g s (part - 2 * rest) upward limit t → Takes g upward limit t ka ea) (took_b : (g : ℕ) (t : Tree) → Takable g s (part - 1) upward limit t → Takes g upward limit t kb eb) where
      took : (t : Tree) → Layable gap s part t k x y out → (v : View gap s part upward t k x y) → Took gap upward (shape_at gap t k) v.a v.b ka ea kb
      took t h v =
          let first = took_a gap v.a (older_takable t h v) in
          let second = took_b gap v.b (newer_takable t h v) in
          let same = the_limit t h in
          record {
            in_a = first.in_list;
            in_b = second.in_list;
            side_a = subst (λ (n : ℕ). no_taller n (facing upward (shapes gap v.a)) ≡ facing_item upward (shape_at gap v.a ka)) same first.same;
            side_b = subst (λ (n : ℕ). no_taller n (facing upward (shapes gap v.b)) ≡ facing_item upward (shape_at gap v.b kb)) same second.same;
            extent = subst (λ (n : ℕ). ea ≡ (no_taller n (facing upward (shapes gap v.a))).p) same first.extent_is;
          }

      the_edges : (t : Tree) → Layable gap s part t k x y out → (v : View gap s part upward t k x y) → Edges upward (shape_at gap v.a ka) (shape_at gap v.b kb) (ea + gap) x y
      the_edges t h v =
          let r = took t h v in
          subst (λ (n : ℕ). Edges upward (shape_at gap v.a ka) (shape_at gap v.b kb) (n + gap) x y) (sym r.extent)
          (edges gap upward (shape_at gap t k) (side gap upward (shape_at gap t k) v.a) (side gap upward (shape_at gap t k) v.b) (shape_at gap v.a ka) (shape_at gap v.b kb) x y
          r.side_a r.side_b v.both.m_is v.both.p_is h.across h.up)

      pub past_fits : ea + gap < 2 ^ 32
      past_fits = (the_edges j.ready.0 j.ready.1 the_view).past_fits

      pub right_fits : moved_by (not upward) x (ea + gap) < 2 ^ 32
      right_fits = (the_edges j.ready.0 j.ready.1 the_view).right

      pub above_fits : moved_by upward y (ea + gap) < 2 ^ 32
      above_fits = (the_edges j.ready.0 j.ready.1 the_view).above

      older_layable : (t : Tree) → Layable gap s part t k x y out → (v : View gap s part upward t k x y) → Layable gap s (part - 2 * rest) v.a ka x y out
      older_layable t h v =
          let e = the_edges t h v in
          record {
            stored = (older_takable t h v).stored;
            good = v.good_a;
            in_list = (took t h v).in_a;
            room = omega (arith, h.room, v.count);
            across = e.a_across;
            up = e.a_up;
          }

      pub lay_older : {top : ℕ} → get_or s (4 * part + 3) 0 ≡ top → (get_or s (4 * (part - 2 * rest) + 3) 0 < top) × Ready gap s (part - 2 * rest) ka x y out
      lay_older e = (older_fewer e, (the_view.a, older_layable j.ready.0 j.ready.1 the_view))

      -- With the number of the older part's gauges, and the output, of which its words are written.
      module _ {first : ℕ} (first_read : first ≡ get_or s (4 * (part - 2 * rest) + 3) 0) {right above : ℕ} (right_is : right ≡ moved_by (not upward) x (ea + gap)) (above_is : above ≡ moved_by upward y (ea + gap)) (one : List ℕ) (kept : length one ≡ length out) where
        newer_layable : (t : Tree) → Layable gap s part t k x y out → (v : View gap s part upward t k x y) → Layable gap s (part - 1) v.b kb right above (rest_from (5 * first) one)
        newer_layable t h v =
            let e = the_edges t h v in
            record {
              stored = v.newer;
              good = v.good_b;
              in_list = (took t h v).in_b;
              room =
                  omega (arith, h.room, first_is first_read t v, v.count, length-take (length one - 5 * first) (drop (5 * first) one), length-drop (5 * first) one);
              across = subst (λ (n : ℕ). n + width (shape_at gap v.b kb) < 2 ^ 32) (sym right_is) e.b_across;
              up = subst (λ (n : ℕ). n + height (shape_at gap v.b kb) < 2 ^ 32) (sym above_is) e.b_up;
            }

        pub lay_newer : {top : ℕ} → get_or s (4 * part + 3) 0 ≡ top → (get_or s (4 * (part - 1) + 3) 0 < top) × Ready gap s (part - 1) kb right above (rest_from (5 * first) one)
        lay_newer e = (newer_fewer e, (the_view.b, newer_layable j.ready.0 j.ready.1 the_view))

        both_words : (t : Tree) → Layable gap s part t k x y out → (v : View gap s part upward t k x y) → words_of gap v.a (shape_at gap v.a ka) x y ++ words_of gap v.b (shape_at gap v.b kb) right above ≡ words_of gap t (shape_at gap t k) x y
        both_words t h v =
            let r = took t h v in
            let same_a = ap (facing_item upward) r.side_a ∙ facing_back upward (shape_at gap v.a ka) in
            let same_b = ap (facing_item upward) r.side_b ∙ facing_back upward (shape_at gap v.b kb) in
            let same_right = right_is ∙ ap (λ (n : ℕ). moved_by (not upward) x (n + gap)) r.extent in
            let same_above = above_is ∙ ap (λ (n : ℕ). moved_by upward y (n + gap)) r.extent in
            rw (← same_a, ← same_b, same_right, same_above) (sym v.whole)

        pub join_laid : {two : List ℕ}
            → Lays gap s (part - 2 * rest) ka x y out one
            → Lays gap s (part - 1) kb right above (rest_from (5 * first) one) two
            → Lays gap s part k x y out (put_mid (5 * first) (length one - 5 * first) one two)
        unfolding laid
        join_laid {two} did_a did_b t h =
            let v = j.seen t h in
            let wa = words_of gap v.a (shape_at gap v.a ka) x y in
            let wb = words_of gap v.b (shape_at gap v.b kb) right above in
            let few : 5 * gauge_count v.a ≡ 5 * first = omega (arith, first_is first_read t v) in
            let all : 5 * first + 5 * gauge_count v.b ≡ 5 * gauge_count t = omega (arith, v.count) in
            let long_a : length wa ≡ 5 * first = words_length v.a (place gap v.a (shape_at gap v.a ka) x y) ∙ few in
            let long_b = words_length v.b (place gap v.b (shape_at gap v.b kb) right above) in
            let laid_a : one ≡ wa ++ drop (5 * first) out = subst (λ (n : ℕ). one ≡ wa ++ drop n out) few (did_a v.a (older_layable t h v)) in
            let laid_b = did_b v.b (newer_layable t h v) in
            two_parts wa wb out one two (5 * first) (5 * gauge_count v.b) long_a long_b laid_a laid_b
            ∙ ap (λ (l : List ℕ). l ++ drop (5 * first + 5 * gauge_count v.b) out) (both_words t h v)
            ∙ ap (λ (n : ℕ). words_of gap t (shape_at gap t k) x y ++ drop n out) all
