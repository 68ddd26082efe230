-- A stored join, seen as its two parts: where they stand, how many gauges they have, what they take, and the words of the whole as those of both.
-- Side by side and stacked are the same with width for height: what the two parts take comes to the whole's item again.
use mathlib.Core.Path.{◌≡◌, sym, ap, subst, ◌∙◌}
use mathlib.Core.Bool.{Bool, true, false, not}
use mathlib.Core.List.{List, ◌++◌}
use Prim.Native.Nat.{ℕ, ◌+◌, ◌*◌, ◌-◌, ◌^◌, ◌≤◌, ◌<◌, max}
use native.Mathlib.Omega.{arith}
use lib.ListN.{get_or}
use Rattle.slicing.specs.Item.{Item, height, width}
use Rattle.slicing.specs.Tree.{Tree, gauge, beside, stacked, gauge_count}
use Rattle.slicing.specs.Good.{Good}
use Rattle.slicing.specs.Merge.{merge, swap, turn}
use Rattle.slicing.specs.Shapes.{shapes}
use Rattle.slicing.specs.Fit.{no_taller, place, words}
use Rattle.slicing.proofs.Counts.{gauges_joined}
use Rattle.slicing.proofs.ShapeLaws.{shapes_ordered}
use Rattle.slicing.proofs.TurnLaws.{turn_ordered, turn_out}
use Rattle.slicing.proofs.Placing.{Sides, sides}
use Rattle.packed.specs.inside.Packed.{facing}
use Rattle.packed.proofs.StoredLists.{place_in}
use Rattle.entries.specs.declared.kinds.Kind.{Kind}
use Rattle.entries.specs.declared.kinds.Kind.TheVariants.{Gauge}
use Rattle.stored.specs.inside.Store.{Stored}
use Rattle.stored.specs.inside.PartWords.{kind_read}
use Rattle.laying.specs.inside.Taking.{facing_item, goes_up}
use Rattle.laying.specs.inside.Laying.{shape_at, moved_by, Layable}

-- What a part takes for the item z of the whole.
abbrev pub side : ℕ → Bool → Item → Tree → Item
side gap upward z t = no_taller (facing_item upward z).m (facing upward (shapes gap t))

-- The words of a part that is laid out with an item, its lower left corner at x, y.
abbrev pub words_of : ℕ → Tree → Item → ℕ → ℕ → List ℕ
words_of gap t z x y = words t (place gap t z x y)

-- A stored join as its two parts: where they stand, what they take for the item at place k, and the words of the whole with its lower left corner at x, y.
pub record View (gap : ℕ) (s : List ℕ) (part : ℕ) (upward : Bool) (t : Tree) (k x y : ℕ) : Type 0 where
  pub a : Tree
  pub b : Tree
  pub in_table : part < 127
  pub older : Stored gap s (part - 2 * gauge_count b) a
  pub newer : Stored gap s (part - 1) b
  pub good_a : Good a
  pub good_b : Good b
  pub enough : 2 * gauge_count t ≤ part + 2
  pub count : gauge_count t ≡ gauge_count a + gauge_count b
  pub both : Sides gap (facing upward (shapes gap a)) (facing upward (shapes gap b)) (facing_item upward (shape_at gap t k))
  pub whole :
      words_of gap t (shape_at gap t k) x y
      ≡ words_of gap a (facing_item upward (side gap upward (shape_at gap t k) a)) x y
      ++ words_of gap b (facing_item upward (side gap upward (shape_at gap t k) b)) (moved_by (not upward) x ((side gap upward (shape_at gap t k) a).p + gap)) (moved_by upward y ((side gap upward (shape_at gap t k) a).p + gap))

module _ {gap : ℕ} {s : List ℕ} {part k x y : ℕ} {out : List ℕ} where
  view_beside : (a b : Tree) → Layable gap s part (beside a b) k x y out → View gap s part false (beside a b) k x y
  unfolding shapes place
  view_beside a b h =
      let z = shape_at gap (beside a b) k in
      record {
        a = a;
        b = b;
        in_table = h.stored.0.inside;
        older = h.stored.3;
        newer = h.stored.2;
        good_a = h.good.0;
        good_b = h.good.1;
        enough = h.stored.1;
        count = gauges_joined a b;
        both = sides gap (shapes gap a) (shapes gap b) (shapes_ordered gap a h.good.0) (shapes_ordered gap b h.good.1) z (place_in (shapes gap (beside a b)) k h.in_list);
        whole =
            let past : x + (side gap false z a).p + gap ≡ x + ((side gap false z a).p + gap) = omega arith in
            ap (λ (n : ℕ). words_of gap a (side gap false z a) x y ++ words_of gap b (side gap false z b) n y) past;
      }

  view_stacked : (a b : Tree) → Layable gap s part (stacked a b) k x y out → View gap s part true (stacked a b) k x y
  unfolding shapes place
  view_stacked a b h =
      let z = shape_at gap (stacked a b) k in
      record {
        a = a;
        b = b;
        in_table = h.stored.0.inside;
        older = h.stored.3;
        newer = h.stored.2;
        good_a = h.good.0;
        good_b = h.good.1;
        enough = h.stored.1;
        count = gauges_joined a b;
        both =
            sides gap (turn (shapes gap a)) (turn (shapes gap b)) (turn_ordered (shapes gap a) (shapes_ordered gap a h.good.0))
            (turn_ordered (shapes gap b) (shapes_ordered gap b h.good.1)) (swap z)
            (turn_out z (merge gap (turn (shapes gap a)) (turn (shapes gap b))) (place_in (shapes gap (stacked a b)) k h.in_list));
        whole =
            let past : y + (side gap true z a).p + gap ≡ y + ((side gap true z a).p + gap) = omega arith in
            ap (λ (n : ℕ). words_of gap a (swap (side gap true z a)) x y ++ words_of gap b (swap (side gap true z b)) x n) past;
      }

  pub view : {kind : Kind} → kind ≡ kind_read (get_or s (4 * part + 2) 0) → (kind ≡ Gauge → ⊥) → (t : Tree) → Layable gap s part t k x y out → View gap s part (goes_up kind) t k x y
  view e other (gauge z) h = absurd (other (e ∙ ap kind_read h.stored.0.kind_is))
  view e other (beside a b) h =
      subst (λ (u : Bool). View gap s part u (beside a b) k x y) (sym (ap goes_up (e ∙ ap kind_read h.stored.0.kind_is))) (view_beside a b h)
  view e other (stacked a b) h =
      subst (λ (u : Bool). View gap s part u (stacked a b) k x y) (sym (ap goes_up (e ∙ ap kind_read h.stored.0.kind_is))) (view_stacked a b h)

-- The edges of both parts are within those of the whole; the newer part is past the older's extent and the gap.
pub record Edges (upward : Bool) (a b : Item) (past x y : ℕ) : Type 0 where
  pub past_fits : past < 2 ^ 32
  pub a_across : x + width a < 2 ^ 32
  pub a_up : y + height a < 2 ^ 32
  pub right : moved_by (not upward) x past < 2 ^ 32
  pub above : moved_by upward y past < 2 ^ 32
  pub b_across : moved_by (not upward) x past + width b < 2 ^ 32
  pub b_up : moved_by upward y past + height b < 2 ^ 32

pub edges : (gap : ℕ) (upward : Bool) (z u v a b : Item) (x y : ℕ)
    → u ≡ facing_item upward a → v ≡ facing_item upward b
    → (facing_item upward z).m ≡ max u.m v.m → (facing_item upward z).p ≡ u.p + gap + v.p
    → x + width z < 2 ^ 32 → y + height z < 2 ^ 32
    → Edges upward a b (u.p + gap) x y
edges gap true z u v a b x y e f m p across up =
    let um = ap height e in
    let uw = ap width e in
    let vm = ap height f in
    let vw = ap width f in
    record { past_fits = omega arith; a_across = omega arith; a_up = omega arith; right = omega arith; above = omega arith; b_across = omega arith; b_up = omega arith }
edges gap false z u v a b x y e f m p across up =
    let um = ap height e in
    let uw = ap width e in
    let vm = ap height f in
    let vw = ap width f in
    record { past_fits = omega arith; a_across = omega arith; a_up = omega arith; right = omega arith; above = omega arith; b_across = omega arith; b_up = omega arith }
