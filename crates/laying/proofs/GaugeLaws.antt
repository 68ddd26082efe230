-- A stored part that can be laid out, and the layout of a gauge: its five words.
-- The word read is that of an item of the gauge's list, which is the printed size of the number read, and five stores leave the words after them.
use mathlib.Core.Path.{◌≡◌, refl, sym, ap, ap₂, ◌∙◌}
use mathlib.Core.Bool.{Bool, true, false, true≢false}
use mathlib.Core.List.{List, [], ◌∷◌}
use Prim.Native.Nat.{ℕ, ◌+◌, ◌*◌, ◌/◌, ◌%◌, ◌≤◌, ◌<◌}
use native.Mathlib.Omega.{arith}
use lib.ListN.{length, get_or, set, drop}
use Rattle.slicing.specs.Item.{Item, size, height, width}
use Rattle.slicing.specs.Useful.{index_of, gauge_shapes}
use Rattle.slicing.specs.Tree.{Tree, gauge, beside, stacked, gauge_count}
use Rattle.slicing.specs.Good.{Good}
use Rattle.slicing.specs.Shapes.{shapes}
use Rattle.slicing.specs.Fit.{place}
use Rattle.slicing.proofs.ByPlace.{at_index}
use Rattle.slicing.proofs.Indexes.{index_found}
use Rattle.slicing.proofs.GaugeUseful.{gauge_useful}
use Rattle.packed.specs.inside.Packed.{pack}
use Rattle.packed.proofs.StoredLists.{m_is, p_is}
use denote.Enum.Bare.{sameb}
use Rattle.entries.specs.contracts.kinds.Kind.{the_type}
use Rattle.entries.specs.declared.kinds.Kind.{Kind}
use Rattle.entries.specs.declared.kinds.Kind.TheVariants.{Gauge, Beside, Stacked}
use Rattle.stored.specs.inside.Store.{Stored}
use Rattle.stored.specs.inside.PartWords.{kind_read}
use Rattle.laying.specs.inside.Laying.{shape_at, GaugePlace, Layable, laid}
use Rattle.laying.proofs.StretchLaws.{table_inside}
use Rattle.laying.proofs.SizeNumbers.{AtPlace, NumberIs}
use Rattle.laying.proofs.ShapeReading.{Place, shape_low}

-- The code's test for a gauge.
pub is_gauge : (k : Kind) (b : Bool) → b ≡ sameb the_type k Gauge → b ≡ true → k ≡ Gauge
is_gauge Gauge b e f = refl
is_gauge Beside b e f = absurd (true≢false (sym f ∙ e))
is_gauge Stacked b e f = absurd (true≢false (sym f ∙ e))

pub not_gauge : (k : Kind) (b : Bool) → b ≡ sameb the_type k Gauge → b ≡ false → k ≡ Gauge → ⊥
not_gauge Gauge b e f g = true≢false (sym e ∙ f)
not_gauge Beside b e f g = cc
not_gauge Stacked b e f g = cc

-- The word of the item at the place of the part's list.
abbrev pub Word : List ℕ → ℕ → ℕ → ℕ → Type 0
Word s part k z = (gap : ℕ) (t : Tree) → Stored gap s part t → k < length (shapes gap t) → z ≡ pack (shape_at gap t k)

-- Some part that can be laid out.
abbrev pub Ready : ℕ → List ℕ → ℕ → ℕ → ℕ → ℕ → List ℕ → Type 0
Ready gap s part k x y out = (t : Tree) × Layable gap s part t k x y out

-- Any such part, laid out, leaves the output as `last`.
abbrev pub Lays : ℕ → List ℕ → ℕ → ℕ → ℕ → ℕ → List ℕ → List ℕ → Type 0
Lays gap s part k x y out last = (t : Tree) → Layable gap s part t k x y out → last ≡ laid gap t k x y out

-- The stores of a gauge's five words, and its words.
five_words : (out : List ℕ) (a b c d e : ℕ) → 5 ≤ length out → set (set (set (set (set out 0 a) 1 b) 2 c) 3 d) 4 e ≡ a ∷ b ∷ c ∷ d ∷ e ∷ drop 5 out
five_words (v ∷ w ∷ x ∷ y ∷ z ∷ out) a b c d e h = refl
five_words (v ∷ w ∷ x ∷ y ∷ []) a b c d e h = absurd (omega arith)
five_words (v ∷ w ∷ x ∷ []) a b c d e h = absurd (omega arith)
five_words (v ∷ w ∷ []) a b c d e h = absurd (omega arith)
five_words (v ∷ []) a b c d e h = absurd (omega arith)
five_words [] a b c d e h = absurd (omega arith)

pub gauge_words : (out : List ℕ) (n x y z w h : ℕ) → 5 ≤ length out → w ≡ z % 65_536 → h ≡ z / 65_536 → set (set (set (set (set out 0 n) 1 x) 2 y) 3 w) 4 h ≡ n ∷ x ∷ y ∷ (z % 65_536) ∷ (z / 65_536) ∷ drop 5 out
gauge_words out n x y z w h room e f = five_words out n x y w h room ∙ rw (e, f)

module _ {gap : ℕ} {s : List ℕ} {part k x y : ℕ} {out : List ℕ} where
  pub ready_inside : Ready gap s part k x y out → 4 * part + 3 < length s
  ready_inside pre = table_inside gap s part pre.0 pre.1.stored

  pub ready_item : Ready gap s part k x y out → Place s part k
  ready_item pre = (gap, pre.0, pre.1.stored, pre.1.in_list)

  gauge_stored : (sizes : List Item) → Layable gap s part (gauge sizes) k x y out → GaugePlace gap s part sizes k
  unfolding shapes
  gauge_stored sizes h = record { stored = h.stored; few = h.good.few; in_list = h.in_list }

  -- At a gauge, by the kind that is read of the table.
  module _ {kind : Kind} (kind_is : kind ≡ kind_read (get_or s (4 * part + 2) 0)) (one : kind ≡ Gauge) where
    gauge_at : (t : Tree) → Layable gap s part t k x y out → (5 ≤ length out) × AtPlace s part k
    gauge_at (gauge sizes) h = let room = h.room in (omega arith, (gap, sizes, gauge_stored sizes h))
    gauge_at (beside a b) h = let read : kind ≡ Beside = kind_is ∙ ap kind_read h.stored.0.kind_is in cc
    gauge_at (stacked a b) h = let read : kind ≡ Stacked = kind_is ∙ ap kind_read h.stored.0.kind_is in cc

    pub gauge_room : Ready gap s part k x y out → 5 ≤ length out
    gauge_room pre = (gauge_at pre.0 pre.1).0

    pub gauge_place : Ready gap s part k x y out → AtPlace s part k
    gauge_place pre = (gauge_at pre.0 pre.1).1

    pub gauge_laid : {z n : ℕ} {last : List ℕ} → Word s part k z → NumberIs s part k n → last ≡ n ∷ x ∷ y ∷ (z % 65_536) ∷ (z / 65_536) ∷ drop 5 out → Lays gap s part k x y out last
    unfolding shapes laid place
    gauge_laid {z} {n} {last} word number written (gauge sizes) h =
        let item = get_or (gauge_shapes sizes) k (size 0 0) in
        let low = shape_low gap s part k (gauge sizes) h.stored h.in_list in
        let same_word = word gap (gauge sizes) h.stored h.in_list in
        let m_same : z / 65_536 ≡ height item = m_is item z (z / 65_536) low same_word refl in
        let p_same : z % 65_536 ≡ width item = p_is item z (z % 65_536) low same_word refl in
        let numbered = number gap sizes (gauge_stored sizes h) in
        let printed = (gauge_useful sizes).sizes.from_size item (at_index (gauge_shapes sizes) k (size 0 0) h.in_list) in
        let found = (index_found item sizes (size 0 0) printed).same in
        written
        ∙ ap (λ (i : ℕ). i ∷ x ∷ y ∷ (z % 65_536) ∷ (z / 65_536) ∷ drop 5 out) numbered
        ∙ ap₂ (λ (w v : ℕ). (index_of item sizes + 1) ∷ x ∷ y ∷ w ∷ v ∷ drop 5 out) p_same m_same
        ∙ ap (λ (i : Item). (index_of item sizes + 1) ∷ x ∷ y ∷ width i ∷ height i ∷ drop 5 out) (sym found)
    gauge_laid word number written (beside a b) h = let read : kind ≡ Beside = kind_is ∙ ap kind_read h.stored.0.kind_is in cc
    gauge_laid word number written (stacked a b) h = let read : kind ≡ Stacked = kind_is ∙ ap kind_read h.stored.0.kind_is in cc

-- A whole face is laid out from 0, 0: its items are below 65,536.
pub root_layable : (gap : ℕ) (s : List ℕ) (part : ℕ) (t : Tree) (k : ℕ) (out : List ℕ) → Stored gap s part t → Good t → k < length (shapes gap t) → 5 * gauge_count t ≤ length out → Layable gap s part t k 0 0 out
root_layable gap s part t k out h good inside room =
    let low = shape_low gap s part k t h inside in
    record {
      stored = h;
      good = good;
      in_list = inside;
      room = room;
      across = omega arith;
      up = omega arith;
    }
