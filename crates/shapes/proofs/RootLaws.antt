-- The list that was built for a face is the root's list, and its items are the face's outer sizes, or those turned where the root is stacked.
-- A part runs by height unless its root is stacked, and a linked and ordered list is a lazy list.
use mathlib.Core.Path.{◌≡◌, refl, sym, ap, subst, ◌∙◌}
use mathlib.Core.List.{List, []}
use Prim.Native.Nat.{ℕ, ◌+◌, ◌*◌, ◌-◌, ◌≤◌}
use native.Mathlib.Omega.{arith}
use lib.ListN.{length, length-map}
use Rattle.checks.specs.Answer.{taken}
use Rattle.checks.proofs.Answers.{same_taken}
use Rattle.slicing.specs.Item.{Item}
use Rattle.slicing.specs.Merge.{turn}
use Rattle.slicing.specs.Tree.{Tree, gauge, beside, stacked, gauge_count, size_count}
use Rattle.slicing.specs.Good.{Ordered}
use Rattle.slicing.specs.Shapes.{shapes}
use Rattle.slicing.specs.Recorded.{Recorded, items, part_recorded}
use Rattle.slicing.proofs.RecordedLaws.{items_turn, items_shapes}
use Rattle.slicing.proofs.PartLists.{part_gauge, part_beside, shapes_stacked, part_ordered, part_few}
use Rattle.slicing.proofs.TurnLaws.{turn_length}
use Rattle.facefile.specs.Format.{face_of}
use Rattle.facefile.proofs.Taken.{face_taken}
use Rattle.arena.specs.Lazy.{held}
use Rattle.arena.proofs.Frames.{all_map}
use Rattle.arena.proofs.ListLaws.{held_length}
use Rattle.holding.proofs.Holds.{holds_lazy}
use Rattle.entries.specs.inside.Kinds.{byte_of, last_kind, kind_of}
use Rattle.entries.specs.declared.kinds.Kind.{Kind}
use Rattle.entries.specs.declared.kinds.Kind.TheVariants.{Stacked}
use Rattle.entries.proofs.KindLaws.{kind_same, last_number}
use Rattle.parts.specs.inside.Building.{Whole}
use Rattle.parts.proofs.PartLaws.{part_length, part_level}
use Rattle.lent.specs.Lent.{written_over}
use Rattle.shapes.specs.Listing.{RootList}
use Rattle.writing.specs.Words.{list_words}
use Rattle.writing.specs.inside.Writing.{Listable}
use Rattle.shapes.specs.inside.Taken.{Writable, WroteFace, Wrote}

by_height : (gap : ℕ) (t : Tree) → (kind_of t ≡ 0x03 → ⊥) → items (part_recorded gap 1 t) ≡ shapes gap t
by_height gap (gauge s) other = ap items (part_gauge gap 1 s) ∙ items_shapes gap 1 (gauge s)
by_height gap (beside a b) other = ap items (part_beside gap 1 a b) ∙ items_shapes gap 1 (beside a b)
by_height gap (stacked a b) other = absurd (other refl)

by_width : (gap : ℕ) (t : Tree) → kind_of t ≡ 0x03 → turn (items (part_recorded gap 1 t)) ≡ shapes gap t
by_width gap (gauge s) e = absurd (omega arith)
by_width gap (beside a b) e = absurd (omega arith)
by_width gap (stacked a b) e =
    sym (items_turn (part_recorded gap 1 (stacked a b))) ∙ ap items (sym (shapes_stacked gap 1 a b)) ∙ items_shapes gap 1 (stacked a b)

module _ (file levels : List ℕ) (rib : ℕ) (a b out : List ℕ) (kind : Kind) (t : Tree) (face : face_of file ≡ taken t) (w : Whole file levels rib a b kind t) where
  abbrev list : List ℕ
  list = w.part.list

  few : length list + gauge_count t ≤ size_count t + 1
  few =
      let same = part_length levels b b 0 1 (1 + size_count t) (part_recorded rib 1 t) w.part in
      let short = part_few rib 1 t (face_taken file t face).good in
      omega arith

  few_records : length list ≤ 512
  few_records = let f = few in let s = (face_taken file t face).most in let g = (face_taken file t face).some in omega arith

  pub root_listable : 2 * (size_count t - gauge_count t + 1) ≤ length out → Listable b 0 list out
  root_listable room =
      let f = few in
      let least = (face_taken file t face).least in
      record { linked = w.part.built.linked; few = few_records; room = omega arith }

  pub root_list : RootList levels rib b t
  root_list =
      let most = (face_taken file t face).most in
      record {
        holds =
            holds_lazy b list w.part.built.linked w.part.backed (all_map list (λ x i. let u = i.1 in omega arith) w.part.inside) few_records
            (subst (λ (l : List Recorded). Ordered (items l)) (sym w.part.holds) (part_ordered rib 1 t (face_taken file t face).good))
            ∙ ap taken w.part.holds;
        level_is = part_level levels b 0 1 (1 + size_count t) (part_recorded rib 1 t) w.part;
      }

  -- What each way of writing leaves.
  module _ (count : ℕ) (out' : List ℕ) (counted : count ≡ length list) where
    length_shapes : (l : List Item) → l ≡ shapes rib t → length l ≡ length list → count ≡ length (shapes rib t)
    length_shapes l e n = counted ∙ sym n ∙ ap length e

    wrote_height : (kind ≡ Stacked → ⊥) → out' ≡ written_over (list_words (items (held b 0 [] list))) out → WroteFace levels rib out b out' count t
    wrote_height other e =
        let same : items (held b 0 [] list) ≡ shapes rib t = ap items w.part.holds ∙ by_height rib t (λ k. other (w.kind_is ∙ kind_same (last_kind t) Stacked (last_number t ∙ k))) in
        record {
          counted = length_shapes (items (held b 0 [] list)) same (length-map (held b 0 [] list) (λ (r : Recorded). r.item) ∙ held_length b 0 [] list);
          output = e ∙ ap (λ (l : List Item). written_over (list_words l) out) same;
          root = root_list;
        }

    wrote_width : kind ≡ Stacked → out' ≡ written_over (list_words (turn (items (held b 0 [] list)))) out → WroteFace levels rib out b out' count t
    wrote_width stack e =
        let same : turn (items (held b 0 [] list)) ≡ shapes rib t = ap (λ (l : List Recorded). turn (items l)) w.part.holds ∙ by_width rib t (sym (last_number t) ∙ ap byte_of (sym w.kind_is ∙ stack)) in
        record {
          counted = length_shapes (turn (items (held b 0 [] list))) same (turn_length (items (held b 0 [] list)) ∙ length-map (held b 0 [] list) (λ (r : Recorded). r.item) ∙ held_length b 0 [] list);
          output = e ∙ ap (λ (l : List Item). written_over (list_words l) out) same;
          root = root_list;
        }

-- The calls of the function, and its two ways out.
module _ (file levels : List ℕ) (rib : ℕ) (a b out : List ℕ) (kind : Kind) (whole : (t : Tree) → face_of file ≡ taken t → Whole file levels rib a b kind t) where
  pub writes_ready : Writable file levels rib a out → (rs : List ℕ) × Listable b 0 rs out
  writes_ready p =
      let t = p.ready.tree in
      let face = p.ready.face in
      let w = whole t face in
      (w.part.list, root_listable file levels rib a b out kind t face w p.room)

  pub writes_few : Writable file levels rib a out → (count : ℕ) → ((rs : List ℕ) → Listable b 0 rs out → count ≡ length rs) → count ≤ 512
  writes_few p count counted =
      let ready = writes_ready p in
      let e = counted ready.0 ready.1 in
      let few = ready.1.few in
      omega arith

  module _ (p : Writable file levels rib a out) (count : ℕ) (out' : List ℕ) where
    same_room : (t : Tree) → face_of file ≡ taken t → 2 * (size_count t - gauge_count t + 1) ≤ length out
    same_room t e =
        subst (λ (x : Tree). 2 * (size_count x - gauge_count x + 1) ≤ length out) (same_taken p.ready.tree t (sym p.ready.face ∙ e)) p.room

    pub writes_height : (kind ≡ Stacked → ⊥) → ((rs : List ℕ) → Listable b 0 rs out → (count ≡ length rs) × (out' ≡ written_over (list_words (items (held b 0 [] rs))) out)) → Wrote file levels rib out b out' count
    unfolding Wrote
    writes_height other written t e =
        let w = whole t e in
        let r = written w.part.list (root_listable file levels rib a b out kind t e w (same_room t e)) in
        wrote_height file levels rib a b out kind t e w count out' r.0 other r.1

    pub writes_width : kind ≡ Stacked → ((rs : List ℕ) → Listable b 0 rs out → (count ≡ length rs) × (out' ≡ written_over (list_words (turn (items (held b 0 [] rs)))) out)) → Wrote file levels rib out b out' count
    unfolding Wrote
    writes_width stack written t e =
        let w = whole t e in
        let r = written w.part.list (root_listable file levels rib a b out kind t e w (same_room t e)) in
        wrote_width file levels rib a b out kind t e w count out' r.0 stack r.1
