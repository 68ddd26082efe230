-- The item that a side takes, from what is read of its list.
-- The list searched is the side's shape list by height or by width, so the first item found is the one taken, and turned its place counts from the other end.
use mathlib.Core.Path.{◌≡◌, refl, sym, ap, subst, ◌∙◌}
use mathlib.Core.Bool.{Bool, true, false, false≢true}
use mathlib.Core.List.{List}
use Prim.Native.Nat.{ℕ, ◌+◌, ◌*◌, ◌-◌, ◌%◌, ◌<◌}
use native.Mathlib.Omega.{arith}
use lib.ListN.{length, get_or}
use Rattle.slicing.specs.Item.{Item, size}
use Rattle.slicing.specs.Tree.{Tree}
use Rattle.slicing.specs.Shapes.{shapes}
use Rattle.slicing.specs.Merge.{swap}
use Rattle.slicing.specs.Fit.{no_taller}
use Rattle.entries.specs.declared.kinds.Kind.{Kind}
use Rattle.entries.specs.declared.kinds.Kind.TheVariants.{Gauge, Beside, Stacked}
use Rattle.entries.specs.inside.Kinds.{byte_of}
use Rattle.packed.specs.inside.Packed.{facing, HasList}
use Rattle.packed.specs.declared.stretch.Stretch.{Stretch}
use Rattle.packed.proofs.Reading.{turn_at}
use Rattle.packed.proofs.Merging.{Reads}
use Rattle.packed.proofs.StoredLists.{facing_length, facing_low, p_is}
use Rattle.stored.specs.inside.Store.{own_shapes}
use Rattle.stored.specs.inside.PartWords.{stretch_of}
use Rattle.stored.proofs.PartLists.{own_length}
use Rattle.laying.specs.inside.Taking.{HasLow, Searchable, FirstLow, facing_item, goes_up, join_kind, Takable, Takes}
use Rattle.laying.proofs.StretchLaws.{table_inside, way_same, stretch_list, stretch_count, stretch_facing, own_ordered}

turned_at : (upward : Bool) (l : List Item) (count k : ℕ) → upward ≡ true → count ≡ length l → k < length l → get_or (facing upward l) k (size 0 0) ≡ facing_item upward (get_or l (count - 1 - k) (size 0 0))
turned_at true l count k up e h = turn_at l k h ∙ ap (λ (n : ℕ). swap (get_or l (n - 1 - k) (size 0 0))) (sym e)
turned_at false l count k up e h = absurd (false≢true up)

pub not_up : (join : Kind) → (join ≡ Stacked → ⊥) → goes_up join ≡ false
not_up Gauge other = refl
not_up Beside other = refl
not_up Stacked other = absurd (other refl)

-- Some stored part, of which an item can be taken.
abbrev pub Side : List ℕ → ℕ → Bool → ℕ → Type 0
Side s part upward limit = (gap : ℕ) × (t : Tree) × Takable gap s part upward limit t

pub side_ready : (s : List ℕ) (part : ℕ) (upward : Bool) (limit : ℕ) → Side s part upward limit → 4 * part + 3 < length s
side_ready s part upward limit pre = table_inside pre.0 s part pre.1 pre.2.stored

-- With the part's stretch for a join of that kind.
module _ (s : List ℕ) (part : ℕ) (join : Kind) (limit : ℕ) (a : Stretch) (read : a ≡ stretch_of s part (byte_of join)) where
  abbrev upward : Bool
  upward = goes_up join

  a_is : a ≡ stretch_of s part (join_kind upward)
  a_is = read ∙ way_same s part join

  searchable : (gap : ℕ) (t : Tree) → Takable gap s part upward limit t → Searchable s a limit (own_shapes gap t)
  searchable gap t h =
      record {
        list = stretch_list gap s part upward a a_is t h.stored;
        count_is = stretch_count gap s part upward a a_is t h.stored;
        ordered = own_ordered gap t h.good;
        some = subst (HasLow limit) (sym (stretch_facing gap s part upward a a_is t h.stored)) h.some;
      }

  pub can_search : Side s part upward limit → ((l : List Item) × Searchable s a limit l)
  can_search pre = (own_shapes pre.0 pre.1, searchable pre.0 pre.1 pre.2)

  -- With the place that was found.
  module _ (k : ℕ) (found : (l : List Item) → Searchable s a limit l → FirstLow limit (facing a.across l) k) where
    inside : (gap : ℕ) (t : Tree) → Takable gap s part upward limit t → k < a.count
    inside gap t h =
        let ready = searchable gap t h in
        let same = ready.count_is in
        let in_list = (found (own_shapes gap t) ready).in_list in
        omega (arith, facing_length a.across (own_shapes gap t))

    pub found_inside : Side s part upward limit → k < a.count
    found_inside pre = inside pre.0 pre.1 pre.2

    pub can_read_found : Side s part upward limit → ((l : List Item) × HasList s a.from l × (a.count ≡ length l) × (k < a.count))
    can_read_found pre =
        let ready = searchable pre.0 pre.1 pre.2 in
        (own_shapes pre.0 pre.1, ready.list, ready.count_is, found_inside pre)

    -- With the p that is read there.
    module _ (z extent : ℕ) (word : Reads s a k z) (p_read : extent ≡ z % 65_536) where
      -- The item found is that of the shape list by height or by width, and its p is what is read.
      record Taken (gap : ℕ) (t : Tree) : Type 0 where
        first : FirstLow limit (facing upward (shapes gap t)) k
        p_same : extent ≡ (get_or (facing upward (shapes gap t)) k (size 0 0)).p
        in_list : k < length (shapes gap t)
        count_is : a.count ≡ length (shapes gap t)

      taken : (gap : ℕ) (t : Tree) → Takable gap s part upward limit t → Taken gap t
      taken gap t h =
          let ready = searchable gap t h in
          let same = stretch_facing gap s part upward a a_is t h.stored in
          let counted = ready.count_is in
          let less = inside gap t h in
          let low = facing_low a.across s a.from (own_shapes gap t) ready.list k (omega arith) in
          let p = p_is (get_or (facing a.across (own_shapes gap t)) k (size 0 0)) z extent low (word (own_shapes gap t) ready.list counted) p_read in
          record {
            first = subst (λ (l : List Item). FirstLow limit l k) same (found (own_shapes gap t) ready);
            p_same = subst (λ (l : List Item). extent ≡ (get_or l k (size 0 0)).p) same p;
            in_list = omega (arith, own_length gap t);
            count_is = counted ∙ own_length gap t;
          }

      extent_is : (gap : ℕ) (t : Tree) (r : Taken gap t) → extent ≡ (no_taller limit (facing upward (shapes gap t))).p
      extent_is gap t r = r.p_same ∙ ap (λ (i : Item). i.p) (sym r.first.same)

      pub takes_along : (join ≡ Stacked → ⊥) → (gap : ℕ) (t : Tree) → Takable gap s part upward limit t → Takes gap upward limit t k extent
      takes_along other gap t h =
          let r = taken gap t h in
          let down = not_up join other in
          record { in_list = r.in_list; same = r.first.same ∙ rw down; extent_is = extent_is gap t r }

      pub takes_upward : join ≡ Stacked → (gap : ℕ) (t : Tree) → Takable gap s part upward limit t → Takes gap upward limit t (a.count - 1 - k) extent
      takes_upward stack gap t h =
          let r = taken gap t h in
          let up : upward ≡ true = ap goes_up stack in
          let less = r.in_list in
          let counted = r.count_is in
          record {
            in_list = omega arith;
            same = r.first.same ∙ turned_at upward (shapes gap t) a.count k up counted less;
            extent_is = extent_is gap t r;
          }
