-- What is read at a place of a stored part's list is the item at that place of the part's shape list by height.
-- The part's stretch for a row is its list by height, and an item of it is below 65,536 both ways.
use mathlib.Core.Path.{◌≡◌, refl, ap, subst, ◌∙◌}
use mathlib.Core.Bool.{false}
use mathlib.Core.List.{List}
use Prim.Native.Nat.{ℕ, ◌+◌, ◌*◌, ◌<◌}
use native.Mathlib.Omega.{arith}
use lib.ListN.{length, get_or}
use Rattle.slicing.specs.Item.{Item, size}
use Rattle.slicing.specs.Tree.{Tree}
use Rattle.slicing.specs.Shapes.{shapes}
use Rattle.packed.specs.inside.Packed.{pack, HasList}
use Rattle.packed.specs.declared.stretch.Stretch.{Stretch}
use Rattle.packed.proofs.Merging.{Reads}
use Rattle.packed.proofs.StoredLists.{Low, facing_low}
use Rattle.stored.specs.inside.Store.{own_shapes, Stored}
use Rattle.stored.specs.inside.PartWords.{stretch_of}
use Rattle.stored.proofs.PartLists.{own_length}
use Rattle.laying.specs.inside.Laying.{shape_at}
use Rattle.laying.proofs.StretchLaws.{table_inside, stretch_list, stretch_count, stretch_facing}

-- A stored part, and a place of its shape list.
abbrev pub Place : List ℕ → ℕ → ℕ → Type 0
Place s part k = (gap : ℕ) × (t : Tree) × Stored gap s part t × (k < length (shapes gap t))

pub place_ready : (s : List ℕ) (part k : ℕ) → Place s part k → 4 * part + 3 < length s
place_ready s part k pre = table_inside pre.0 s part pre.1 pre.2

module _ (s : List ℕ) (part k : ℕ) (a : Stretch) (a_is : a ≡ stretch_of s part 0x02) where
  pub can_read_shape : Place s part k → ((l : List Item) × HasList s a.from l × (a.count ≡ length l) × (k < a.count))
  can_read_shape pre =
      let gap = pre.0 in
      let t = pre.1 in
      let inside = pre.3 in
      let many = stretch_count gap s part false a a_is t pre.2 in
      (own_shapes gap t, stretch_list gap s part false a a_is t pre.2, many, omega (arith, own_length gap t))

  pub shape_read : (z : ℕ) → Reads s a k z → (gap : ℕ) (t : Tree) → Stored gap s part t → k < length (shapes gap t) → z ≡ pack (shape_at gap t k)
  shape_read z read gap t h inside =
      read (own_shapes gap t) (stretch_list gap s part false a a_is t h) (stretch_count gap s part false a a_is t h)
      ∙ ap (λ (l : List Item). pack (get_or l k (size 0 0))) (stretch_facing gap s part false a a_is t h)

pub shape_low : (gap : ℕ) (s : List ℕ) (part k : ℕ) (t : Tree) → Stored gap s part t → k < length (shapes gap t) → Low (shape_at gap t k)
shape_low gap s part k t h inside =
    let a = stretch_of s part 0x02 in
    subst (λ (l : List Item). Low (get_or l k (size 0 0))) (stretch_facing gap s part false a refl t h)
    (facing_low a.across s a.from (own_shapes gap t) (stretch_list gap s part false a refl t h) k (omega (arith, own_length gap t)))
