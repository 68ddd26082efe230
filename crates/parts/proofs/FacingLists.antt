-- A part's list, turned where it runs the other way than the join, is what the join's definition merges; it can be merged, and the merge is the join's list.
-- Stacked parts run by width and others by height, which is how the list of each is defined.
use mathlib.Core.Path.{◌≡◌, refl, sym, ap, ap₂, subst, ◌∙◌}
use mathlib.Core.List.{List}
use Prim.Native.Nat.{ℕ, ◌+◌, ◌≤◌}
use native.Mathlib.Omega.{arith}
use lib.ListN.{length-append}
use Rattle.checks.specs.Limits.{most_rib}
use Rattle.slicing.specs.Tree.{Tree, gauge, beside, stacked, sizes_of, gauge_count, size_count}
use Rattle.slicing.specs.Good.{Good}
use Rattle.slicing.specs.Recorded.{Recorded, merge_recorded, turn_recorded, shapes_recorded, part_recorded}
use Rattle.slicing.proofs.Depths.{depth_few}
use Rattle.slicing.proofs.PartLists.{part_gauge, part_beside, part_stacked, shapes_stacked, recorded_ordered, turned_ordered, recorded_some, turned_some, recorded_low, turned_low, recorded_few, turned_few}
use Rattle.parts.specs.inside.Part.{Suits}
use Rattle.parts.specs.inside.Joining.{turned_if}
use Rattle.entries.specs.inside.Kinds.{kind_of, last_kind, byte_of, across, Cut, cut_beside, cut_stacked}
use Rattle.entries.specs.declared.kinds.Kind.{Kind}
use Rattle.entries.specs.declared.kinds.Kind.TheVariants.{Beside, Stacked}
use Rattle.entries.proofs.KindLaws.{kind_same}

beside_faces : (gap r : ℕ) (t : Tree) → turned_if (across (kind_of t) 0x02) (part_recorded gap r t) ≡ shapes_recorded gap r t
unfolding across
beside_faces gap r (gauge s) = part_gauge gap r s
beside_faces gap r (beside a b) = part_beside gap r a b
beside_faces gap r (stacked a b) = sym (shapes_stacked gap r a b)

stacked_faces : (gap r : ℕ) (t : Tree) → turned_if (across (kind_of t) 0x03) (part_recorded gap r t) ≡ turn_recorded (shapes_recorded gap r t)
unfolding across
stacked_faces gap r (gauge s) = ap turn_recorded (part_gauge gap r s)
stacked_faces gap r (beside a b) = ap turn_recorded (part_beside gap r a b)
stacked_faces gap r (stacked a b) = part_stacked gap r a b

pub faces_suit : (gap kind : ℕ) (cut : Tree → Tree → Tree) → gap ≤ most_rib → Cut kind cut → (r : ℕ) (t : Tree) → Good t → gauge_count t ≤ 64 → size_count t ≤ 512 → Suits (turned_if (across (kind_of t) kind) (part_recorded gap r t))
faces_suit gap kind cut narrow cut_beside r t good few sizes =
    subst (λ (l : List Recorded). Suits l) (sym (beside_faces gap r t))
    (record {
      ordered = recorded_ordered gap r t good;
      some = λ x i. (recorded_some gap r t good x i).0;
      low = λ x i. let b = recorded_low gap r t narrow good x i in let m = b.0 in let p = b.1 in (omega arith, omega arith);
      few = let f = recorded_few gap r t good in let some = depth_few t in omega arith;
    })
faces_suit gap kind cut narrow cut_stacked r t good few sizes =
    subst (λ (l : List Recorded). Suits l) (sym (stacked_faces gap r t))
    (record {
      ordered = turned_ordered gap r t good;
      some = λ x i. (turned_some gap r t good x i).0;
      low = λ x i. let b = turned_low gap r t narrow good x i in let m = b.0 in let p = b.1 in (omega arith, omega arith);
      few = let f = turned_few gap r t good in let some = depth_few t in omega arith;
    })

pub cut_part : (gap kind : ℕ) (cut : Tree → Tree → Tree) → Cut kind cut → (r mid : ℕ) (a b : Tree) → mid ≡ r + size_count a
    → merge_recorded gap (turned_if (across (kind_of a) kind) (part_recorded gap r a)) (turned_if (across (kind_of b) kind) (part_recorded gap mid b)) ≡ part_recorded gap r (cut a b)
unfolding part_recorded
cut_part gap kind cut cut_beside r mid a b e =
    ap₂ (merge_recorded gap) (beside_faces gap r a) (beside_faces gap mid b ∙ ap (λ (x : ℕ). shapes_recorded gap x b) e)
cut_part gap kind cut cut_stacked r mid a b e =
    ap₂ (merge_recorded gap) (stacked_faces gap r a) (stacked_faces gap mid b ∙ ap (λ (x : ℕ). turn_recorded (shapes_recorded gap x b)) e)

pub cut_sizes : (kind : ℕ) (cut : Tree → Tree → Tree) → Cut kind cut → (a b : Tree) → size_count (cut a b) ≡ size_count a + size_count b
cut_sizes kind cut cut_beside a b = length-append (sizes_of a) (sizes_of b)
cut_sizes kind cut cut_stacked a b = length-append (sizes_of a) (sizes_of b)

pub cut_kind : (kind : Kind) (cut : Tree → Tree → Tree) → Cut (byte_of kind) cut → (a b : Tree) → kind ≡ last_kind (cut a b)
cut_kind kind cut c a b = by (byte_of kind) cut c kind refl
  where
    by : (n : ℕ) (f : Tree → Tree → Tree) → Cut n f → (k : Kind) → n ≡ byte_of k → k ≡ last_kind (f a b)
    by n f cut_beside k e = kind_same k Beside (sym e)
    by n f cut_stacked k e = kind_same k Stacked (sym e)
