-- The stretch of a stored part: it is that of the part's list, and the list read so is the shape list by height or by width.
-- An entry has a word that is not 0 and so stands in the scratch; a part's list is read one way as for a row, the other as for a stack.
use mathlib.Core.Path.{◌≡◌, refl, sym, ap, subst, ◌∙◌}
use mathlib.Core.Bool.{Bool, true, false}
use mathlib.Core.List.{List}
use Prim.Native.Nat.{ℕ, ◌+◌, ◌*◌, ◌≤◌, ◌<◌}
use native.Mathlib.Omega.{arith}
use lib.Dec.{ltb}
use lib.ListN.{length, get_or, get_or-eq_default}
use borrow.Author.Tests.{ltb-true, ltb-false}
use Rattle.checks.proofs.Cases.{by_test}
use Rattle.slicing.specs.Tree.{Tree, gauge, beside, stacked}
use Rattle.slicing.specs.Good.{Ordered, Good}
use Rattle.slicing.specs.Shapes.{shapes}
use Rattle.slicing.proofs.Depths.{depth_few}
use Rattle.slicing.proofs.ShapeLaws.{shapes_ordered}
use Rattle.slicing.proofs.TurnLaws.{turn_ordered}
use Rattle.entries.specs.declared.kinds.Kind.{Kind}
use Rattle.entries.specs.declared.kinds.Kind.TheVariants.{Gauge, Beside, Stacked}
use Rattle.entries.specs.inside.Kinds.{byte_of, kind_of, across}
use Rattle.packed.specs.inside.Packed.{facing, HasList}
use Rattle.packed.specs.inside.Joining.{read_as}
use Rattle.packed.specs.declared.stretch.Stretch.{Stretch}
use Rattle.stored.specs.inside.Store.{own_shapes, Stored}
use Rattle.stored.specs.inside.PartWords.{stretch_of}
use Rattle.stored.proofs.PartLists.{entry_of, own_beside, own_stacked}
use Rattle.laying.specs.inside.Taking.{goes_up, join_kind}

-- A word that is not 0 is inside.
pub word_inside : (s : List ℕ) (i : ℕ) → 1 ≤ get_or s i 0 → i < length s
word_inside s i h =
    by_test (ltb i (length s)) (ltb-true i (length s))
    (λ over. let none = get_or-eq_default s 0 (ltb-false i (length s) over) in absurd (omega arith))

pub table_inside : (gap : ℕ) (s : List ℕ) (e : ℕ) (t : Tree) → Stored gap s e t → 4 * e + 3 < length s
table_inside gap s e t h =
    let entry = entry_of gap s e t h in
    let same = entry.gauges_is in
    let some = depth_few t in
    word_inside s (4 * e + 3) (omega arith)

-- A join's kind says which way its parts are read.
pub way_same : (s : List ℕ) (e : ℕ) (kind : Kind) → stretch_of s e (byte_of kind) ≡ stretch_of s e (join_kind (goes_up kind))
unfolding across
way_same s e Gauge = refl
way_same s e Beside = refl
way_same s e Stacked = refl

own_facing : (gap : ℕ) (t : Tree) (upward : Bool) → facing (across (kind_of t) (join_kind upward)) (own_shapes gap t) ≡ facing upward (shapes gap t)
own_facing gap t true = own_stacked gap t
own_facing gap t false = own_beside gap t

module _ (gap : ℕ) (s : List ℕ) (e : ℕ) (upward : Bool) (a : Stretch) (a_is : a ≡ stretch_of s e (join_kind upward)) (t : Tree) (h : Stored gap s e t) where
  pub stretch_list : HasList s a.from (own_shapes gap t)
  stretch_list = subst (λ (x : Stretch). HasList s x.from (own_shapes gap t)) (sym a_is) (entry_of gap s e t h).list

  pub stretch_count : a.count ≡ length (own_shapes gap t)
  stretch_count = ap (λ (x : Stretch). x.count) a_is ∙ (entry_of gap s e t h).count_is

  pub stretch_facing : read_as a (own_shapes gap t) ≡ facing upward (shapes gap t)
  stretch_facing =
      ap (λ (x : Stretch). read_as x (own_shapes gap t)) a_is
      ∙ ap (λ (n : ℕ). facing (across n (join_kind upward)) (own_shapes gap t)) (entry_of gap s e t h).kind_is
      ∙ own_facing gap t upward

pub own_ordered : (gap : ℕ) (t : Tree) → Good t → Ordered (own_shapes gap t)
unfolding own_shapes
own_ordered gap (gauge s) h = shapes_ordered gap (gauge s) h
own_ordered gap (beside a b) h = shapes_ordered gap (beside a b) h
own_ordered gap (stacked a b) h = turn_ordered (shapes gap (stacked a b)) (shapes_ordered gap (stacked a b) h)
