-- Demand 2 of what the list call leaves, in the demand's own order: the output and the arena of every call that is taken, and that no level is in the list.
-- The call's promise equates them with the definitions, and the laws of shape lists say the rest.
use mathlib.Core.Path.{◌≡◌, refl, sym, ap, subst, ◌∙◌}
use mathlib.Core.List.{List}
use Prim.Native.Nat.{ℕ, ◌*◌}
use lib.ListN.{length, take}
use Rattle.checks.specs.Answer.{Answer, taken, Asked}
use Rattle.checks.proofs.Answers.{same_taken, number_taken}
use Rattle.slicing.specs.Tree.{Tree, gauge, beside, stacked, gauge_count, size_count}
use Rattle.slicing.specs.Merge.{turn}
use Rattle.slicing.specs.Shapes.{shapes}
use Rattle.slicing.specs.Recorded.{Recorded, items, part_recorded}
use Rattle.slicing.proofs.Demand2.{demand_2}
use Rattle.slicing.proofs.PartLists.{part_gauge, part_beside, part_stacked}
use Rattle.slicing.proofs.RecordedLaws.{items_shapes, items_turn}
use Rattle.facefile.specs.Format.{face_of}
use Rattle.facefile.proofs.Taken.{face_taken}
use Rattle.lent.specs.Lent.{Lent}
use Rattle.lent.proofs.Calling.{call_taken}
use Rattle.lent.proofs.Starts.{starts}
use Rattle.shapes.specs.declared.Listed.{Listed}
use Rattle.shapes.specs.Listing.{list_asks, list_call, ListLeaves, ListPromise}
use Rattle.writing.specs.Words.{list_words}
use Rattle.shapes.specs.Demand2.{as_held, ListMeans, ListsAlike}
use Rattle.writing.proofs.WordLaws.{words_length}

-- The items of the arena's list are the outer sizes.
held_list : (gap : ℕ) (t : Tree) → items (part_recorded gap 1 t) ≡ as_held t (shapes gap t)
held_list gap (gauge s) = ap (λ (l : List Recorded). items l) (part_gauge gap 1 s) ∙ items_shapes gap 1 (gauge s)
held_list gap (beside a b) = ap (λ (l : List Recorded). items l) (part_beside gap 1 a b) ∙ items_shapes gap 1 (beside a b)
held_list gap (stacked a b) =
    ap (λ (l : List Recorded). items l) (part_stacked gap 1 a b) ∙ items_turn _ ∙ ap turn (items_shapes gap 1 (stacked a b))

-- A call that answers 0 is taken of the face that its file means.
module _ (face : Answer Tree) (levels : List ℕ) (rib : ℕ) (old : Lent) (r : Listed) (new : Lent) where
  abbrev asks : Tree → Asked
  asks t = list_asks (size_count t) (gauge_count t) levels rib (length old.arena) (length old.scratch) (length old.output)

  pub promise_taken : ListPromise face levels rib old r new → r.number ≡ 0 → (t : Tree) × (face ≡ taken t) × ListLeaves (taken t) levels rib old r new
  unfolding list_call
  promise_taken p zero =
      let is = number_taken (list_call face levels rib old) (sym (ap (λ (x : Listed). x.number) p.answered) ∙ zero) in
      (is.0, (call_taken face asks is.0 is.1).0, subst (λ (a : Answer Tree). ListLeaves a levels rib old r new) is.1 p)

pub list_demand_2 : (file levels : List ℕ) (rib : ℕ) (old : Lent) (r : Listed) (new : Lent) → ListPromise (face_of file) levels rib old r new → r.number ≡ 0 → (t : Tree) × (face_of file ≡ taken t) × ListMeans levels rib old r new t
list_demand_2 file levels rib old r new p zero =
    let is = promise_taken (face_of file) levels rib old r new p zero in
    let t = is.0 in
    let leaves = is.2 in
    let means = demand_2 rib t (face_taken file t is.1).good in (
      t,
      is.1,
      record {
        list = shapes rib t;
        merged = refl;
        written = leaves.output;
        counted = ap (λ (x : Listed). x.count) leaves.answered;
        outer = means.outer;
        short = means.short;
        held = part_recorded rib 1 t;
        holds = leaves.arena.holds;
        same_list = held_list rib t;
        root = leaves.arena;
      },
    )

-- The words that a taken call writes, from the output's start.
words_at_start : (t : Tree) (levels : List ℕ) (rib : ℕ) (old : Lent) (r : Listed) (new : Lent) → ListLeaves (taken t) levels rib old r new → take (2 * r.count) new.output ≡ list_words (shapes rib t)
words_at_start t levels rib old r new leaves =
    let words = list_words (shapes rib t) in
    let count : 2 * r.count ≡ length words = ap (λ (x : Listed). 2 * x.count) leaves.answered ∙ sym (words_length (shapes rib t)) in
    starts (2 * r.count) words old.output new.output leaves.output count

-- "under every table of levels from 1 to 8".
pub levels_alike : (face : Answer Tree) (levels levels₂ : List ℕ) (rib : ℕ) (old old₂ : Lent) (r r₂ : Listed) (new new₂ : Lent) → ListPromise face levels rib old r new → ListPromise face levels₂ rib old₂ r₂ new₂ → r.number ≡ 0 → r₂.number ≡ 0 → ListsAlike r new r₂ new₂
levels_alike face levels levels₂ rib old old₂ r r₂ new new₂ p q zero zero₂ =
    let one = promise_taken face levels rib old r new p zero in
    let two = promise_taken face levels₂ rib old₂ r₂ new₂ q zero₂ in
    let t = one.0 in
    let same : two.0 ≡ t = same_taken two.0 t (sym two.1 ∙ one.1) in
    let other : ListLeaves (taken t) levels₂ rib old₂ r₂ new₂ = subst (λ (u : Tree). ListLeaves (taken u) levels₂ rib old₂ r₂ new₂) same two.2 in
    record {
      same_count = ap (λ (x : Listed). x.count) (one.2.answered ∙ sym other.answered);
      same_output = words_at_start t levels rib old r new one.2 ∙ sym (words_at_start t levels₂ rib old₂ r₂ new₂ other);
      same_arena = one.2.arena.holds ∙ sym other.arena.holds;
    }
