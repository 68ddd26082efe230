-- What a taken sheet call leaves, in the paper's own words: the sheet of the fit's layout, whose used and blank add up to its face, in the room that check 18 wants.
-- The call's promise equates the answer and the output with the definitions, and demand 3 says what the layout is.
use mathlib.Core.Path.{◌≡◌, refl, sym, ap, subst, ◌∙◌}
use mathlib.Core.List.{List}
use Prim.Native.Nat.{ℕ, ◌^◌, ◌≤◌, ◌<◌}
use native.Mathlib.Omega.{arith}
use lib.ListN.{length, drop}
use lib.Seq.{drop_at}
use Rattle.checks.specs.Limits.{most_rib}
use Rattle.checks.specs.Answer.{Answer, refused, taken, Asked}
use Rattle.checks.proofs.Answers.{number_positive}
use Rattle.slicing.specs.Item.{Item, height, width}
use Rattle.slicing.specs.Tree.{Tree, gauge_count, size_count}
use Rattle.slicing.specs.Shapes.{shapes}
use Rattle.slicing.specs.Layout.{Layout, Outline, outline}
use Rattle.slicing.specs.Fit.{Pick, nothing, picked, smallest, area, place}
use Rattle.slicing.specs.FitMeans.{FitMeans, FaceFits}
use Rattle.slicing.proofs.Reach.{shapes_most, area_fits}
use Rattle.slicing.proofs.Picking.{PickMeans, pick_means}
use Rattle.slicing.proofs.Demand3.{demand_3}
use Rattle.facefile.specs.Format.{face_of}
use Rattle.facefile.proofs.Taken.{TakenFace, face_taken}
use Rattle.lent.specs.Lent.{Lent, written_over}
use Rattle.lent.specs.Call.{call_on}
use Rattle.lent.proofs.Starts.{starts}
use Rattle.lent.proofs.Calling.{call_taken}
use Rattle.shapes.specs.Listing.{RootList}
use Rattle.fit.specs.Fitting.{fit_asks}
use Rattle.fit.proofs.FitCall.{asks_taken}
use Rattle.covering.specs.Covered.{sizes_in, blank}
use Rattle.materiallines.specs.Lines.{sheet_bytes}
use Rattle.materiallines.proofs.HeldWords.{sizes_count, sizes_limited}
use Rattle.materiallines.proofs.SheetFits.{sheet_fits}
use Rattle.materialsheet.specs.declared.Printed.{Printed}
use Rattle.materialsheet.specs.Sheet.{sheet_of, sheet_checks, sheet_found, sheet_written}
use Rattle.materialsheet.specs.Promise.{SheetLeaves, SheetPromise}
use Rattle.materialsheet.specs.SheetMeans.{SheetMeans}
use Rattle.materialsheet.proofs.PlacedSheet.{adds_up, sheet_by_area}

written_later : (text old : List ℕ) → drop (length text) (written_over text old) ≡ drop (length text) old
unfolding written_over
written_later text old = drop_at text (drop (length text) old) (length text) refl

-- The face that is picked of a file that is taken.
module _ (file : List ℕ) (t : Tree) (face : face_of file ≡ taken t) (rib : ℕ) (narrow : rib ≤ most_rib) (o : Outline) (z : Item) (pick : smallest o (shapes rib t) ≡ picked z) where
  abbrev l : Layout t
  l = place rib t z 0 0

  known : TakenFace file t
  known = face_taken file t face

  picked_fits : FaceFits rib t o z
  picked_fits = subst (FitMeans rib t o) pick (demand_3 rib t known.good o)

  small : area z < 2 ^ 32
  small =
      let best = subst (PickMeans o (shapes rib t)) pick (pick_means o (shapes rib t)) in
      let most = shapes_most rib t narrow known.good known.few z best.in_list in
      area_fits (height z) (width z) most.0 most.1

  few_bytes : length (sheet_of t l) ≤ sheet_bytes (gauge_count t)
  few_bytes =
      let count = sizes_count t l in
      let few = known.few in
      let sum = adds_up rib t o z picked_fits in
      let large = small in
      let same = ap length (sheet_by_area rib t o z picked_fits) in
      omega (arith, sheet_fits (sizes_in t l) (blank t l) (area z) (omega arith) (sizes_limited rib t l known.good picked_fits.legal) (omega arith) large)

  -- What is left of it.
  picked_means : (levels : List ℕ) (old : Lent) (r : Printed) (new : Lent) → r ≡ sheet_found rib t (picked z) → new.output ≡ sheet_written rib t (picked z) old.output → RootList levels rib new.arena t → SheetMeans levels rib o old r new t z
  picked_means levels old r new answered output root =
      let long : r.length ≡ length (sheet_of t l) = ap (λ (x : Printed). x.length) answered in
      let few = few_bytes in
      record {
        pick = pick;
        fits = picked_fits;
        text = starts r.length (sheet_of t l) old.output new.output output long ∙ sheet_by_area rib t o z picked_fits;
        lines = sizes_count t l;
        adds_up = adds_up rib t o z picked_fits;
        few = omega arith;
        later =
            ap (λ (n : ℕ). drop n new.output) long ∙ ap (drop (length (sheet_of t l))) output
            ∙ written_later (sheet_of t l) old.output ∙ ap (λ (n : ℕ). drop n old.output) (sym long);
        root = root;
      }

-- "which check 18 wants 64 bytes long and 32 more a gauge": the text always fits, of any file that is taken, with any rib and in any opening.
pub sheet_room : (file : List ℕ) (t : Tree) → face_of file ≡ taken t → (rib : ℕ) → rib ≤ most_rib → (o : Outline) (z : Item) → smallest o (shapes rib t) ≡ picked z → length (sheet_of t (place rib t z 0 0)) ≤ sheet_bytes (gauge_count t)
sheet_room file t face rib narrow o z pick = few_bytes file t face rib narrow o z pick

-- A call that answers 0 is taken of the face that its file means, and an item of it was picked.
module _ (file levels : List ℕ) (rib h w : ℕ) (old : Lent) (r : Printed) (new : Lent) (zero : r.number ≡ 0) where
  abbrev o : Outline
  o = outline h w

  abbrev Meant : Type 0
  Meant = (t : Tree) × (face_of file ≡ taken t) × ((z : Item) × SheetMeans levels rib o old r new t z)

  abbrev asks : Tree → Asked
  asks t =
      fit_asks (size_count t) (sheet_bytes (gauge_count t)) levels rib o (length old.arena) (length old.scratch) (length old.output)

  by_pick : (t : Tree) → face_of file ≡ taken t → rib ≤ most_rib → SheetLeaves (taken t) levels rib o old r new → (pick : Pick) → smallest o (shapes rib t) ≡ pick → Meant
  by_pick t face narrow leaves nothing e =
      absurd (let n = ap (λ (x : Printed). x.number) (leaves.answered ∙ ap (sheet_found rib t) e) in omega arith)
  by_pick t face narrow leaves (picked z) e = (
    t,
    face,
    (
      z,
      picked_means file t face rib narrow o z e levels old r new (leaves.answered ∙ ap (sheet_found rib t) e)
          (leaves.output ∙ ap (λ (x : Pick). sheet_written rib t x old.output) e) leaves.arena,
    ),
  )

  by_answer : (a : Answer Tree) → call_on (face_of file) asks ≡ a → SheetLeaves a levels rib o old r new → Meant
  by_answer (refused c) e leaves =
      absurd (let n = ap (λ (x : Printed). x.number) leaves.answered in let some = number_positive c in omega arith)
  by_answer (taken t) e leaves =
      let both = call_taken (face_of file) asks t e in
      let all = asks_taken (size_count t) (sheet_bytes (gauge_count t)) levels rib h w (length old.arena) (length old.scratch) (length old.output) both.1 in
      by_pick t both.0 all.narrow leaves (smallest o (shapes rib t)) refl

pub sheet_means : (file levels : List ℕ) (rib h w : ℕ) (old : Lent) (r : Printed) (new : Lent) → SheetPromise (face_of file) levels rib (outline h w) old r new → r.number ≡ 0
    → (t : Tree) × (face_of file ≡ taken t) × ((z : Item) × SheetMeans levels rib (outline h w) old r new t z)
unfolding sheet_checks
sheet_means file levels rib h w old r new p zero =
    by_answer file levels rib h w old r new zero (sheet_checks (face_of file) levels rib (outline h w) old) refl p
