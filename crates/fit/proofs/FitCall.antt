-- The fit call's ways out: a refusal answers its number and leaves the buffers, and a taken call means demand 3 of what it answers and writes.
-- Which way it goes is the law of any call on a face, and the pick among the root's items decides for all layouts.
use mathlib.Core.Path.{◌≡◌, refl, sym, ap, subst, ◌∙◌}
use mathlib.Core.List.{List}
use Prim.Native.Nat.{ℕ, ◌*◌, ◌≤◌}
use native.Mathlib.Omega.{arith}
use lib.ListN.{length}
use Rattle.checks.specs.Check.{number_of}
use Rattle.checks.specs.declared.Check.{Check}
use Rattle.checks.specs.declared.Check.TheVariants.{Fits}
use Rattle.checks.specs.Limits.{most_rib, buffer_words}
use Rattle.checks.specs.Answer.{Answer, refused, taken, Asked, also}
use Rattle.checks.proofs.Answers.{number_positive, not_both, same_taken, also_taken, RefusedBy, refused_weaker, also_refused}
use Rattle.checks.proofs.FileChecks.{FileCheck, file_not_fits}
use Rattle.slicing.specs.Item.{height, width}
use Rattle.slicing.specs.Tree.{Tree, gauge_count, size_count}
use Rattle.slicing.specs.Shapes.{shapes}
use Rattle.slicing.specs.Layout.{Outline, outline}
use Rattle.slicing.specs.Fit.{Pick, nothing, picked, smallest, place}
use Rattle.slicing.specs.FitMeans.{NothingFits, FitMeans}
use Rattle.slicing.proofs.Demand3.{demand_3}
use Rattle.facefile.specs.declared.Counts.{Counts}
use Rattle.facefile.specs.Format.{face_of}
use Rattle.facefile.specs.Summary.{counted}
use Rattle.facefile.proofs.Refused.{face_refused}
use Rattle.facefile.proofs.Taken.{face_taken}
use Rattle.lent.specs.Lent.{Lent, lent}
use Rattle.lent.specs.Questions.{levels_lent, rib_given, opening_given, buffers_lent, output_lent}
use Rattle.lent.proofs.Asking.{Levelled, levels_taken, rib_taken, buffers_taken, output_taken, levels_refused, rib_refused, opening_refused, buffers_refused, output_refused}
use Rattle.lent.proofs.Calling.{call_refused, counts_of, CountedFace, call_no_file, called, call_no_asked, call_goes}
use Rattle.entries.specs.declared.kinds.Kind.{Kind}
use Rattle.parts.specs.inside.Building.{Buildable, Whole}
use Rattle.shapes.proofs.RootLaws.{root_list}
use Rattle.placing.specs.declared.Fitted.{Fitted}
use Rattle.placing.specs.Found.{no_face, face_found, face_words}
use Rattle.fit.specs.Fitting.{fit_asks, fit_checks}
use Rattle.placing.specs.inside.Facing.{Placeable, PlacedIn}
use Rattle.fit.specs.Demand3.{Demand3}
use Rattle.fit.specs.Promise.{FitLeaves}

-- Not 19's check.
abbrev NotFits : Check → Type 0
NotFits c = number_of c ≡ number_of Fits → ⊥

-- Demand 3 of a refusal by a check before 19, and of what was picked of a face.
demand_refused : (c : Check) → NotFits c → (rib : ℕ) (o : Outline) (r : Fitted) (old : List ℕ) → r ≡ no_face (number_of c) → Demand3 (refused c) rib o r old old
demand_refused c other rib o r old e =
    let n = ap (λ (x : Fitted). x.number) e in
    let some = number_positive c in
    record {
      returned = λ zero. absurd (omega arith);
      nothing_fits = λ none. absurd (other (sym n ∙ none));
      exactly_then = λ t taken_too none. absurd (not_both c t taken_too);
    }

demand_picked : (rib : ℕ) (t : Tree) (o : Outline) (pick : Pick) → FitMeans rib t o pick → smallest o (shapes rib t) ≡ pick → (r : Fitted) (old output : List ℕ) → r ≡ face_found rib t pick → output ≡ face_words rib t pick old → Demand3 (taken t) rib o r old output
demand_picked rib t o nothing means pick r old output e w =
    let n = ap (λ (x : Fitted). x.number) e in
    record {
      returned = λ zero. absurd (omega arith);
      nothing_fits = λ none. (t, refl, means);
      exactly_then = λ u same none. n;
    }
demand_picked rib t o (picked z) means pick r old output e w =
    let n = ap (λ (x : Fitted). x.number) e in
    let h : r.height ≡ height z = ap (λ (x : Fitted). x.height) e in
    let v : r.width ≡ width z = ap (λ (x : Fitted). x.width) e in
    let a : r.area ≡ height z * width z = ap (λ (x : Fitted). x.area) e in
    record {
      returned = λ zero. (
        t,
        refl,
        (
          z,
          record {
            pick = pick;
            written = w;
            fits = means;
            height_is = h ∙ sym means.own_height;
            width_is = v ∙ sym means.own_width;
            area_is = a ∙ sym (ap (λ (x : ℕ). x * r.width) h ∙ ap (λ (x : ℕ). height z * x) v);
          },
        ),
      );
      nothing_fits = λ none. absurd (omega arith);
      exactly_then = λ u same none.
          absurd
          ((subst (λ (x : Tree). NothingFits rib x o) (sym (same_taken t u same)) none).none (place rib t z 0 0) means.legal means.inside);
    }

-- No check before 19 is 19's.
asks_refused : (n room : ℕ) (levels : List ℕ) (rib h w arena scratch output : ℕ) → RefusedBy NotFits (fit_asks n room levels rib (outline h w) arena scratch output)
unfolding fit_asks
asks_refused n room levels rib h w arena scratch output =
    also_refused NotFits (levels_lent n levels) _ (levels_refused NotFits n levels (λ e. omega arith) (λ e. omega arith))
    (also_refused NotFits (rib_given rib) _ (rib_refused NotFits rib (λ e. omega arith))
    (also_refused NotFits (opening_given (outline h w)) _ (opening_refused NotFits h w (λ e. omega arith))
    (also_refused NotFits (buffers_lent buffer_words arena scratch) _ (buffers_refused NotFits buffer_words arena scratch (λ e. omega arith))
    (output_refused NotFits room output (λ e. omega arith)))))

-- What was asked of a face of n sizes, where all was answered "yes".
module _ (n room : ℕ) (levels : List ℕ) (rib h w arena scratch output : ℕ) where
  pub record Lended : Type 0 where
    pub levelled : Levelled n levels
    pub narrow : rib ≤ most_rib
    pub arena_long : buffer_words ≤ arena
    pub scratch_long : buffer_words ≤ scratch
    pub long : room ≤ output

  pub asks_taken : fit_asks n room levels rib (outline h w) arena scratch output ≡ taken tt → Lended
  unfolding fit_asks
  asks_taken e =
      let words = also (buffers_lent buffer_words arena scratch) (output_lent room output) in
      let first = also_taken (levels_lent n levels) (also (rib_given rib) (also (opening_given (outline h w)) words)) tt e in
      let second = also_taken (rib_given rib) (also (opening_given (outline h w)) words) tt first.1 in
      let given = also_taken (opening_given (outline h w)) words tt second.1 in
      let rest = also_taken (buffers_lent buffer_words arena scratch) (output_lent room output) tt given.1 in
      let long = buffers_taken buffer_words arena scratch rest.0 in
      record {
        levelled = levels_taken n levels first.0;
        narrow = rib_taken rib second.0;
        arena_long = long.0;
        scratch_long = long.1;
        long = output_taken room output rest.1;
      }

-- Then the face's list can be built in the arena.
module _ (file levels : List ℕ) (rib h w : ℕ) (arena : List ℕ) (t : Tree) (face : face_of file ≡ taken t) where
  pub lended_builds : (room scratch output : ℕ) → Lended (size_count t) room levels rib h w (length arena) scratch output → Buildable file levels rib arena
  lended_builds room scratch output all =
      record {
        tree = t;
        face = face;
        as_many = all.levelled.as_many;
        low = all.levelled.low;
        high = all.levelled.high;
        narrow = all.narrow;
        long = all.arena_long;
      }

module _ (file levels : List ℕ) (rib h w : ℕ) (arena scratch output : List ℕ) where
  abbrev o : Outline
  o = outline h w

  abbrev old : Lent
  old = lent arena scratch output

  abbrev answer : Answer Tree
  answer = fit_checks (face_of file) levels rib o old

  abbrev asked : Counts → Asked
  asked n = fit_asks n.sizes (5 * n.gauges) levels rib o (length arena) (length scratch) (length output)

  before_fits : RefusedBy NotFits answer
  unfolding fit_checks
  before_fits =
      call_refused (face_of file) (λ t. asked (counts_of t)) NotFits (refused_weaker FileCheck NotFits file_not_fits (face_of file) (face_refused file))
      (λ t. asks_refused (size_count t) (5 * gauge_count t) levels rib h w (length arena) (length scratch) (length output))

  refused_all : (c : Check) → answer ≡ refused c → FitLeaves answer levels rib o old (no_face (number_of c)) old
  refused_all c bad =
      let other = subst (λ (a : Answer Tree). RefusedBy NotFits a) bad before_fits in
      subst (λ (a : Answer Tree). FitLeaves a levels rib o old (no_face (number_of c)) old) (sym bad)
      (record {
        answered = refl;
        output = refl;
        arena = refl;
        scratch = refl;
        demand_3 = demand_refused c other rib o (no_face (number_of c)) output refl;
      })

  -- Checks 1 to 13.
  pub fit_file : (c : Check) → ◌≡◌ {A = Answer Counts} (refused c) (counted (face_of file)) → FitLeaves answer levels rib o old (no_face (number_of c)) old
  unfolding fit_checks
  fit_file c e = refused_all c (call_no_file (face_of file) asked c e)

  module _ (n : Counts) (read : taken n ≡ counted (face_of file)) where
    abbrev face : CountedFace n (face_of file)
    face = called (face_of file) asked n read

    -- The checks after 13.
    pub fit_asked : (c : Check) → refused c ≡ asked n → FitLeaves answer levels rib o old (no_face (number_of c)) old
    unfolding fit_checks
    fit_asked c e = refused_all c (call_no_asked (face_of file) asked n read c e)

    module _ (passed : taken tt ≡ asked n) where
      abbrev t : Tree
      t = face.tree

      all : Lended (size_count t) (5 * gauge_count t) levels rib h w (length arena) (length scratch) (length output)
      all =
          subst (λ (m : Counts). Lended m.sizes (5 * m.gauges) levels rib h w (length arena) (length scratch) (length output)) face.counts
          (asks_taken n.sizes (5 * n.gauges) levels rib h w (length arena) (length scratch) (length output) (sym passed))

      pub fit_builds : Buildable file levels rib arena
      fit_builds = lended_builds file levels rib h w arena t face.face (5 * gauge_count t) (length scratch) (length output) all

      pub fit_places : Placeable file rib scratch output
      fit_places =
          record {
            tree = t;
            face = face.face;
            narrow = all.narrow;
            long = all.scratch_long;
            room = all.long;
          }

      pub fit_done : (kind : Kind) (arena' scratch' output' : List ℕ) (r : Fitted) → ((t : Tree) → face_of file ≡ taken t → Whole file levels rib arena arena' kind t) → PlacedIn file rib o r output output' → FitLeaves answer levels rib o old r (lent arena' scratch' output')
      unfolding fit_checks PlacedIn
      fit_done kind arena' scratch' output' r whole placed =
          let p = placed t face.face in
          let means = demand_3 rib t (face_taken file t face.face).good o in
          subst (λ (a : Answer Tree). FitLeaves a levels rib o old r (lent arena' scratch' output'))
          (sym (call_goes (face_of file) asked n read passed))
          (record {
            answered = p.answer;
            output = p.written;
            arena = root_list file levels rib arena arena' output kind t face.face (whole t face.face);
            scratch = tt;
            demand_3 = demand_picked rib t o (smallest o (shapes rib t)) means refl r output output' p.answer p.written;
          })
