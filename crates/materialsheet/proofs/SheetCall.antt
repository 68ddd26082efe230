-- The sheet call's ways out: a refusal answers its number and leaves the buffers, and a taken call leaves the face's list and its sheet.
-- Which way it goes is the law of any call on a face, and what it asks is the fit call's, with another room.
use mathlib.Core.Path.{◌≡◌, refl, sym, ap, subst}
use mathlib.Core.List.{List}
use Prim.Native.Nat.{ℕ}
use lib.ListN.{length}
use Rattle.checks.specs.Check.{number_of}
use Rattle.checks.specs.declared.Check.{Check}
use Rattle.checks.specs.Answer.{Answer, refused, taken, Asked}
use Rattle.slicing.specs.Tree.{Tree, gauge_count, size_count}
use Rattle.slicing.specs.Layout.{Outline, outline}
use Rattle.facefile.specs.declared.Counts.{Counts}
use Rattle.facefile.specs.Format.{face_of}
use Rattle.facefile.specs.Summary.{counted}
use Rattle.lent.specs.Lent.{Lent, lent}
use Rattle.lent.proofs.Calling.{CountedFace, call_no_file, called, call_no_asked, call_goes}
use Rattle.entries.specs.declared.kinds.Kind.{Kind}
use Rattle.parts.specs.inside.Building.{Buildable, Whole}
use Rattle.shapes.proofs.RootLaws.{root_list}
use Rattle.fit.specs.Fitting.{fit_asks}
use Rattle.fit.proofs.FitCall.{Lended, asks_taken, lended_builds}
use Rattle.materiallines.specs.Lines.{sheet_bytes}
use Rattle.materialsheet.specs.declared.Printed.{Printed}
use Rattle.materialsheet.specs.Sheet.{sheet_checks, no_sheet}
use Rattle.materialsheet.specs.Promise.{SheetLeaves}
use Rattle.materialsheet.specs.inside.Printing.{Printable, PrintedIn}

module _ (file levels : List ℕ) (rib h w : ℕ) (arena scratch output : List ℕ) where
  abbrev o : Outline
  o = outline h w

  abbrev old : Lent
  old = lent arena scratch output

  abbrev answer : Answer Tree
  answer = sheet_checks (face_of file) levels rib o old

  abbrev asked : Counts → Asked
  asked n = fit_asks n.sizes (sheet_bytes n.gauges) levels rib o (length arena) (length scratch) (length output)

  -- What a refusal leaves.
  kept : (c : Check) → answer ≡ refused c → SheetLeaves answer levels rib o old (no_sheet (number_of c)) old
  kept c bad =
      subst (λ (a : Answer Tree). SheetLeaves a levels rib o old (no_sheet (number_of c)) old) (sym bad)
      (record { answered = refl; output = refl; arena = refl; scratch = refl })

  -- Checks 1 to 13.
  pub sheet_file : (c : Check) → ◌≡◌ {A = Answer Counts} (refused c) (counted (face_of file)) → SheetLeaves answer levels rib o old (no_sheet (number_of c)) old
  unfolding sheet_checks
  sheet_file c e = kept c (call_no_file (face_of file) asked c e)

  module _ (n : Counts) (read : taken n ≡ counted (face_of file)) where
    abbrev face : CountedFace n (face_of file)
    face = called (face_of file) asked n read

    abbrev t : Tree
    t = face.tree

    -- The checks after 13.
    pub sheet_asked : (c : Check) → refused c ≡ asked n → SheetLeaves answer levels rib o old (no_sheet (number_of c)) old
    unfolding sheet_checks
    sheet_asked c e = kept c (call_no_asked (face_of file) asked n read c e)

    module _ (passed : taken tt ≡ asked n) where
      gauges : n.gauges ≡ gauge_count t
      gauges = ap (λ (m : Counts). m.gauges) face.counts

      all : Lended (size_count t) (sheet_bytes (gauge_count t)) levels rib h w (length arena) (length scratch) (length output)
      all =
          subst (λ (m : Counts). Lended m.sizes (sheet_bytes m.gauges) levels rib h w (length arena) (length scratch) (length output)) face.counts
          (asks_taken n.sizes (sheet_bytes n.gauges) levels rib h w (length arena) (length scratch) (length output) (sym passed))

      pub sheet_builds : Buildable file levels rib arena
      sheet_builds =
          lended_builds file levels rib h w arena t face.face (sheet_bytes (gauge_count t)) (length scratch) (length output) all

      pub sheet_prints : Printable file n.gauges rib scratch output
      sheet_prints =
          record {
            tree = t;
            face = face.face;
            counted = gauges;
            narrow = all.narrow;
            long = all.scratch_long;
            room = rw gauges all.long;
          }

      pub sheet_left : (kind : Kind) (arena' scratch' output' : List ℕ) (r : Printed) → ((t : Tree) → face_of file ≡ taken t → Whole file levels rib arena arena' kind t) → PrintedIn file rib o r output output' → SheetLeaves answer levels rib o old r (lent arena' scratch' output')
      unfolding sheet_checks PrintedIn
      sheet_left kind arena' scratch' output' r whole printed =
          let p = printed t face.face in
          subst (λ (a : Answer Tree). SheetLeaves a levels rib o old r (lent arena' scratch' output'))
          (sym (call_goes (face_of file) asked n read passed))
          (record {
            answered = p.answer;
            output = p.written;
            arena = root_list file levels rib arena arena' output kind t face.face (whole t face.face);
            scratch = tt;
          })
