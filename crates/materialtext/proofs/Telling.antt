-- The text that is printed of a taken file is that of the sheet of its face, or of the check that refuses it, and of a refused file the one of its check.
-- The sheet's printing says which of the two texts is due, and leaves the buffer where there is no sheet.
use mathlib.Core.Path.{◌≡◌, refl, sym, ap, subst, ◌∙◌}
use mathlib.Core.List.{List}
use Prim.Native.Nat.{ℕ, ◌≤◌}
use native.Mathlib.Omega.{arith}
use lib.ListN.{length as list_length}
use lib.Seq.{length-take-le}
use Rattle.std.specs.Prelude.{Ok, Err}
use Rattle.text.specs.Printing.{Printed}
use Rattle.checks.specs.Check.{number_of}
use Rattle.checks.specs.declared.Check.{Check}
use Rattle.checks.specs.Limits.{buffer_words}
use Rattle.checks.specs.Answer.{Answer, refused, taken}
use Rattle.checks.proofs.Answers.{number_positive}
use Rattle.slicing.specs.Tree.{Tree}
use Rattle.slicing.specs.Shapes.{shapes}
use Rattle.slicing.specs.Fit.{Pick, nothing, picked, smallest}
use Rattle.facefile.specs.declared.Counts.{Counts as Counted}
use Rattle.facefile.specs.Format.{face_of}
use Rattle.facefile.specs.Summary.{counted}
use Rattle.facefile.proofs.Taken.{face_taken}
use Rattle.lent.specs.Lent.{written_over}
use Rattle.lent.proofs.Calling.{face_counted, face_refused}
use Rattle.rendering.specs.Text.{refused_text}
use Rattle.report.specs.Faces.{widest}
use Rattle.report.specs.inside.Telling.{Told}
use Rattle.materialsheet.specs.declared.Printed.{Printed as Answered}
use Rattle.materialsheet.specs.Sheet.{printed_as, sheet_found, sheet_written}
use Rattle.materialsheet.specs.inside.Printing.{Printable, PrintedIn}
use Rattle.materialsheet.proofs.SheetMeans.{sheet_room}
use Rattle.materialtext.specs.Material.{material_bytes, sheet_printed, material_printed}
use Rattle.materialtext.specs.inside.Telling.{Gauged}

module _ (file : List ℕ) (gauges : ℕ) (k : Gauged file gauges) where
  abbrev t : Tree
  t = k.tree

  -- What `print_face` asks.
  pub told_asked : (scratch text : List ℕ) → buffer_words ≡ list_length scratch → material_bytes ≤ list_length text → Printable file gauges 0 scratch text
  told_asked scratch text long room =
      let few = (face_taken file t k.face).few in
      let counted = k.counted in
      record {
        tree = t;
        face = k.face;
        counted = counted;
        narrow = omega arith;
        long = omega arith;
        room = omega arith;
      }

  own_text : material_printed (face_of file) ≡ sheet_printed t (smallest widest (shapes 0 t))
  unfolding material_printed
  own_text = ap material_printed k.face

  -- No face is inside the opening.
  module _ (c : Check) (old mid : List ℕ) (printed : PrintedIn file 0 widest (printed_as (Err c)) old mid) where
    none_by : (pick : Pick) → printed_as (Err c) ≡ sheet_found 0 t pick → mid ≡ sheet_written 0 t pick old → (mid ≡ old) × (sheet_printed t pick ≡ refused_text (number_of c))
    none_by nothing e w = (w, sym (ap (λ (x : Answered). refused_text x.number) e))
    none_by (picked z) e w =
        let some = number_positive c in
        let n = ap (λ (x : Answered). x.number) e in
        absurd (omega arith)

    pub told_none : (most : ℕ) → Told most (material_printed (face_of file)) old (Err c) mid
    unfolding PrintedIn
    told_none most =
        let own = printed t k.face in
        let both = none_by (smallest widest (shapes 0 t)) own.answer own.written in
        (own_text ∙ both.1, both.0)

  -- A sheet was printed.
  module _ (length : ℕ) (old mid : List ℕ) (long : material_bytes ≤ list_length old) (printed : PrintedIn file 0 widest (printed_as (Ok length)) old mid) where
    sheet_by : (pick : Pick) → smallest widest (shapes 0 t) ≡ pick → printed_as (Ok length) ≡ sheet_found 0 t pick → mid ≡ sheet_written 0 t pick old → Printed (sheet_printed t pick) old mid length × (length ≤ material_bytes)
    unfolding written_over
    sheet_by nothing is e w = absurd (let n = ap (λ (x : Answered). x.number) e in omega arith)
    sheet_by (picked z) is e w =
        let answer = ap (λ (x : Answered). x.length) e in
        let few = (face_taken file t k.face).few in
        let most = sheet_room file t k.face 0 (omega arith) widest z is in
        (record { count = answer; bytes = w }, omega arith)

    pub told_sheet : list_length mid ≡ list_length old → Told material_bytes (material_printed (face_of file)) old (Ok length) mid
    unfolding PrintedIn
    told_sheet same =
        let own = printed t k.face in
        let both = sheet_by (smallest widest (shapes 0 t)) refl own.answer own.written in (
          subst (λ (text : List ℕ). Printed text old mid length) (sym own_text) both.0,
          (both.1, sym (length-take-le length mid (omega arith))),
        )

-- The whole file.
module _ (file : List ℕ) where
  pub told_refused : (c : Check) → ◌≡◌ {A = Answer Counted} (refused c) (counted (face_of file)) → (most : ℕ) (text : List ℕ) → Told most (material_printed (face_of file)) text (Err c) text
  unfolding material_printed
  told_refused c e most text = (ap material_printed (face_refused c (face_of file) e), refl)

  pub gauged : (n : Counted) → taken n ≡ counted (face_of file) → Gauged file n.gauges
  gauged n read =
      let face = face_counted n (face_of file) read in
      record { tree = face.tree; face = face.face; counted = ap (λ (m : Counted). m.gauges) face.counts }
