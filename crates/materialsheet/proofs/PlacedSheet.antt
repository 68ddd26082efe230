-- The sheet of a placed face is the one that is defined: its lines are those of the words that the placing wrote, and what is not used of its area is blank.
-- The placed layout is legal, so used and blank add up to its face, whose area the placing answers.
use mathlib.Core.Path.{◌≡◌, refl, sym, ap, ap₂, subst, ◌∙◌}
use mathlib.Core.List.{List}
use Prim.Native.Nat.{ℕ, ◌+◌, ◌*◌, ◌^◌, ◌≤◌, ◌<◌}
use native.Mathlib.Omega.{arith}
use lib.ListN.{length, take}
use Rattle.checks.specs.Check.{number_of}
use Rattle.checks.specs.declared.Check.{Check}
use Rattle.checks.specs.Limits.{most_rib}
use Rattle.checks.proofs.Answers.{number_positive, same_taken}
use Rattle.text.specs.Printing.{Printed as TextPrinted}
use Rattle.slicing.specs.Item.{Item}
use Rattle.slicing.specs.Tree.{Tree}
use Rattle.slicing.specs.Shapes.{shapes}
use Rattle.slicing.specs.Layout.{Layout, Outline}
use Rattle.slicing.specs.Fit.{Pick, nothing, picked, smallest, area, place, words}
use Rattle.slicing.specs.FitMeans.{FitMeans, FaceFits}
use Rattle.slicing.proofs.Demand3.{demand_3}
use Rattle.slicing.proofs.Placing.{words_length}
use Rattle.facefile.proofs.Taken.{TakenFace, face_taken}
use Rattle.lent.specs.Lent.{written_over}
use Rattle.lent.proofs.Starts.{starts}
use Rattle.placing.specs.declared.Fitted.{Fitted}
use Rattle.placing.specs.Found.{no_face, face_found, face_words}
use Rattle.placing.specs.inside.Facing.{Placeable, PlacedFace, PlacedIn}
use Rattle.covering.specs.Covered.{sizes_in, total, used, blank}
use Rattle.covering.proofs.Covering.{used_and_blank}
use Rattle.materiallines.specs.Lines.{sheet_text}
use Rattle.materiallines.specs.inside.Listing.{Holds, Renderable}
use Rattle.materiallines.proofs.HeldWords.{holds_words, sizes_count, sizes_limited}
use Rattle.materiallines.proofs.SheetFits.{sheet_fits}
use Rattle.materialsheet.specs.declared.Printed.{Printed}
use Rattle.materialsheet.specs.Sheet.{sheet_of, no_sheet, sheet_found, sheet_written}
use Rattle.materialsheet.specs.inside.Printing.{Printable, PrintedFace, PrintedIn}

-- Of the item that is picked of a good face: its layout's used and blank add up to its area.
pub adds_up : (rib : ℕ) (t : Tree) (o : Outline) (z : Item) → FaceFits rib t o z → used t (place rib t z 0 0) + blank t (place rib t z 0 0) ≡ area z
adds_up rib t o z fits =
    used_and_blank rib t (place rib t z 0 0) fits.legal ∙ ap₂ ◌*◌ fits.own_height fits.own_width

-- Its sheet by its area.
pub sheet_by_area : (rib : ℕ) (t : Tree) (o : Outline) (z : Item) → FaceFits rib t o z → sheet_of t (place rib t z 0 0) ≡ sheet_text (sizes_in t (place rib t z 0 0)) (blank t (place rib t z 0 0)) (area z)
unfolding sheet_of
sheet_by_area rib t o z fits =
    ap (sheet_text (sizes_in t (place rib t z 0 0)) (blank t (place rib t z 0 0))) (ap₂ ◌*◌ fits.own_height fits.own_width)

-- What a face's placing wrote, where it answers 0.
pub record Sheeted (gauges rib : ℕ) (t : Tree) (o : Outline) (face : Fitted) (layout : List ℕ) (z : Item) : Type 0 where
  pub pick : smallest o (shapes rib t) ≡ picked z
  pub fits : FaceFits rib t o z
  pub area_is : face.area ≡ area z
  pub laid : take (5 * gauges) layout ≡ words t (place rib t z 0 0)

module _ (file : List ℕ) (gauges rib : ℕ) (scratch output : List ℕ) (p : Printable file gauges rib scratch output) where
  abbrev t : Tree
  t = p.tree

  known : TakenFace file t
  known = face_taken file t p.face

  -- What `place_face` asks, with any rib and room for 64 gauges.
  pub sheet_places : (gap : ℕ) → gap ≤ most_rib → (room : List ℕ) → 320 ≡ length room → Placeable file gap scratch room
  sheet_places gap narrow room long =
      let few = known.few in
      record { tree = t; face = p.face; narrow = narrow; long = p.long; room = omega arith }

  pub words_fit : 5 * gauges ≤ 320
  words_fit = omega (arith, known.few, p.counted)

  of_all : (o : Outline) (r : Printed) (new : List ℕ) → PrintedFace rib t o r output new → PrintedIn file rib o r output new
  unfolding PrintedIn
  of_all o r new h u face =
      subst (λ (x : Tree). PrintedFace rib x o r output new) (same_taken t u (sym p.face ∙ face)) h

  module _ (o : Outline) (face : Fitted) (room layout : List ℕ) (placed : PlacedIn file rib o face room layout) where
    own : PlacedFace rib t o face room layout
    unfolding PlacedIn
    own = placed t p.face

    -- 19.
    none_found : (pick : Pick) → smallest o (shapes rib t) ≡ pick → face ≡ face_found rib t pick → (face.number ≡ 0 → ⊥) → (r : Printed) → r ≡ no_sheet face.number → PrintedFace rib t o r output output
    none_found nothing e f other r made =
        record {
          answer = made ∙ ap (λ (x : Fitted). no_sheet x.number) f ∙ sym (ap (sheet_found rib t) e);
          written = sym (ap (λ (x : Pick). sheet_written rib t x output) e);
        }
    none_found (picked z) e f other r made = absurd (other (ap (λ (x : Fitted). x.number) f))

    pub sheet_none : (c : Check) → face ≡ no_face (number_of c) → PrintedIn file rib o (no_sheet (number_of c)) output output
    sheet_none c e =
        let n = ap (λ (x : Fitted). x.number) e in
        let some = number_positive c in
        of_all o (no_sheet (number_of c)) output
        (none_found (smallest o (shapes rib t)) refl own.answer (λ zero. omega arith) (no_sheet (number_of c)) (ap (λ (x : Fitted). no_sheet x.number) (sym e)))

    module _ (zero : face.number ≡ 0) where
      found : (pick : Pick) → smallest o (shapes rib t) ≡ pick → FitMeans rib t o pick → face ≡ face_found rib t pick → layout ≡ face_words rib t pick room → (z : Item) × Sheeted gauges rib t o face layout z
      found nothing e means f w = absurd (let n = ap (λ (x : Fitted). x.number) f in omega arith)
      found (picked z) e means f w =
          let long = words_length t (place rib t z 0 0) in
          let counted = p.counted in (
            z,
            record {
              pick = e;
              fits = means;
              area_is = ap (λ (x : Fitted). x.area) f;
              laid = starts (5 * gauges) (words t (place rib t z 0 0)) room layout w (omega arith);
            },
          )

      sheeted : (z : Item) × Sheeted gauges rib t o face layout z
      sheeted = found (smallest o (shapes rib t)) refl (demand_3 rib t known.good o) own.answer own.written

      abbrev z : Item
      z = sheeted.0

      abbrev l : Layout t
      l = place rib t z 0 0

      held : Holds (take (5 * gauges) layout) (sizes_in t l)
      held = subst (λ (w : List ℕ). Holds w (sizes_in t l)) (sym sheeted.1.laid) (holds_words t l)

      sum : used t l + blank t l ≡ face.area
      sum = adds_up rib t o z sheeted.1.fits ∙ sym sheeted.1.area_is

      -- What `write_sheet` asks.
      pub sheet_renderable : Renderable (take (5 * gauges) layout) face.area (length output)
      sheet_renderable =
          let count = sizes_count t l in
          let counted = p.counted in
          let room = p.room in
          let few = known.few in
          let all = sum in
          record {
            sized =
                record {
                  sizes = sizes_in t l;
                  held = held;
                  few = omega arith;
                  limited = sizes_limited rib t l known.good sheeted.1.fits.legal;
                };
            inside = omega arith;
            room = omega arith;
          }

      module _ (new : List ℕ) (n : ℕ) (wrote : (sizes : List Item) (b : ℕ) → Holds (take (5 * gauges) layout) sizes → total sizes + b ≡ face.area → TextPrinted (sheet_text sizes b face.area) output new n) where
        text : TextPrinted (sheet_text (sizes_in t l) (blank t l) face.area) output new n
        text = wrote (sizes_in t l) (blank t l) held sum

        -- The text's length is a number of 32 bits.
        pub sheet_short : face.area < 2 ^ 32 → n < 2 ^ 32
        sheet_short large =
            let few = known.few in
            let count = sizes_count t l in
            let all = sum in
            omega (arith, text.count, sheet_fits (sizes_in t l) (blank t l) face.area (omega arith) (sizes_limited rib t l known.good sheeted.1.fits.legal) (omega arith) large)

        own_text : sheet_text (sizes_in t l) (blank t l) face.area ≡ sheet_of t l
        own_text =
            ap (sheet_text (sizes_in t l) (blank t l)) sheeted.1.area_is ∙ sym (sheet_by_area rib t o z sheeted.1.fits)

        pub sheet_done : (r : Printed) → r ≡ record { number = 0; length = n } → PrintedIn file rib o r output new
        unfolding written_over
        sheet_done r made =
            of_all o r new
            (record {
              answer =
                  made ∙ ap (λ (k : ℕ). record { number = 0; length = k }) (text.count ∙ ap length own_text)
                  ∙ sym (ap (sheet_found rib t) sheeted.1.pick);
              written =
                  text.bytes ∙ ap (λ (b : List ℕ). written_over b output) own_text
                  ∙ sym (ap (λ (x : Pick). sheet_written rib t x output) sheeted.1.pick);
            })
