-- The lines of the gauges and the last three lines, written in turn on a new page, are the text of the sheet.
-- All of them fit by `sheet_fits`, and what is used and what is not add up to the face.
use mathlib.Core.Path.{◌≡◌, sym, ap, ap₂, subst}
use mathlib.Core.List.{List, ◌++◌}
use Prim.Native.Nat.{ℕ, ◌+◌, ◌-◌, ◌^◌, ◌≤◌, ◌<◌}
use native.Mathlib.Omega.{arith}
use lib.ListN.{length}
use Rattle.std.specs.Borrow.{MutBor}
use Rattle.text.specs.Fields.{newline, named}
use Rattle.text.specs.Printing.{Printed}
use Rattle.text.specs.declared.page.Page.{Page}
use Rattle.text.specs.inside.Writing.{Fits, Wrote}
use Rattle.text.proofs.Pages.{first_fits, rest_fits, both_wrote, blank, blank_fits, blank_printed}
use Rattle.slicing.specs.Item.{Item}
use Rattle.covering.specs.Covered.{total}
use Rattle.materiallines.specs.Lines.{used_word, blank_word, face_word, gauge_lines, sheet_text}
use Rattle.materiallines.specs.inside.Listing.{Holds, Listable, Renderable}
use Rattle.materiallines.proofs.SheetFits.{sheet_fits}
use Rattle.materiallines.proofs.HeldWords.{holds_same}

-- The last three lines.
abbrev pub used_line : ℕ → List ℕ
used_line used = named used_word used newline

abbrev pub blank_line : ℕ → List ℕ
blank_line blank = named blank_word blank newline

abbrev pub face_line : ℕ → List ℕ
face_line face = named face_word face newline

-- What the sum of the areas is.
abbrev pub Summed : List ℕ → ℕ → Type 0
Summed layout used = (sizes : List Item) → Holds layout sizes → used ≡ total sizes

module _ (layout : List ℕ) (face : ℕ) (fits : face < 2 ^ 32) (text : MutBor (List ℕ)) (h : Renderable layout face (length text.now)) (page : Page ℕ) (empty : page ≡ blank text) where
  abbrev sizes : List Item
  sizes = h.sized.sizes

  whole_fits : length (sheet_text sizes (face - total sizes) face) ≤ length text.now
  whole_fits =
      omega (arith, h.room, sheet_fits sizes (face - total sizes) face h.sized.few h.sized.limited (omega arith) fits)

  all_fit : Fits page (sheet_text sizes (face - total sizes) face)
  all_fit = blank_fits text page empty (sheet_text sizes (face - total sizes) face) whole_fits

  -- What the lines of the gauges ask.
  pub listable : Listable page layout
  unfolding sheet_text
  listable =
      record {
        sized = h.sized;
        room = first_fits page (gauge_lines 1 sizes) (used_line (total sizes) ++ (blank_line (face - total sizes) ++ face_line face)) all_fit;
      }

  module _ (used : ℕ) (all : Summed layout used) where
    used_same : used ≡ total sizes
    used_same = all sizes h.sized.held

    pub used_inside : used ≤ face
    used_inside = omega (arith, used_same, h.inside)

    abbrev last_lines : List ℕ
    last_lines = used_line used ++ (blank_line (face - used) ++ face_line face)

    text_same : sheet_text sizes (face - total sizes) face ≡ gauge_lines 1 sizes ++ last_lines
    unfolding sheet_text
    text_same =
        ap (λ (n : ℕ). gauge_lines 1 sizes ++ (used_line n ++ (blank_line (face - n) ++ face_line face))) (sym used_same)

    lines_fit : Fits page (gauge_lines 1 sizes ++ last_lines)
    lines_fit = subst (Fits page) text_same all_fit

    module _ (a : Page ℕ) (gauged : (sizes : List Item) → Holds layout sizes → Wrote page (gauge_lines 1 sizes) a) where
      after_gauges : Fits a last_lines
      after_gauges = rest_fits page (gauge_lines 1 sizes) last_lines a (gauged sizes h.sized.held) lines_fit

      pub used_fits : Fits a (used_line used)
      used_fits = first_fits a (used_line used) (blank_line (face - used) ++ face_line face) after_gauges

      module _ (b : Page ℕ) (s : Wrote a (used_line used) b) where
        after_used : Fits b (blank_line (face - used) ++ face_line face)
        after_used = rest_fits a (used_line used) (blank_line (face - used) ++ face_line face) b s after_gauges

        pub blank_line_fits : Fits b (blank_line (face - used))
        blank_line_fits = first_fits b (blank_line (face - used)) (face_line face) after_used

        module _ (c : Page ℕ) (t : Wrote b (blank_line (face - used)) c) where
          pub face_fits : Fits c (face_line face)
          face_fits = rest_fits b (blank_line (face - used)) (face_line face) c t after_used

          module _ (last : Page ℕ) (u : Wrote c (face_line face) last) (new : List ℕ) (end : new ≡ last.buffer.now) where
            written : Wrote page (sheet_text sizes (face - total sizes) face) last
            written =
                subst (λ (l : List ℕ). Wrote page l last) (sym text_same)
                (both_wrote page (gauge_lines 1 sizes) last_lines a (gauged sizes h.sized.held) last
                (both_wrote a (used_line used) (blank_line (face - used) ++ face_line face) b s last
                (both_wrote b (blank_line (face - used)) (face_line face) c t last u)))

            pub sheet_is_printed : (l : List Item) (left : ℕ) → Holds layout l → total l + left ≡ face → Printed (sheet_text l left face) text.now new last.at
            sheet_is_printed l left held sum =
                subst (λ (bytes : List ℕ). Printed bytes text.now new last.at)
                (ap₂ (λ (m : List Item) (n : ℕ). sheet_text m n face) same less)
                (blank_printed text page empty (sheet_text sizes (face - total sizes) face) last written new end whole_fits)
              where
                same : sizes ≡ l
                same = holds_same layout sizes l h.sized.held held

                less : face - total sizes ≡ left
                less = rw same (omega arith)
