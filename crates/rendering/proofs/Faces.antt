-- The first line, the items, the best one and the gauges, written in turn on a new page, are the text of the face; so is the line of a refused one.
-- The words of the items are those of their list, so the lines by words are the lines of the list, and all parts together take no more than the bytes allowed.
use mathlib.Core.Path.{◌≡◌, refl, ap, ap₂, ◌∙◌}
use mathlib.Core.List.{List, [], ◌∷◌, ◌++◌}
use Prim.Native.Nat.{ℕ, ◌*◌, ◌/◌, ◌^◌, ◌≤◌, ◌<◌}
use native.Mathlib.Omega.{arith}
use lib.ListN.{length}
use Rattle.std.specs.Borrow.{MutBor}
use Rattle.text.specs.Fields.{newline, named}
use Rattle.text.specs.Printing.{Printed, Counted}
use Rattle.text.specs.declared.page.Page.{Page}
use Rattle.text.specs.inside.Writing.{Fits, Wrote}
use Rattle.text.proofs.Pages.{same_wrote, blank, blank_fits, blank_printed, blank_counted}
use Rattle.slicing.specs.Item.{Item, height, width}
use Rattle.writing.specs.Words.{list_words}
use Rattle.writing.proofs.WordLaws.{words_length}
use Rattle.rendering.specs.Text.{faces_word, refused_word, item_line, item_lines, best_line, gauge_lines, faces_text, refused_text}
use Rattle.rendering.specs.Room.{text_bytes, refused_bytes}
use Rattle.rendering.specs.inside.WordLines.{word_lines}
use Rattle.rendering.proofs.Bounds.{parts, Renderable, parts_most, refused_most}

lines_listed : (l : List Item) → word_lines (list_words l) ≡ item_lines l
unfolding word_lines list_words item_lines
lines_listed [] = refl
lines_listed (z ∷ l) = ap (λ (t : List ℕ). item_line (height z) (width z) ++ t) (lines_listed l)

parts_text : (items : List ℕ) (h w area : ℕ) (layout : List ℕ) (l : List Item) (z : Item) → items ≡ list_words l → h ≡ z.m → w ≡ z.p → area ≡ z.m * z.p → parts items h w area layout ≡ faces_text l z layout
unfolding parts faces_text
parts_text items h w area layout l z words high wide product =
    let long = ap length words ∙ words_length l in
    let half : length items / 2 ≡ length l = omega arith in
    ap₂ (λ (a : List ℕ) (b : List ℕ). a ++ b)
    (ap (λ (n : ℕ). named faces_word n newline) half)
    (ap₂ (λ (a : List ℕ) (b : List ℕ). a ++ b)
    (ap word_lines words ∙ lines_listed l)
    (ap (λ (a : List ℕ). a ++ gauge_lines 1 layout) best))
  where
    best : best_line h w area ≡ best_line z.m z.p (z.m * z.p)
    best = cc

module _ (items : List ℕ) (h w area : ℕ) (layout : List ℕ) (text : MutBor (List ℕ)) (k : Renderable items h w area layout text.now) (page : Page ℕ) (empty : page ≡ blank text) where
  pub all_fit : Fits page (parts items h w area layout)
  all_fit =
      blank_fits text page empty (parts items h w area layout) (omega (arith, k.asked.2, parts_most items h w area layout text.now k))

  module _ (last : Page ℕ) (s : Wrote page (parts items h w area layout) last) (new : List ℕ) (end : new ≡ last.buffer.now) where
    pub faces_printed : (l : List Item) (z : Item) → items ≡ list_words l → h ≡ z.m → w ≡ z.p → area ≡ z.m * z.p → Printed (faces_text l z layout) text.now new last.at
    faces_printed l z words high wide product =
        let same = parts_text items h w area layout l z words high wide product in
        let most = parts_most items h w area layout text.now k in
        blank_printed text page empty (faces_text l z layout) last (same_wrote page (parts items h w area layout) (faces_text l z layout) last same s) new end (omega (arith, k.asked.2, ap length same))

    pub faces_counted : Counted text_bytes new last.at
    faces_counted =
        blank_counted text page empty (parts items h w area layout) last s new end text_bytes (parts_most items h w area layout text.now k) k.asked.2

-- The line of a refused one.
module _ (number : ℕ) (fits : number < 2 ^ 32) (text : MutBor (List ℕ)) (room : refused_bytes ≤ length text.now) (page : Page ℕ) (empty : page ≡ blank text) where
  pub refused_fits : Fits page (named refused_word number newline)
  unfolding refused_text
  refused_fits = blank_fits text page empty (refused_text number) (omega (arith, refused_most number fits))

  module _ (last : Page ℕ) (s : Wrote page (named refused_word number newline) last) (new : List ℕ) (end : new ≡ last.buffer.now) where
    pub refused_printed : Printed (refused_text number) text.now new last.at
    unfolding refused_text
    refused_printed = blank_printed text page empty (refused_text number) last s new end (omega (arith, refused_most number fits))

    pub refused_counted : Counted refused_bytes new last.at
    unfolding refused_text
    refused_counted = blank_counted text page empty (refused_text number) last s new end refused_bytes (refused_most number fits) room
