-- The text of a face of at most 449 items and 64 gauges takes at most `text_bytes` bytes, and the line of a refused one at most `refused_bytes`.
-- A number below 2^32 has at most ten digits, and the bounds of the lines add up.
use mathlib.Core.Path.{◌≡◌}
use mathlib.Core.List.{List, [], ◌∷◌, ◌++◌}
use Prim.Native.Nat.{ℕ, suc, ◌+◌, ◌*◌, ◌/◌, ◌^◌, ◌≤◌, ◌<◌}
use native.Mathlib.Omega.{arith}
use mir.Val.{Fits}
use mir.Syntax.{w32}
use lib.ListN.{length, get_or, length-append}
use Rattle.text.specs.Fields.{space, newline, field, named}
use Rattle.text.proofs.Lengths.{field_few, named_few}
use Rattle.rendering.specs.Text.{faces_word, best_word, gauge_word, size_word, at_word, refused_word, item_line, best_line, gauge_line, gauge_lines, refused_text}
use Rattle.rendering.specs.Room.{text_bytes, refused_bytes}
use Rattle.rendering.specs.inside.WordLines.{word_lines}
use Rattle.rendering.proofs.LineLaws.{length_four, item_length, best_length, gauge_length}

-- Each word of a buffer is below 2^32.
abbrev pub Words : List ℕ → Type 0
Words l = (i : ℕ) → Fits w32 (get_or l i 0)

field_most : (n end : ℕ) → n < 2 ^ 32 → length (field n end) ≤ 11
field_most n end fits = field_few 10 n end (omega arith) (omega arith)

named_most : (words : List ℕ) (n end : ℕ) → n < 2 ^ 32 → length (named words n end) ≤ length words + 11
named_most words n end fits = named_few 10 words n end (omega arith) (omega arith)

item_most : (h w : ℕ) → h < 2 ^ 32 → w < 2 ^ 32 → length (item_line h w) ≤ 22
item_most h w high wide =
    omega (arith, item_length h w, field_most h space high, field_most w newline wide)

items_most : (l : List ℕ) → Words l → length (word_lines l) ≤ 22 * (length l / 2)
unfolding word_lines
items_most [] fits = omega arith
items_most (h ∷ []) fits = omega arith
items_most (h ∷ w ∷ l) fits =
    let line = item_most h w (fits 0).fits (fits 1).fits in
    let lines = items_most l (λ i. fits (suc (suc i))) in
    omega (arith, length-append (item_line h w) (word_lines l))

best_most : (h w area : ℕ) → h < 2 ^ 32 → w < 2 ^ 32 → area < 2 ^ 32 → length (best_line h w area) ≤ 38
best_most h w area high wide large =
    omega (arith, best_length h w area, named_most best_word h space high, field_most w space wide, field_most area newline large)

gauge_most : (number size across up : ℕ) → number < 2 ^ 32 → size < 2 ^ 32 → across < 2 ^ 32 → up < 2 ^ 32 → length (gauge_line number size across up) ≤ 58
gauge_most number size across up n s a u =
    omega (arith, gauge_length number size across up, named_most gauge_word number space n, named_most size_word size space s, named_most at_word across space a, field_most up newline u)

gauges_most : (number : ℕ) (l : List ℕ) → Words l → number + length l ≤ 2 ^ 32 → length (gauge_lines number l) ≤ 58 * (length l / 5)
unfolding gauge_lines
gauges_most number [] fits low = omega arith
gauges_most number (a ∷ []) fits low = omega arith
gauges_most number (a ∷ b ∷ []) fits low = omega arith
gauges_most number (a ∷ b ∷ c ∷ []) fits low = omega arith
gauges_most number (a ∷ b ∷ c ∷ d ∷ []) fits low = omega arith
gauges_most number (size ∷ across ∷ up ∷ wide ∷ high ∷ l) fits low =
    let line = gauge_most number size across up (omega arith) (fits 0).fits (fits 1).fits (fits 2).fits in
    let lines = gauges_most (number + 1) l (λ i. fits (suc (suc (suc (suc (suc i)))))) (omega arith) in
    omega (arith, length-append (gauge_line number size across up) (gauge_lines (number + 1) l))

-- The four parts of the text, by words and numbers.
unfoldable pub parts : List ℕ → ℕ → ℕ → ℕ → List ℕ → List ℕ
parts items h w area layout =
    named faces_word (length items / 2) newline ++ (word_lines items ++ (best_line h w area ++ gauge_lines 1 layout))

-- What `render` is given: words below 2^32, and room for every text.
pub record Renderable (items : List ℕ) (h w area : ℕ) (layout text : List ℕ) : Type 0 where
  pub items_fit : Words items
  pub high : Fits w32 h
  pub wide : Fits w32 w
  pub large : Fits w32 area
  pub layout_fits : Words layout
  pub asked : (length items ≤ 2 * 449) × (length layout ≤ 5 * 64) × (text_bytes ≤ length text)

pub renderable : (items : List ℕ) (h w area : ℕ) (layout text : List ℕ) → Words items → Fits w32 h → Fits w32 w → Fits w32 area → Words layout → (length items ≤ 2 * 449) × (length layout ≤ 5 * 64) × (text_bytes ≤ length text) → Renderable items h w area layout text
renderable items h w area layout text i high wide large l asked =
    record { items_fit = i; high = high; wide = wide; large = large; layout_fits = l; asked = asked }

module _ (items : List ℕ) (h w area : ℕ) (layout text : List ℕ) where
  parts_length : length (parts items h w area layout) ≡ length (named faces_word (length items / 2) newline) + (length (word_lines items) + (length (best_line h w area) + length (gauge_lines 1 layout)))
  unfolding parts
  parts_length = length_four (named faces_word (length items / 2) newline) (word_lines items) (best_line h w area) (gauge_lines 1 layout)

  module _ (k : Renderable items h w area layout text) where
    pub parts_most : length (parts items h w area layout) ≤ text_bytes
    parts_most =
        let first = named_most faces_word (length items / 2) newline (omega (arith, k.asked.0)) in
        let listed = items_most items k.items_fit in
        let best = best_most h w area k.high.fits k.wide.fits k.large.fits in
        let laid = gauges_most 1 layout k.layout_fits (omega (arith, k.asked.1)) in
        omega (arith, k.asked.0, k.asked.1, parts_length)

pub refused_most : (number : ℕ) → number < 2 ^ 32 → length (refused_text number) ≤ refused_bytes
unfolding refused_text
refused_most number fits = named_most refused_word number newline fits
