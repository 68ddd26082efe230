-- The text of a sheet of at most 64 gauges, each within the limits, takes at most the bytes that check 18 wants.
-- A number below 10^k takes at most k + 1 bytes with the one that ends it, so that a gauge's line takes at most 21 and the last three lines 49.
use mathlib.Core.List.{List, [], ◌∷◌, ◌++◌}
use Prim.Native.Nat.{ℕ, suc, ◌+◌, ◌*◌, ◌^◌, ◌≤◌, ◌<◌}
use native.Mathlib.Nat.{mul-le-mul}
use native.Mathlib.Omega.{arith}
use lib.ListN.{length, length-append}
use Rattle.checks.specs.Limits.{most_gauges}
use Rattle.text.specs.Fields.{space, newline, named}
use Rattle.text.proofs.Lengths.{field_few, named_few}
use Rattle.slicing.specs.Item.{Item, height, width}
use Rattle.slicing.specs.Good.{Limited}
use Rattle.slicing.specs.Fit.{area}
use Rattle.covering.specs.Covered.{total}
use Rattle.materiallines.specs.Lines.{used_word, blank_word, face_word, gauge_line, gauge_lines, sheet_text, sheet_bytes}
use Rattle.materiallines.specs.inside.Listing.{size_at}
use Rattle.materiallines.proofs.LineLaws.{gauge_length}

-- Each size is within the limits.
abbrev pub AllLimited : List Item → Type 0
AllLimited sizes = (i : ℕ) → i < length sizes → Limited (size_at sizes i)

pub limited_later : (z : Item) (sizes : List Item) → AllLimited (z ∷ sizes) → AllLimited sizes
limited_later z sizes h i less = h (suc i) (omega arith)

pub area_most : (z : Item) → Limited z → area z ≤ 1_000_000
area_most z h = mul-le-mul h.low h.narrow

pub total_most : (sizes : List Item) → AllLimited sizes → total sizes ≤ 1_000_000 * length sizes
unfolding total
total_most [] h = omega arith
total_most (z ∷ sizes) h =
    let first = area_most z (h 0 (omega arith)) in
    let later = total_most sizes (limited_later z sizes h) in omega arith

gauge_most : (number : ℕ) (z : Item) → number ≤ most_gauges → Limited z → length (gauge_line number (width z) (height z) (area z)) ≤ 21
gauge_most number z few h =
    let counted = field_few 2 number space (omega arith) (omega arith) in
    let wide = field_few 4 (width z) space (omega arith) (omega (arith, h.narrow)) in
    let high = field_few 4 (height z) space (omega arith) (omega (arith, h.low)) in
    let large = field_few 7 (area z) newline (omega arith) (omega (arith, area_most z h)) in
    omega (arith, gauge_length number (width z) (height z) (area z))

pub lines_most : (number : ℕ) (sizes : List Item) → number + length sizes ≤ most_gauges + 1 → AllLimited sizes → length (gauge_lines number sizes) ≤ 32 * length sizes
unfolding gauge_lines
lines_most number [] few h = omega arith
lines_most number (z ∷ sizes) few h =
    let line = gauge_most number z (omega arith) (h 0 (omega arith)) in
    let later = lines_most (number + 1) sizes (omega arith) (limited_later z sizes h) in
    omega (arith, length-append (gauge_line number (width z) (height z) (area z)) (gauge_lines (number + 1) sizes))

named_most : (words : List ℕ) (n : ℕ) → n < 2 ^ 32 → length (named words n newline) ≤ length words + 11
named_most words n fits = named_few 10 words n newline (omega arith) (omega arith)

-- The text always fits the room that check 18 wants.
pub sheet_fits : (sizes : List Item) (blank face : ℕ) → length sizes ≤ most_gauges → AllLimited sizes → blank < 2 ^ 32 → face < 2 ^ 32 → length (sheet_text sizes blank face) ≤ sheet_bytes (length sizes)
unfolding sheet_text
sheet_fits sizes blank face few h small large =
    let all = total_most sizes h in
    let lines = lines_most 1 sizes (omega arith) h in
    let used_most = named_most used_word (total sizes) (omega arith) in
    let blank_most = named_most blank_word blank small in
    let face_most = named_most face_word face large in
    let last = length-append (named blank_word blank newline) (named face_word face newline) in
    let later = length-append (named used_word (total sizes) newline) (named blank_word blank newline ++ named face_word face newline) in
    omega (arith, length-append (gauge_lines 1 sizes) (named used_word (total sizes) newline ++ (named blank_word blank newline ++ named face_word face newline)))
