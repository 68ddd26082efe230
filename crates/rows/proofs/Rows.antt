-- Document 01's "Rows to prove together", with rows of document 02: each row of one table holds of the definitions that the public contracts cite.
-- The checker computes the definitions at every row, from a file's bytes where the row is about a face.
use mathlib.Core.Path.{◌≡◌, refl}
use mathlib.Core.Bool.{Bool, true, false, ◌&&◌}
use mathlib.Core.List.{List, [], ◌∷◌, ◌++◌}
use Prim.Native.Nat.{ℕ, zero, suc, ◌+◌, ◌*◌}
use lib.Dec.{ltb, eqb}
use lib.ListN.{replicate, take, drop}
use Rattle.checks.specs.Limits.{buffer_words}
use Rattle.checks.specs.Answer.{Answer, number, outcome}
use Rattle.slicing.specs.Item.{Item, size}
use Rattle.slicing.specs.Tree.{Tree, size_count, least_depth, most_depth}
use Rattle.slicing.specs.Useful.{index_of, gauge_shapes}
use Rattle.slicing.specs.Merge.{merge, turn}
use Rattle.slicing.specs.Shapes.{shapes}
use Rattle.slicing.specs.Layout.{Outline, outline}
use Rattle.slicing.specs.Fit.{smallest, no_taller, place}
use Rattle.sizes.specs.GaugeSizes.{sizes_after, sizes_from}
use Rattle.entries.specs.Entry.{gauge_sizes, gauge_entry, join_parts, join_entry, kind_entry, entry, entries}
use Rattle.facefile.specs.Format.{header, one_part, at_end, face_of}
use Rattle.facefile.proofs.Example.{example}
use Rattle.levels.specs.Levels.{times_four, uncut_level, largest_power, top_level}
use Rattle.arena.specs.Arena.{word}
use Rattle.arena.specs.Lazy.{next_with, last_with, sum_from, true_p, held, walk, links_right, linked, falling, backs_right, lazy_list}
use Rattle.maxplus.specs.declared.Reading.{Reading}
use Rattle.maxplus.specs.Read.{read_item, read_low, reading}
use Rattle.lent.specs.Lent.{lent, written_over}
use Rattle.lent.specs.Questions.{level_count, level_range, levels_lent, rib_given, opening_given, buffers_lent, output_lent}
use Rattle.writing.specs.Words.{list_words}
use Rattle.placing.specs.declared.Fitted.{Fitted}
use Rattle.placing.specs.Found.{no_face}
use Rattle.shapes.specs.Listing.{list_asks}
use Rattle.fit.specs.Fitting.{fit_asks, fitted, fit_output}
use Rattle.walking.specs.Widths.{width_for}
use Rattle.walking.specs.Walk.{seek, walked}
use Rattle.catalogue.specs.Heights.{heights_given}
use Rattle.catalogue.specs.Catalogue.{width_asks, catalogued, width_output}
use Rattle.covering.specs.Covered.{total}
use Rattle.materialsheet.specs.declared.Printed.{Printed}
use Rattle.materialsheet.specs.Sheet.{sheet_of, sheet_checks, no_sheet, printed as printed_sheet, sheet_output}
use Rattle.written.specs.FileOf.{file_of}
use Rattle.facewords.specs.Words.{first_word, words_face, words_of}
use Rattle.saving.specs.Saving.{save_call, saved_output, word_call, word_output}

pub data Row : Type 0 where
  -- The outer sizes of a file's face, with a rib.
  lists : List ℕ → ℕ → List Item → Row
  -- A file's face, with a rib, in an opening: what the fit answers, and the words that it writes.
  fits : List ℕ → ℕ → Outline → Fitted → List ℕ → Row
  -- A rib and an opening: the numbers of the list call's and of the fit call's questions.
  asks : ℕ → Outline → ℕ → ℕ → Row
  -- Words, and how many bytes are lent to write their file into: the writing call's number, and its output.
  saves : List ℕ → ℕ → ℕ → List ℕ → Row
  -- A file, and how many words are lent to read it into: the reading call's number, and its output.
  words : List ℕ → ℕ → ℕ → List ℕ → Row
  -- A file's face, with a rib, heights, and how many words are lent for their widths: the walk's looks, and the output.
  widths : List ℕ → ℕ → List ℕ → ℕ → ℕ → List ℕ → Row
  -- Heights, and how many words are lent for their widths: the number of the catalogue call's questions.
  heights : List ℕ → ℕ → ℕ → Row
  -- A file's face, with a rib, in an opening, and how many bytes are lent: what the sheet call answers, and its output.
  sheets : List ℕ → ℕ → Outline → ℕ → Printed → List ℕ → Row
  -- A file of a lopsided tree of n sizes, and its top level.
  tops : List ℕ → ℕ → ℕ → Row
  -- A size number and its uncut level.
  uncuts : ℕ → ℕ → Row
  -- A stored p, the adjust that it is under, and the true p, from either end.
  reads : ℕ → ℕ → ℕ → Row
  -- The back words of the head and of two items, and a place: what is read there from the top, and from the low end.
  ends : ℕ → ℕ → ℕ → ℕ → Reading → Reading → Row

abbrev same : List ℕ → List ℕ → Bool
same [] [] = true
same [] (y ∷ l) = false
same (x ∷ k) [] = false
same (x ∷ k) (y ∷ l) = eqb x y && same k l

abbrev same_fitted : Fitted → Fitted → Bool
same_fitted a b =
    eqb a.number b.number
    && eqb a.height b.height
    && eqb a.width b.width
    && eqb a.area b.area
    && eqb a.count b.count

-- The tree has n sizes, 2D is below E, and the top level is as said.
abbrev top_holds : ℕ → ℕ → Tree → Bool
top_holds n level t =
    eqb (size_count t) n && ltb (2 * least_depth t) (most_depth t)
    && eqb (top_level (size_count t) (least_depth t) (most_depth t)) level

-- An arena of 16,384 words with one item, of m 60, in record 1 of level 1: its p is under the head's second adjust, and the other adjusts are 0.
abbrev under : ℕ → ℕ → List ℕ
under p adjust =
    (8 ∷ 0 ∷ 0 ∷ 1 ∷ replicate 7 0) ++ (0 ∷ adjust ∷ replicate 6 0) ++ (1 ∷ [])
    ++ (1 ∷ 60 ∷ p ∷ replicate 16_361 0)

-- An arena of 16,384 words with two items, in records of level 1: m 60 and p 35 in record 2, and then m 50 and p 45 in record 1. These are the back words of the head and of the two.
abbrev pair : ℕ → ℕ → ℕ → List ℕ
pair last first second =
    (8 ∷ 0 ∷ 0 ∷ 2 ∷ replicate 15 0) ++ (last ∷ [])
    ++ (1 ∷ 50 ∷ 45 ∷ 0 ∷ replicate 15 0) ++ (second ∷ [])
    ++ (1 ∷ 60 ∷ 35 ∷ 1 ∷ replicate 15 0) ++ (first ∷ replicate 16_324 0)

abbrev same_reading : Reading → Reading → Bool
same_reading a b = eqb a.number b.number && eqb a.m b.m && eqb a.p b.p

abbrev item : ℕ → ℕ → Reading
item m p = record { number = 0; m = m; p = p }

abbrev no_item : ℕ → Reading
no_item n = record { number = n; m = 0; p = 0 }

-- The levels of four sizes.
abbrev ones : List ℕ
ones = replicate 4 1

-- An output of so many bytes or words, before a call.
abbrev lent_room : ℕ → List ℕ
lent_room n = replicate n 7

-- The answer of the checks of the sheet call on a file, with the levels of its sizes and arena and scratch long enough.
abbrev sheet_taken : List ℕ → ℕ → Outline → ℕ → Answer Tree
sheet_taken file rib o bytes =
    sheet_checks (face_of file) (outcome (face_of file) [] (λ t. replicate (size_count t) 1)) rib o
    (lent (lent_room buffer_words) (lent_room buffer_words) (lent_room bytes))

abbrev same_printed : Printed → Printed → Bool
same_printed a b = eqb a.number b.number && eqb a.length b.length

abbrev pub holds : Row → Bool
holds (lists file rib items) = outcome (face_of file) false (λ t. same (list_words (shapes rib t)) (list_words items))
holds (fits file rib o answer output) =
    same_fitted (fitted (face_of file) rib o) answer && same (fit_output (face_of file) rib o []) output
holds (asks rib o listed fit) =
    eqb (number (list_asks 4 2 ones rib buffer_words buffer_words 6)) listed
    && eqb (number (fit_asks 4 10 ones rib o buffer_words buffer_words 10)) fit
holds (saves given room n output) =
    eqb (number (save_call (words_face given) (lent_room room))) n
    && same (saved_output (save_call (words_face given) (lent_room room)) (lent_room room)) output
holds (words file room n output) =
    eqb (number (word_call (face_of file) (lent_room room))) n
    && same (word_output (word_call (face_of file) (lent_room room)) (lent_room room)) output
holds (widths file rib given room looks output) =
    eqb (catalogued (face_of file) rib given).looks looks && same (width_output (face_of file) rib given (lent_room room)) output
holds (heights given room n) = eqb (number (width_asks 4 ones 0 given buffer_words buffer_words room)) n
holds (sheets file rib o bytes answer output) =
    same_printed (printed_sheet (sheet_taken file rib o bytes) rib o) answer
    && same (sheet_output (sheet_taken file rib o bytes) rib o (lent_room bytes)) output
holds (tops file n level) = outcome (face_of file) false (top_holds n level)
holds (uncuts r level) = eqb (uncut_level r) level
holds (reads p adjust true_ps) =
    same_reading (reading (read_item (under p adjust) 1)) (item 60 true_ps)
    && same_reading (reading (read_low (under p adjust) 1)) (item 60 true_ps)
holds (ends last first second k top low) =
    same_reading (reading (read_item (pair last first second) k)) top
    && same_reading (reading (read_low (pair last first second) k)) low

abbrev pub all : (Row → Bool) → List Row → Bool
all f [] = true
all f (r ∷ rows) = f r && all f rows

-- Document 01's file of 28 bytes, `example`, with 03 as its last byte.
abbrev stacked_instead : List ℕ
stacked_instead = take 27 example ++ (0x03 ∷ [])

-- Side by side of (60, 40) and (60, 30).
abbrev equal_heights : List ℕ
equal_heights =
    0x46 ∷ 0x43 ∷ 0x45 ∷ 0x00 ∷ 0x01 ∷ 0x00 ∷ 0x03 ∷ 0x01 ∷ 0x01 ∷ 0x00 ∷ 0x3C ∷ 0x00 ∷ 0x28 ∷ 0x01 ∷ 0x01 ∷ 0x00 ∷ 0x3C ∷ 0x00 ∷ 0x1E ∷ 0x02 ∷ []

-- A lone (1, 1).
abbrev lone_size : List ℕ
lone_size = 0x46 ∷ 0x43 ∷ 0x45 ∷ 0x00 ∷ 0x01 ∷ 0x00 ∷ 0x01 ∷ 0x01 ∷ 0x01 ∷ 0x00 ∷ 0x01 ∷ 0x00 ∷ 0x01 ∷ []

-- A lone (60, 40), (40, 60).
abbrev equal_areas : List ℕ
equal_areas =
    0x46 ∷ 0x43 ∷ 0x45 ∷ 0x00 ∷ 0x01 ∷ 0x00 ∷ 0x01 ∷ 0x01 ∷ 0x02 ∷ 0x00 ∷ 0x3C ∷ 0x00 ∷ 0x28 ∷ 0x00 ∷ 0x28 ∷ 0x00 ∷ 0x3C ∷ []

-- Paper 1, a gauge as its maker prints it: sizes 3 and 7 repeat sizes 2 and 1; sizes 4, 5 and 6 are inferior by their width, by their height and by both.
abbrev printed_gauge : List ℕ
printed_gauge =
    0x01 ∷ 0x08 ∷ 0x00 ∷ 0x28 ∷ 0x00 ∷ 0x3C ∷ 0x00 ∷ 0x3C ∷ 0x00 ∷ 0x28 ∷ 0x00 ∷ 0x3C ∷ 0x00 ∷ 0x28 ∷ 0x00 ∷ 0x3C ∷ 0x00 ∷ 0x32 ∷ 0x00 ∷ 0x32 ∷ 0x00 ∷ 0x3C ∷ 0x00 ∷ 0x46 ∷ 0x00 ∷ 0x46 ∷ 0x00 ∷ 0x28 ∷ 0x00 ∷ 0x3C ∷ 0x00 ∷ 0x32 ∷ 0x00 ∷ 0x32 ∷ []

-- It by itself, in a file of version 2.
abbrev printed : List ℕ
printed = 0x46 ∷ 0x43 ∷ 0x45 ∷ 0x00 ∷ 0x02 ∷ 0x00 ∷ 0x01 ∷ printed_gauge

-- It left of (30, 50), (50, 30), (30, 50), (50, 40).
abbrev printed_pair : List ℕ
printed_pair =
    (0x46 ∷ 0x43 ∷ 0x45 ∷ 0x00 ∷ 0x02 ∷ 0x00 ∷ 0x03 ∷ printed_gauge)
    ++ (0x01 ∷ 0x04 ∷ 0x00 ∷ 0x1E ∷ 0x00 ∷ 0x32 ∷ 0x00 ∷ 0x32 ∷ 0x00 ∷ 0x1E ∷ 0x00 ∷ 0x1E ∷ 0x00 ∷ 0x32 ∷ 0x00 ∷ 0x32 ∷ 0x00 ∷ 0x28 ∷ 0x02 ∷ [])

-- Sizes from a height down to 1, each one wider than the one before it.
abbrev sizes_down : ℕ → ℕ → List ℕ
sizes_down zero w = []
sizes_down (suc h) w = 0x00 ∷ suc h ∷ 0x00 ∷ w ∷ sizes_down h (suc w)

abbrev gauge_of : ℕ → List ℕ
gauge_of n = 0x01 ∷ n ∷ sizes_down n 1

-- So many gauges of eight sizes, each right of all before it.
abbrev eights : ℕ → List ℕ
eights zero = []
eights (suc k) = gauge_of 8 ++ (0x02 ∷ eights k)

-- A gauge of `first` sizes and k gauges of eight: the last has one join above it, and the first has k.
abbrev lopsided : ℕ → ℕ → List ℕ
lopsided first k =
    0x46 ∷ 0x43 ∷ 0x45 ∷ 0x00 ∷ 0x01 ∷ 0x00 ∷ (1 + 2 * k) ∷ (gauge_of first ++ eights k)

-- So many gauges of 1,000 by 1,000, each right of all before it.
abbrev largest_gauge : List ℕ
largest_gauge = 0x01 ∷ 0x01 ∷ 0x03 ∷ 0xE8 ∷ 0x03 ∷ 0xE8 ∷ []

abbrev largest_gauges : ℕ → List ℕ
largest_gauges zero = []
largest_gauges (suc k) = largest_gauge ++ (0x02 ∷ largest_gauges k)

-- Sixty-four of them.
abbrev largest_row : List ℕ
largest_row = 0x46 ∷ 0x43 ∷ 0x45 ∷ 0x00 ∷ 0x01 ∷ 0x00 ∷ 0x7F ∷ (largest_gauge ++ largest_gauges 63)

-- A file of version 1, in version 2.
abbrev newer : List ℕ → List ℕ
newer file = take 4 file ++ (0x02 ∷ drop 5 file)

-- Paper 3, the words of document 01's file.
abbrev example_words : List ℕ
example_words = 3 ∷ 1 ∷ 2 ∷ 60 ∷ 40 ∷ 40 ∷ 60 ∷ 1 ∷ 2 ∷ 50 ∷ 30 ∷ 30 ∷ 50 ∷ 2 ∷ []

-- The words of a lopsided file, made as its bytes are.
abbrev words_down : ℕ → ℕ → List ℕ
words_down zero w = []
words_down (suc h) w = suc h ∷ w ∷ words_down h (suc w)

abbrev gauge_in_words : ℕ → List ℕ
gauge_in_words n = 1 ∷ n ∷ words_down n 1

abbrev eights_in_words : ℕ → List ℕ
eights_in_words zero = []
eights_in_words (suc k) = gauge_in_words 8 ++ (2 ∷ eights_in_words k)

abbrev lopsided_words : ℕ → ℕ → List ℕ
lopsided_words first k = (1 + 2 * k) ∷ (gauge_in_words first ++ eights_in_words k)

-- So many gauges of 1 by 1, and no join.
abbrev ungrouped : ℕ → List ℕ
ungrouped zero = []
ungrouped (suc k) = 1 ∷ 1 ∷ 1 ∷ 1 ∷ ungrouped k

-- Paper 7, the sheet of document 01's file up to its used area, where both gauges stand, and where both lie.
abbrev upright : List ℕ
upright =
    -- 1 40 60 2400
    0x31 ∷ 0x20 ∷ 0x34 ∷ 0x30 ∷ 0x20 ∷ 0x36 ∷ 0x30 ∷ 0x20 ∷ 0x32 ∷ 0x34 ∷ 0x30 ∷ 0x30 ∷ 0x0A ∷
    -- 2 30 50 1500
    0x32 ∷ 0x20 ∷ 0x33 ∷ 0x30 ∷ 0x20 ∷ 0x35 ∷ 0x30 ∷ 0x20 ∷ 0x31 ∷ 0x35 ∷ 0x30 ∷ 0x30 ∷ 0x0A ∷
    -- used 3900
    0x75 ∷ 0x73 ∷ 0x65 ∷ 0x64 ∷ 0x20 ∷ 0x33 ∷ 0x39 ∷ 0x30 ∷ 0x30 ∷ 0x0A ∷ []

abbrev lying : List ℕ
lying =
    -- 1 60 40 2400
    0x31 ∷ 0x20 ∷ 0x36 ∷ 0x30 ∷ 0x20 ∷ 0x34 ∷ 0x30 ∷ 0x20 ∷ 0x32 ∷ 0x34 ∷ 0x30 ∷ 0x30 ∷ 0x0A ∷
    -- 2 50 30 1500
    0x32 ∷ 0x20 ∷ 0x35 ∷ 0x30 ∷ 0x20 ∷ 0x33 ∷ 0x30 ∷ 0x20 ∷ 0x31 ∷ 0x35 ∷ 0x30 ∷ 0x30 ∷ 0x0A ∷
    -- used 3900
    0x75 ∷ 0x73 ∷ 0x65 ∷ 0x64 ∷ 0x20 ∷ 0x33 ∷ 0x39 ∷ 0x30 ∷ 0x30 ∷ 0x0A ∷ []

-- What comes after it, by the blank squares: without a rib, 60 high and 40 high; and with a rib of 5, side by side or stacked.
abbrev blank300 : List ℕ
blank300 =
    -- blank 300
    0x62 ∷ 0x6C ∷ 0x61 ∷ 0x6E ∷ 0x6B ∷ 0x20 ∷ 0x33 ∷ 0x30 ∷ 0x30 ∷ 0x0A ∷
    -- face 4200
    0x66 ∷ 0x61 ∷ 0x63 ∷ 0x65 ∷ 0x20 ∷ 0x34 ∷ 0x32 ∷ 0x30 ∷ 0x30 ∷ 0x0A ∷ []

abbrev blank500 : List ℕ
blank500 =
    -- blank 500
    0x62 ∷ 0x6C ∷ 0x61 ∷ 0x6E ∷ 0x6B ∷ 0x20 ∷ 0x35 ∷ 0x30 ∷ 0x30 ∷ 0x0A ∷
    -- face 4400
    0x66 ∷ 0x61 ∷ 0x63 ∷ 0x65 ∷ 0x20 ∷ 0x34 ∷ 0x34 ∷ 0x30 ∷ 0x30 ∷ 0x0A ∷ []

abbrev blank600 : List ℕ
blank600 =
    -- blank 600
    0x62 ∷ 0x6C ∷ 0x61 ∷ 0x6E ∷ 0x6B ∷ 0x20 ∷ 0x36 ∷ 0x30 ∷ 0x30 ∷ 0x0A ∷
    -- face 4500
    0x66 ∷ 0x61 ∷ 0x63 ∷ 0x65 ∷ 0x20 ∷ 0x34 ∷ 0x35 ∷ 0x30 ∷ 0x30 ∷ 0x0A ∷ []

-- That of a lone (1, 1).
abbrev sheet_lone : List ℕ
sheet_lone =
    -- 1 1 1 1
    0x31 ∷ 0x20 ∷ 0x31 ∷ 0x20 ∷ 0x31 ∷ 0x20 ∷ 0x31 ∷ 0x0A ∷
    -- used 1
    0x75 ∷ 0x73 ∷ 0x65 ∷ 0x64 ∷ 0x20 ∷ 0x31 ∷ 0x0A ∷
    -- blank 0
    0x62 ∷ 0x6C ∷ 0x61 ∷ 0x6E ∷ 0x6B ∷ 0x20 ∷ 0x30 ∷ 0x0A ∷
    -- face 1
    0x66 ∷ 0x61 ∷ 0x63 ∷ 0x65 ∷ 0x20 ∷ 0x31 ∷ 0x0A ∷ []

abbrev sheet : ℕ → Printed
sheet length = record { number = 0; length = length }

abbrev face : ℕ → ℕ → ℕ → ℕ → Fitted
face h w area count = record { number = 0; height = h; width = w; area = area; count = count }

abbrev pub rows : List Row
rows =
    lists example 0 (size 60 70 ∷ size 50 90 ∷ size 40 110 ∷ [])
    ∷ lists stacked_instead 0 (size 110 40 ∷ size 90 50 ∷ size 70 60 ∷ [])
    ∷ lists equal_heights 0 (size 60 70 ∷ [])
    ∷ fits lone_size 0 (outline 64_000 64_000) (face 1 1 1 1) (1 ∷ 0 ∷ 0 ∷ 1 ∷ 1 ∷ [])
    ∷ fits example 0 (outline 64_000 64_000) (face 60 70 4_200 3) (1 ∷ 0 ∷ 0 ∷ 40 ∷ 60 ∷ 1 ∷ 40 ∷ 0 ∷ 30 ∷ 50 ∷ [])
    ∷ fits example 0 (outline 55 64_000) (face 40 110 4_400 3) (2 ∷ 0 ∷ 0 ∷ 60 ∷ 40 ∷ 2 ∷ 60 ∷ 0 ∷ 50 ∷ 30 ∷ [])
    ∷ fits example 0 (outline 40 110) (face 40 110 4_400 3) (2 ∷ 0 ∷ 0 ∷ 60 ∷ 40 ∷ 2 ∷ 60 ∷ 0 ∷ 50 ∷ 30 ∷ [])
    ∷ fits example 0 (outline 40 109) (no_face 19) []
    ∷ fits equal_areas 0 (outline 64_000 64_000) (face 60 40 2_400 2) (1 ∷ 0 ∷ 0 ∷ 40 ∷ 60 ∷ [])
    ∷ lists printed 0 (size 60 40 ∷ size 50 50 ∷ size 40 60 ∷ [])
    ∷ fits printed 0 (outline 64_000 64_000) (face 60 40 2_400 3) (2 ∷ 0 ∷ 0 ∷ 40 ∷ 60 ∷ [])
    ∷ fits printed 0 (outline 55 55) (face 50 50 2_500 3) (8 ∷ 0 ∷ 0 ∷ 50 ∷ 50 ∷ [])
    ∷ fits printed 0 (outline 45 64_000) (face 40 60 2_400 3) (1 ∷ 0 ∷ 0 ∷ 60 ∷ 40 ∷ [])
    ∷ lists printed_pair 0 (size 60 70 ∷ size 50 80 ∷ size 40 110 ∷ [])
    ∷ fits printed_pair 0 (outline 64_000 64_000) (face 50 80 4_000 3) (8 ∷ 0 ∷ 0 ∷ 50 ∷ 50 ∷ 2 ∷ 50 ∷ 0 ∷ 30 ∷ 50 ∷ [])
    ∷ lists example 5 (size 60 75 ∷ size 50 95 ∷ size 40 115 ∷ [])
    ∷ lists stacked_instead 5 (size 115 40 ∷ size 95 50 ∷ size 75 60 ∷ [])
    ∷ fits example 5 (outline 65_260 65_260) (face 60 75 4_500 3) (1 ∷ 0 ∷ 0 ∷ 40 ∷ 60 ∷ 1 ∷ 45 ∷ 0 ∷ 30 ∷ 50 ∷ [])
    ∷ fits example 5 (outline 40 115) (face 40 115 4_600 3) (2 ∷ 0 ∷ 0 ∷ 60 ∷ 40 ∷ 2 ∷ 65 ∷ 0 ∷ 50 ∷ 30 ∷ [])
    ∷ fits example 5 (outline 40 114) (no_face 19) []
    ∷ lists largest_row 0 (size 1_000 64_000 ∷ [])
    ∷ lists largest_row 20 (size 1_000 65_260 ∷ [])
    ∷ asks 20 (outline 65_260 65_260) 0 0
    ∷ asks 21 (outline 65_260 65_260) 22 22
    ∷ asks 0 (outline 65_260 65_260) 0 0
    ∷ asks 20 (outline 65_261 65_260) 0 16
    ∷ asks 20 (outline 65_260 65_261) 0 16
    ∷ asks 21 (outline 65_261 65_260) 22 22
    ∷ saves example_words 28 0 (newer example)
    ∷ saves example_words 30 0 (newer example ++ (7 ∷ 7 ∷ []))
    ∷ saves example_words 27 18 (lent_room 27)
    ∷ saves (lopsided_words 8 63) 2_246 0 (newer (lopsided 8 63))
    ∷ saves (lopsided_words 8 63) 2_245 18 (lent_room 2_245)
    ∷ saves [] 9 5 (lent_room 9)
    ∷ saves (0 ∷ []) 9 4 (lent_room 9)
    ∷ saves (128 ∷ []) 9 4 (lent_room 9)
    ∷ saves (1 ∷ []) 9 5 (lent_room 9)
    ∷ saves (1 ∷ 257 ∷ 1 ∷ 30 ∷ 50 ∷ []) 13 6 (lent_room 13)
    ∷ saves (127 ∷ ungrouped 65) 9 10 (lent_room 9)
    ∷ saves (1 ∷ 1 ∷ []) 9 5 (lent_room 9)
    ∷ saves (1 ∷ 1 ∷ 257 ∷ 30 ∷ 50 ∷ []) 13 7 (lent_room 13)
    ∷ saves (1 ∷ 1 ∷ 2 ∷ 0 ∷ 0 ∷ 0 ∷ []) 9 5 (lent_room 9)
    ∷ saves (1 ∷ 1 ∷ 1 ∷ 65_537 ∷ 50 ∷ []) 13 8 (lent_room 13)
    ∷ saves (1 ∷ 2 ∷ []) 9 11 (lent_room 9)
    ∷ saves (2 ∷ ungrouped 2 ++ (0 ∷ [])) 9 12 (lent_room 9)
    ∷ saves (1 ∷ ungrouped 1 ++ (0 ∷ [])) 9 13 (lent_room 9)
    ∷ words example 14 0 example_words
    ∷ words (newer example) 16 0 (example_words ++ (7 ∷ 7 ∷ []))
    ∷ words example 13 18 (lent_room 13)
    ∷ words (lopsided 8 63) 1_216 0 (lopsided_words 8 63)
    ∷ words (lopsided 8 63) 1_215 18 (lent_room 1_215)
    ∷ widths example 0 (60 ∷ 60 ∷ 59 ∷ []) 4 4 (70 ∷ 70 ∷ 90 ∷ 7 ∷ [])
    ∷ widths example 0 (61 ∷ 51 ∷ 50 ∷ 49 ∷ 41 ∷ 40 ∷ 39 ∷ 39 ∷ []) 8 9 (70 ∷ 90 ∷ 90 ∷ 110 ∷ 110 ∷ 110 ∷ 0 ∷ 0 ∷ [])
    ∷ widths example 0 (39 ∷ 39 ∷ []) 2 3 (0 ∷ 0 ∷ [])
    ∷ widths example 0 [] 2 0 (7 ∷ 7 ∷ [])
    ∷ widths stacked_instead 0 (4_294_967_295 ∷ 100 ∷ 70 ∷ 69 ∷ []) 5 6 (40 ∷ 50 ∷ 60 ∷ 0 ∷ 7 ∷ [])
    ∷ widths example 5 (55 ∷ 40 ∷ []) 2 4 (95 ∷ 115 ∷ [])
    ∷ widths printed_pair 0 (50 ∷ []) 1 2 (80 ∷ [])
    ∷ heights [] 0 0
    ∷ heights (4_294_967_295 ∷ 1 ∷ []) 2 0
    ∷ heights (replicate 256 1) 256 0
    ∷ heights (replicate 257 1) 257 23
    ∷ heights (60 ∷ 60 ∷ []) 1 18
    ∷ heights (60 ∷ 61 ∷ []) 1 23
    ∷ heights (60 ∷ 0 ∷ []) 1 23
    ∷ sheets example 0 (outline 64_000 64_000) 128 (sheet 56) (upright ++ blank300 ++ lent_room 72)
    ∷ sheets example 5 (outline 65_260 65_260) 128 (sheet 56) (upright ++ blank600 ++ lent_room 72)
    ∷ sheets example 0 (outline 40 110) 129 (sheet 56) (lying ++ blank500 ++ lent_room 73)
    ∷ sheets stacked_instead 5 (outline 75 60) 128 (sheet 56) (lying ++ blank600 ++ lent_room 72)
    ∷ sheets lone_size 0 (outline 1 1) 96 (sheet 30) (sheet_lone ++ lent_room 66)
    ∷ sheets example 0 (outline 40 109) 128 (no_sheet 19) (lent_room 128)
    ∷ sheets example 0 (outline 40 109) 127 (no_sheet 18) (lent_room 127)
    ∷ sheets example 0 (outline 64_000 64_000) 127 (no_sheet 18) (lent_room 127)
    ∷ sheets example 20 (outline 0 64_000) 127 (no_sheet 16) (lent_room 127)
    ∷ sheets example 21 (outline 0 64_000) 127 (no_sheet 22) (lent_room 127)
    ∷ sheets (take 27 example) 21 (outline 0 64_000) 127 (no_sheet 5) (lent_room 127)
    ∷ tops (lopsided 7 15) 127 1
    ∷ tops (lopsided 8 15) 128 2
    ∷ tops (lopsided 7 63) 511 2
    ∷ tops (lopsided 8 63) 512 3
    ∷ uncuts 8 2
    ∷ uncuts 16 3
    ∷ reads 35 4_294_967_291 30
    ∷ ends 1 0 2 1 (item 60 35) (item 50 45)
    ∷ ends 1 0 2 2 (item 50 45) (item 60 35)
    ∷ ends 1 0 2 0 (no_item 21) (no_item 21)
    ∷ ends 1 0 2 3 (no_item 21) (no_item 21)
    ∷ ends 0 0 2 1 (no_item 20) (no_item 20)
    ∷ ends 2 0 2 1 (no_item 20) (no_item 20)
    ∷ ends 1 1 2 1 (no_item 20) (no_item 20)
    ∷ ends 1 0 0 1 (no_item 20) (no_item 20)
    ∷ ends 1 0 1 3 (no_item 20) (no_item 20)
    ∷ []

pub rows_hold : all holds rows ≡ true
unfolding face_of header sizes_after sizes_from gauge_sizes gauge_entry join_parts join_entry kind_entry entry entries one_part at_end
    level_count level_range levels_lent rib_given opening_given buffers_lent output_lent list_asks fit_asks
    times_four uncut_level largest_power top_level
    merge turn gauge_shapes shapes list_words written_over smallest no_taller index_of place
    word next_with last_with sum_from true_p held walk links_right linked falling backs_right lazy_list read_item read_low
    save_call word_call first_word words_face words_of file_of
    width_for seek walked heights_given width_asks
    total sheet_of sheet_checks
rows_hold = refl
