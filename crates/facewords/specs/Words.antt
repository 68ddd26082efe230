-- Document 02, Paper 3: a face as "32-bit words: the number of entries, then for each its kind, and for a gauge the number of sizes and each height and width". They are the entries of a face file, with each number in a word of its own.
use Rattle.std.specs.Prelude.{List, [], ◌∷◌, ℕ, length, get_or, drop, ltb}
use Rattle.checks.specs.declared.Check.TheVariants.{Entries, Present}
use Rattle.checks.specs.Answer.{Answer, taken, ask, next}
use Rattle.slicing.specs.Item.{Item, size}
use Rattle.slicing.specs.Tree.{Tree}
use Rattle.sizes.specs.Rules.{Rules}
use Rattle.sizes.specs.GaugeSizes.{within}
use Rattle.entries.specs.Entry.{State, entries}
use Rattle.facefile.specs.Format.{at_end}
use Rattle.writing.specs.Words.{list_words}
use Rattle.written.specs.EntriesOf.{entries_of, entry_count}

-- A height and a width, one word each.
abbrev pub size_in_words : List ℕ → Item
size_in_words words = size (get_or words 0 0) (get_or words 1 0)

-- The questions of version 2, on sizes of two words each. A word counts whole: 257 is no kind and no number of sizes, and 65,537 no height.
abbrev pub word_rules : Rules
word_rules = record { version = 2; step = 2; size_of = size_in_words }

-- "5 when the words stop early (the first word included)"; "checks 4, 6 to 8 and 10 to 12 apply to the words". What is taken is the number of entries.
unfoldable pub first_word : List ℕ → Answer ℕ
first_word words =
    ask (ltb 0 (length words)) Present
    (ask (within 1 127 (get_or words 0 0)) Entries
    (taken (get_or words 0 0)))

-- Before the first entry: all words after the first, no part, no gauge.
abbrev pub words_start : List ℕ → State
words_start words = record { rest = drop 1 words; stack = []; gauges = 0 }

-- The face that the words mean: the first word, the entries, and the end, with "13 when words are left".
unfoldable pub words_face : List ℕ → Answer Tree
words_face words = next (first_word words) (λ count. next (entries word_rules count (words_start words)) at_end)

-- The words of a face.
unfoldable pub words_of : Tree → List ℕ
words_of t = entry_count t ∷ entries_of list_words t
