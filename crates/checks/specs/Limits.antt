-- The limits that the questions of documents 01 and 02 name and that more than one place needs.
use Rattle.std.specs.Prelude.{ℕ}

-- "At most the 64th?": the gauges of a face.
abbrev pub most_gauges : ℕ
most_gauges = 64

-- "Numbered 1 to 512": the sizes of a face, 8 for each of 64 gauges, and so the records of its lists.
abbrev pub most_sizes : ℕ
most_sizes = 512

-- Document 02, Paper 2: "22 when the rib is above 20".
abbrev pub most_rib : ℕ
most_rib = 20

-- "Sums now reach 65,260, and the opening limit rises to it in check 16."
abbrev pub most_opening : ℕ
most_opening = 65_260

-- "Arena and scratch, each 16,384 32-bit words or more?"
abbrev pub buffer_words : ℕ
buffer_words = 16_384

-- Document 02, Paper 5: "up to 256 opening heights".
abbrev pub most_heights : ℕ
most_heights = 256
