-- The bytes that a text takes at most.
use Rattle.std.specs.Prelude.{ℕ, ◌+◌, ◌*◌}

-- Room for the text of every face, where a number below 2^32 takes at most 10 bytes: 17 for the first line, 22 for each of at most 449 items, 38 for the best one and 58 for each of at most 64 gauges. It is 13,645.
abbrev pub text_bytes : ℕ
text_bytes = 17 + 22 * 449 + 38 + 58 * 64

-- Room for the line of a refused one.
abbrev pub refused_bytes : ℕ
refused_bytes = 19
