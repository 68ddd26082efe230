-- Document 02, Paper 3: a tree as a face file. "Out comes version 2 of the file."
use Rattle.std.specs.Prelude.{List, [], ◌∷◌, ◌++◌, ℕ, ◌/◌, ◌%◌}
use Rattle.slicing.specs.Tree.{Tree}
use Rattle.facefile.specs.Gauge.{size_bytes}
use Rattle.written.specs.EntriesOf.{entries_of, entry_count}

-- "16-bit fields have the high byte first."
abbrev pub field_bytes : ℕ → List ℕ
field_bytes x = x / 256 ∷ x % 256 ∷ []

-- "Three bytes `FCE` (46 43 45), a 16-bit version", here 2, and the number of entries.
abbrev pub header_bytes : ℕ → List ℕ
header_bytes entries = 0x46 ∷ 0x43 ∷ 0x45 ∷ (field_bytes 2 ++ field_bytes entries)

-- The header, and the entries with their sizes in bytes.
unfoldable pub file_of : Tree → List ℕ
file_of t = header_bytes (entry_count t) ++ entries_of size_bytes t
