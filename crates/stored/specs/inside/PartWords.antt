-- The four words of a part in the table: what is read from them, and what is written. No public contract cites it.
use Rattle.std.specs.Prelude.{cond, List, ℕ, ◌+◌, ◌*◌, eqb, get_or, set}
use Rattle.entries.specs.inside.Kinds.{byte_of, across}
use Rattle.entries.specs.declared.kinds.Kind.{Kind}
use Rattle.entries.specs.declared.kinds.Kind.TheVariants.{Gauge, Beside, Stacked}
use Rattle.packed.specs.declared.stretch.Stretch.{Stretch}
use Rattle.stored.specs.declared.table.Part.{Part}

-- The scratch with the four words of part e.
unfoldable pub entry_at : List ℕ → ℕ → ℕ → ℕ → ℕ → ℕ → List ℕ
entry_at s e from count kind gauges =
    set (set (set (set s (4 * e) from) (4 * e + 1) count) (4 * e + 2) kind) (4 * e + 3) gauges

-- The kind that a word stands for.
abbrev pub kind_read : ℕ → Kind
kind_read n = cond (eqb n 0x03) Stacked (cond (eqb n 0x02) Beside Gauge)

-- Part e, as its words say.
abbrev pub part_at : List ℕ → ℕ → Part
part_at s e =
    record { from = get_or s (4 * e) 0; count = get_or s (4 * e + 1) 0; kind = kind_read (get_or s (4 * e + 2) 0); gauges = get_or s (4 * e + 3) 0 }

-- The list of a part, as a stretch that is read for a join.
abbrev pub stretch_from : Part → Kind → Stretch
stretch_from p join = record { from = p.from; count = p.count; across = across (byte_of p.kind) (byte_of join) }

-- Part e of a table, as a stretch that is read for a join.
abbrev pub stretch_of : List ℕ → ℕ → ℕ → Stretch
stretch_of s e join =
    record { from = get_or s (4 * e) 0; count = get_or s (4 * e + 1) 0; across = across (get_or s (4 * e + 2) 0) join }
