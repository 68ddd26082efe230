-- The version 2 file of a tree is taken as that tree, and a taken version 2 file is that of its tree.
-- The header's seven bytes are those of the tree's number of entries, and the entries are read back and written back as they are.
use mathlib.Core.Path.{◌≡◌, refl, sym, ap, ◌∙◌}
use mathlib.Core.Bool.{true, ◌&&◌, and-eq-true_iff}
use mathlib.Core.List.{List, [], ◌∷◌, ◌++◌, append-nil}
use Prim.Native.Nat.{ℕ, suc, ◌+◌, ◌*◌, ◌/◌, ◌%◌, ◌≤◌}
use native.Mathlib.Omega.{arith}
use lib.ListN.{length, get_or, set, drop}
use lib.Seq.{drop-cons}
use lib.Dec.{eqb}
use borrow.Author.Tests.{le-leb, eqb-true}
use Rattle.checks.specs.Answer.{Answer, taken, next}
use Rattle.slicing.specs.Item.{Item, height, width}
use Rattle.slicing.specs.Tree.{Tree, gauge, beside, stacked, gauge_count, size_count}
use Rattle.slicing.specs.Good.{Good}
use Rattle.slicing.proofs.Counts.{gauges_joined}
use Rattle.slicing.proofs.Depths.{depth_few}
use Rattle.sizes.specs.GaugeSizes.{field, version_rules}
use Rattle.sizes.proofs.SizeChecks.{within_of}
use Rattle.entries.specs.Entry.{State, entries}
use Rattle.entries.proofs.Took.{state}
use Rattle.facefile.specs.Format.{Bytes, marked, header, start, one_part, at_end, face_of}
use Rattle.facefile.specs.Gauge.{size_bytes}
use Rattle.facefile.proofs.Taken.{face_read, face_taken}
use Rattle.written.specs.EntriesOf.{entries_of, entry_count}
use Rattle.written.specs.FileOf.{field_bytes, file_of}
use Rattle.written.proofs.Written.{face_written}
use Rattle.written.proofs.ReadBack.{Codes, entries_long, tree_puts}

two_bytes : (x : ℕ) → 256 * (x / 256) + x % 256 ≡ x
two_bytes x = omega arith

-- Four bytes a size.
pub bytes_long : (s : List Item) → length (size_bytes s) ≡ 4 * length s
bytes_long [] = refl
bytes_long (z ∷ s) = omega (arith, bytes_long s)

bytes_code : Codes (version_rules 2) size_bytes
bytes_code =
    record {
      any_order = λ e. omega arith;
      long = bytes_long;
      first = λ z s rest. simp (two_bytes (height z), two_bytes (width z));
      after = λ z s rest. refl;
    }

-- A join is one entry more than its parts have, so there is one entry fewer than twice the gauges.
pub entry_total : (t : Tree) → entry_count t + 1 ≡ 2 * gauge_count t
entry_total (gauge s) = refl
entry_total (beside a b) = omega (arith, gauges_joined a b, entry_total a, entry_total b)
entry_total (stacked a b) = omega (arith, gauges_joined a b, entry_total a, entry_total b)

pub entry_range : (t : Tree) → gauge_count t ≤ 64 → (1 ≤ entry_count t) × (entry_count t ≤ 127)
entry_range t few =
    let total = entry_total t in
    let some = depth_few t in
    (omega arith, omega arith)

file_header : (t : Tree) → gauge_count t ≤ 64 → header (file_of t) ≡ taken (entry_count t)
unfolding header file_of
file_header t few =
    let range = entry_range t few in
    simp (
      le-leb 7 (suc (suc (suc (suc (suc (suc (suc (length (entries_of size_bytes t))))))))) (omega arith),
      two_bytes (entry_count t),
      within_of 1 127 (entry_count t) range.0 range.1,
    )

pub file_read : (t : Tree) → Good t → gauge_count t ≤ 64 → face_of (file_of t) ≡ taken t
unfolding face_of file_of at_end one_part
file_read t h few =
    ap (λ (a : Answer ℕ). next a (λ count. next (entries (version_rules 2) count (start (file_of t))) at_end)) (file_header t few)
    ∙ ap (λ (l : List ℕ). next (entries (version_rules 2) (entry_count t) (state l [] 0)) at_end) (sym (append-nil (entries_of size_bytes t)))
    ∙ ap (λ (a : Answer State). next a at_end) (tree_puts (version_rules 2) size_bytes bytes_code t h [] [] 0 (omega arith))

pub file_long : (t : Tree) → length (file_of t) ≡ 6 + 3 * gauge_count t + 4 * size_count t
unfolding file_of
file_long t = omega (arith, entries_long (version_rules 2) size_bytes bytes_code t, entry_total t)

-- The header's bytes and the rest.
seven : (s : List ℕ) → 7 ≤ length s → s ≡ get_or s 0 0 ∷ get_or s 1 0 ∷ get_or s 2 0 ∷ get_or s 3 0 ∷ get_or s 4 0 ∷ get_or s 5 0 ∷ get_or s 6 0 ∷ drop 7 s
seven s h =
    drop-cons s 0 0 (omega arith)
    ∙ ap (λ (l : List ℕ). get_or s 0 0 ∷ l) (drop-cons s 1 0 (omega arith)
    ∙ ap (λ (l : List ℕ). get_or s 1 0 ∷ l) (drop-cons s 2 0 (omega arith)
    ∙ ap (λ (l : List ℕ). get_or s 2 0 ∷ l) (drop-cons s 3 0 (omega arith)
    ∙ ap (λ (l : List ℕ). get_or s 3 0 ∷ l) (drop-cons s 4 0 (omega arith)
    ∙ ap (λ (l : List ℕ). get_or s 4 0 ∷ l) (drop-cons s 5 0 (omega arith)
    ∙ ap (λ (l : List ℕ). get_or s 5 0 ∷ l) (drop-cons s 6 0 (omega arith)))))))

mark_bytes : (s : List ℕ) → marked s ≡ true → (get_or s 0 0 ≡ 0x46) × (get_or s 1 0 ≡ 0x43) × (get_or s 2 0 ≡ 0x45)
mark_bytes s e =
    let x = (and-eq-true_iff (eqb (get_or s 0 0) 0x46) (eqb (get_or s 1 0) 0x43 && eqb (get_or s 2 0) 0x45)).0 e in
    let y = (and-eq-true_iff (eqb (get_or s 1 0) 0x43) (eqb (get_or s 2 0) 0x45)).0 x.1 in
    (eqb-true (get_or s 0 0) 0x46 x.0, eqb-true (get_or s 1 0) 0x43 y.0, eqb-true (get_or s 2 0) 0x45 y.1)

-- The bytes of a taken file: those of its tree's file, but for the version.
file_bytes : (s : List ℕ) (t : Tree) (version : ℕ) → Bytes s → face_of s ≡ taken t → field s 3 ≡ version → s ≡ 0x46 ∷ 0x43 ∷ 0x45 ∷ 0x00 ∷ version ∷ (field_bytes (entry_count t) ++ entries_of size_bytes t)
file_bytes s t version b e is =
    let read = face_read s t e in
    let mark = mark_bytes s read.headed.mark in
    let total = entry_total t in
    let count = (face_taken s t e).entries_counted in
    let most = read.headed.version.1 in
    let high : get_or s 3 0 ≡ 0x00 = omega (arith, b 4) in
    let low : get_or s 4 0 ≡ version = omega (arith, b 4) in
    let entries_high : get_or s 5 0 ≡ entry_count t / 256 = omega (arith, b 6) in
    let entries_low : get_or s 6 0 ≡ entry_count t % 256 = omega (arith, b 6) in
    seven s read.headed.long
    ∙ rw (mark.0, mark.1, mark.2, high, low, entries_high, entries_low, face_written s t b e)

pub file_written : (s : List ℕ) (t : Tree) → Bytes s → face_of s ≡ taken t → field s 3 ≡ 2 → s ≡ file_of t
unfolding file_of
file_written s t b e two = file_bytes s t 2 b e two

-- Of either version, the file of the tree is the file with version 2 in its fifth byte.
pub as_version_2 : (s : List ℕ) (t : Tree) → Bytes s → face_of s ≡ taken t → file_of t ≡ set s 4 0x02
unfolding file_of
as_version_2 s t b e = ap (λ (l : List ℕ). set l 4 0x02) (sym (file_bytes s t (field s 3) b e refl))

-- Two version 2 files of one tree are equal.
pub same_file : (s u : List ℕ) (t : Tree) → Bytes s → Bytes u → face_of s ≡ taken t → face_of u ≡ taken t → field s 3 ≡ 2 → field u 3 ≡ 2 → s ≡ u
same_file s u t b c e f p q = file_written s t b e p ∙ sym (file_written u t c f q)
