-- Every refusal of a file is by a check of the file.
-- The definition of a face asks no other question.
use mathlib.Core.Bool.{Bool, true, false, cond}
use mathlib.Core.List.{List, [], ◌∷◌}
use Prim.Native.Nat.{ℕ, zero, suc, ◌*◌}
use lib.ListN.{length, get_or, drop}
use lib.Dec.{leb, ltb, eqb}
use Rattle.checks.specs.declared.Check.{Check}
use Rattle.checks.specs.declared.Check.TheVariants.{Limits, Order, Present, Gauges, SizeCount, AtEnd, Length, Mark, Version, Entries}
use Rattle.checks.specs.Answer.{Answer, ask}
use Rattle.checks.proofs.Answers.{RefusedBy, ask_refused, next_refused}
use Rattle.checks.proofs.FileChecks.{FileCheck, of_length, of_mark, of_version, of_entries, of_present, of_kind, of_size_count, of_limits, of_order, of_gauges, of_join, of_one_part, of_at_end}
use Rattle.slicing.specs.Item.{Item}
use Rattle.slicing.specs.Tree.{Tree, beside, stacked}
use Rattle.sizes.specs.Rules.{Rules}
use Rattle.sizes.specs.GaugeSizes.{field, within, limited, in_order, sizes_after, sizes_from}
use Rattle.entries.specs.Entry.{State, skip, gauge_sizes, gauge_entry, join_parts, join_entry, kind_entry, entry, entries}
use Rattle.facefile.specs.Format.{marked, header, rules_of, start, one_part, at_end, face_of}

-- The answer is no refusal but by a check of the file.
abbrev ByFile : {A : Type 0} → Answer A → Type 0
ByFile a = RefusedBy FileCheck a

asks : {A : Type 0} (b : Bool) (c : Check) (a : Answer A) → FileCheck c → ByFile a → ByFile (ask b c a)
asks b c a = ask_refused FileCheck b c a

either : (b : Bool) (x y : Answer State) → ByFile x → ByFile y → ByFile (cond b x y)
either true x y h k = h
either false x y h k = k

after_by : (rules : Rules) (y : Item) (k : ℕ) (bytes : List ℕ) → ByFile (sizes_after rules y k bytes)
unfolding sizes_after
after_by rules y zero bytes = tt
after_by rules y (suc k) bytes =
    asks (limited (rules.size_of bytes)) Limits _ of_limits
    (asks (in_order rules y (rules.size_of bytes)) Order _ of_order
    (next_refused FileCheck (sizes_after rules (rules.size_of bytes) k (drop rules.step bytes)) _ (after_by rules (rules.size_of bytes) k (drop rules.step bytes)) (λ zs. tt)))

sizes_by : (rules : Rules) (k : ℕ) (bytes : List ℕ) → ByFile (sizes_from rules k bytes)
unfolding sizes_from
sizes_by rules zero bytes = tt
sizes_by rules (suc k) bytes =
    asks (limited (rules.size_of bytes)) Limits _ of_limits
    (next_refused FileCheck (sizes_after rules (rules.size_of bytes) k (drop rules.step bytes)) _ (after_by rules (rules.size_of bytes) k (drop rules.step bytes)) (λ zs. tt))

gauge_by : (rules : Rules) (s : State) → ByFile (gauge_entry rules s)
unfolding gauge_entry gauge_sizes
gauge_by rules s =
    asks (ltb s.gauges 64) Gauges _ of_gauges
    (asks (ltb 0 (length s.rest)) Present _ of_present
    (asks (within 1 8 (get_or s.rest 0 0)) SizeCount _ of_size_count
    (asks (leb (rules.step * get_or s.rest 0 0) (length (drop 1 s.rest))) Present _ of_present
    (next_refused FileCheck (sizes_from rules (get_or s.rest 0 0) (drop 1 s.rest)) _ (sizes_by rules (get_or s.rest 0 0) (drop 1 s.rest)) (λ zs. tt)))))

parts_by : (cut : Tree → Tree → Tree) (parts : List Tree) → ByFile (join_parts cut parts)
unfolding join_parts
parts_by cut [] = of_join
parts_by cut (b ∷ []) = of_join
parts_by cut (b ∷ a ∷ parts) = tt

join_by : (cut : Tree → Tree → Tree) (s : State) → ByFile (join_entry cut s)
unfolding join_entry
join_by cut s = next_refused FileCheck (join_parts cut s.stack) _ (parts_by cut s.stack) (λ parts. tt)

entry_by : (rules : Rules) (s : State) → ByFile (entry rules s)
unfolding entry kind_entry
entry_by rules s =
    let k = get_or s.rest 0 0 in
    asks (ltb 0 (length s.rest)) Present _ of_present
    (either (eqb k 0x01) _ _ (gauge_by rules (skip 1 s))
    (either (eqb k 0x02) _ _ (join_by beside (skip 1 s))
    (either (eqb k 0x03) _ _ (join_by stacked (skip 1 s)) of_kind)))

entries_by : (rules : Rules) (k : ℕ) (s : State) → ByFile (entries rules k s)
unfolding entries
entries_by rules zero s = tt
entries_by rules (suc k) s = next_refused FileCheck (entry rules s) (entries rules k) (entry_by rules s) (entries_by rules k)

end_by : (parts : List Tree) (rest : List ℕ) → ByFile (one_part parts rest)
unfolding one_part
end_by [] rest = of_one_part
end_by (t ∷ []) rest = asks (eqb (length rest) 0) AtEnd _ of_at_end tt
end_by (t ∷ a ∷ parts) rest = of_one_part

header_by : (s : List ℕ) → ByFile (header s)
unfolding header
header_by s =
    asks (leb 7 (length s)) Length _ of_length
    (asks (marked s) Mark _ of_mark
    (asks (within 1 2 (field s 3)) Version _ of_version
    (asks (within 1 127 (field s 5)) Entries _ of_entries tt)))

pub face_refused : (s : List ℕ) → RefusedBy FileCheck (face_of s)
unfolding face_of at_end
face_refused s =
    next_refused FileCheck (header s) _ (header_by s)
    (λ count. next_refused FileCheck (entries (rules_of s) count (start s)) at_end (entries_by (rules_of s) count (start s)) (λ e. end_by e.stack e.rest))
