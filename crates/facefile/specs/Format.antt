-- Document 01, "The face file" and "The checks, as questions", up to check 13, with document 02's versions: any bytes, taken to the slicing tree that they mean, or refused with the first check that they fail.
use Rattle.std.specs.Prelude.{Bool, ◌&&◌, List, [], ◌∷◌, ℕ, ◌<◌, length, get_or, drop, leb, eqb}
use Rattle.checks.specs.declared.Check.TheVariants.{Length, Mark, Version, Entries, OnePart, AtEnd}
use Rattle.checks.specs.Answer.{Answer, refused, taken, ask, next}
use Rattle.slicing.specs.Tree.{Tree}
use Rattle.sizes.specs.Rules.{Rules}
use Rattle.sizes.specs.GaugeSizes.{field, within, version_rules}
use Rattle.entries.specs.Entry.{State, entries}

-- The numbers of a file are bytes.
abbrev pub Bytes : List ℕ → Type 0
Bytes s = (i : ℕ) → get_or s i 0 < 256

-- First three `FCE`?
abbrev pub marked : List ℕ → Bool
marked s = eqb (get_or s 0 0) 0x46 && (eqb (get_or s 1 0) 0x43 && eqb (get_or s 2 0) 0x45)

-- 7 bytes or more? 1. First three `FCE`? 2. Version? 3: "Check 3 takes 1 and 2". Entries 1 to 127? 4. What is taken is the number of entries.
unfoldable pub header : List ℕ → Answer ℕ
header s =
    ask (leb 7 (length s)) Length
    (ask (marked s) Mark
    (ask (within 1 2 (field s 3)) Version
    (ask (within 1 127 (field s 5)) Entries
    (taken (field s 5)))))

-- The rules of the file's version.
abbrev pub rules_of : List ℕ → Rules
rules_of s = version_rules (field s 3)

-- Before the first entry: all bytes after the first seven, no part, no gauge.
abbrev pub start : List ℕ → State
start s = record { rest = drop 7 s; stack = []; gauges = 0 }

-- After the last entry: one part left? 12. File at its end? 13.
unfoldable pub one_part : List Tree → List ℕ → Answer Tree
one_part [] rest = refused OnePart
one_part (t ∷ []) rest = ask (eqb (length rest) 0) AtEnd (taken t)
one_part (t ∷ a ∷ parts) rest = refused OnePart

unfoldable pub at_end : State → Answer Tree
at_end s = one_part s.stack s.rest

-- A face file: the header, the entries, the end.
unfoldable pub face_of : List ℕ → Answer Tree
face_of s = next (header s) (λ count. next (entries (rules_of s) count (start s)) at_end)
