-- Document 01, "The face file" and "The checks, as questions", entry by entry: what an entry does to the stack of parts, or the first of checks 5 to 11 that it fails. The rules are those of the file's version, or of words.
use Rattle.std.specs.Prelude.{cond, List, [], ◌∷◌, ℕ, zero, suc, ◌+◌, ◌*◌, length, get_or, drop, leb, ltb, eqb}
use Rattle.checks.specs.declared.Check.TheVariants.{Present, Kind, SizeCount, Gauges, Join}
use Rattle.checks.specs.Answer.{Answer, refused, taken, ask, next}
use Rattle.slicing.specs.Item.{Item}
use Rattle.slicing.specs.Tree.{Tree, gauge, beside, stacked}
use Rattle.sizes.specs.Rules.{Rules}
use Rattle.sizes.specs.GaugeSizes.{within, sizes_from}

-- Where the reading of the entries stands: the bytes or words that are left, the stack of parts, the newest first, and the number of gauges so far.
pub record State : Type 0 where
  pub rest : List ℕ
  pub stack : List Tree
  pub gauges : ℕ

abbrev pub skip : ℕ → State → State
skip k s = record { rest = drop k s.rest; stack = s.stack; gauges = s.gauges }

-- The gauge is a new part on the stack.
abbrev pub gauge_taken : State → List Item → Answer State
gauge_taken s z = taken (record { rest = s.rest; stack = gauge z ∷ s.stack; gauges = s.gauges + 1 })

-- Count 1 to 8? 7. All bytes of its sizes present? 5. Then the sizes.
unfoldable pub gauge_sizes : Rules → ℕ → State → Answer State
gauge_sizes rules count s =
    ask (within 1 8 count) SizeCount
    (ask (leb (rules.step * count) (length s.rest)) Present
    (next (sizes_from rules count s.rest) (gauge_taken (skip (rules.step * count) s))))

-- For a gauge: at most the 64th? 10. Size-count byte present? 5.
unfoldable pub gauge_entry : Rules → State → Answer State
gauge_entry rules s =
    ask (ltb s.gauges 64) Gauges
    (ask (ltb 0 (length s.rest)) Present
    (gauge_sizes rules (get_or s.rest 0 0) (skip 1 s)))

-- For a join: two parts on the stack? 11. It takes the two newest parts off the stack and leaves one part. The older is left (02) or lower (03).
unfoldable pub join_parts : (Tree → Tree → Tree) → List Tree → Answer (List Tree)
join_parts cut [] = refused Join
join_parts cut (b ∷ []) = refused Join
join_parts cut (b ∷ a ∷ parts) = taken (cut a b ∷ parts)

unfoldable pub join_entry : (Tree → Tree → Tree) → State → Answer State
join_entry cut s =
    next (join_parts cut s.stack) (λ parts. taken (record { rest = s.rest; stack = parts; gauges = s.gauges }))

-- Kind 01, 02 or 03? 6.
unfoldable pub kind_entry : Rules → ℕ → State → Answer State
kind_entry rules kind s =
    cond (eqb kind 0x01) (gauge_entry rules s)
    (cond (eqb kind 0x02) (join_entry beside s)
    (cond (eqb kind 0x03) (join_entry stacked s)
    (refused Kind)))

-- Kind byte present? 5.
unfoldable pub entry : Rules → State → Answer State
entry rules s = ask (ltb 0 (length s.rest)) Present (kind_entry rules (get_or s.rest 0 0) (skip 1 s))

-- For each entry in turn.
unfoldable pub entries : Rules → ℕ → State → Answer State
entries rules zero s = taken s
entries rules (suc k) s = next (entry rules s) (entries rules k)
