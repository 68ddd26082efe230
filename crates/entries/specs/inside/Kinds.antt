-- The kinds of entries with their numbers, the kind that a part's last entry has, the two kinds of joins, and which way the list of a part runs. No public contract cites it.
use Rattle.std.specs.Prelude.{Bool, cond, not, ℕ, eqb}
use Rattle.checks.specs.declared.Check.TheVariants.{Kind as no_kind}
use Rattle.checks.specs.Answer.{Answer, refused, taken}
use Rattle.slicing.specs.Tree.{Tree, gauge, beside, stacked}
use Rattle.entries.specs.declared.kinds.Kind.{Kind}
use Rattle.entries.specs.declared.kinds.Kind.TheVariants.{Gauge, Beside, Stacked}

-- The number that stands for a kind, in a byte or a word.
abbrev pub byte_of : Kind → ℕ
byte_of Gauge = 0x01
byte_of Beside = 0x02
byte_of Stacked = 0x03

-- Check 6 of a number: the kind that has it.
abbrev pub kind_numbered : ℕ → Answer Kind
kind_numbered n =
    cond (eqb n 0x01) (taken Gauge) (cond (eqb n 0x02) (taken Beside) (cond (eqb n 0x03) (taken Stacked) (refused no_kind)))

-- The kind of a part's last entry, and its number.
abbrev pub last_kind : Tree → Kind
last_kind (gauge s) = Gauge
last_kind (beside a b) = Beside
last_kind (stacked a b) = Stacked

abbrev pub kind_of : Tree → ℕ
kind_of (gauge s) = 0x01
kind_of (beside a b) = 0x02
kind_of (stacked a b) = 0x03

-- The kind byte of a join, and the join.
pub data Cut : ℕ → (Tree → Tree → Tree) → Type 0 where
  cut_beside : Cut 0x02 beside
  cut_stacked : Cut 0x03 stacked

-- Whether a part of one kind runs the other way than a join of the other kind: stacked parts run by width, others by height.
unfoldable pub across : ℕ → ℕ → Bool
across part join = cond (eqb join 0x03) (not (eqb part 0x03)) (eqb part 0x03)
