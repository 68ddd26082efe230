-- Laws of open lists: the ends of one whose levels are as they were, an empty one, and the last record.
-- The last record with a link hangs on the levels alone, where there is none it is the head, and every record has link 0.
use Rattle.std.proofs.Common.{◌≡◌, ℕ, List, [], get_or, replicate, sym, ◌∙◌, arith}
use lib.ListN.{length-replicate, get_or-replicate}
use Rattle.arena.specs.Arena.{level}
use Rattle.arena.specs.Lazy.{next_with, last_with}
use Rattle.arena.specs.inside.Chain.{Has, All, growing}
use Rattle.arena.specs.inside.Backs.{last_of}
use Rattle.arena.proofs.Frames.{last_frame, chain_low}
use Rattle.arena.proofs.BackLaws.{last_of_link}
use Rattle.splicing.specs.inside.Open.{OpenLinked, EndsOf}

pub ends_frame : (a b : List ℕ) (h : ℕ) (rs ends : List ℕ) → All (λ x. level b x ≡ level a x) rs → EndsOf a h rs ends → EndsOf b h rs ends
ends_frame a b h rs ends e c =
    record { long = c.long; at = λ k p. c.at k p ∙ sym (last_frame a b k h rs e) }

-- A cleared head has an empty open list, whose ends are the head.
pub open_empty : (a : List ℕ) (h : ℕ) → Has a h → level a h ≡ 8 → OpenLinked a h []
unfolding next_with
open_empty a h has top =
    record { has = has; top = top; links = record { at = λ k p more. absurd (omega arith) }; away = tt; chain = tt }

pub ends_filled : (a : List ℕ) (h : ℕ) → EndsOf a h [] (replicate 8 h)
unfolding last_with
ends_filled a h = record { long = omega (arith, length-replicate 8 h); at = λ k p. get_or-replicate 8 k h 0 p }

-- The end at link 0 is the last record.
pub ends_last : (a : List ℕ) (h : ℕ) (rs ends : List ℕ) → OpenLinked a h rs → EndsOf a h rs ends → get_or ends 0 0 ≡ last_of h rs
ends_last a h rs ends l e = e.at 0 (omega arith) ∙ last_of_link a h rs (chain_low growing a rs l.chain)
