-- `holding::items::items_of` meets its contract, on any arena.
-- A short arena and a head of another level are refused as the definition refuses them, and `lay_out` answers for all others.
use borrow.Author.Rules.{rules}
use Rattle.holding.proofs.Answering.{short_arena, long_arena, no_head}
use Rattle.holding.proofs.items.items_of.Goals as goal

pub returns-then-arena-lt-WORDS : goal.returns-then-arena-lt-WORDS
returns-then-arena-lt-WORDS c = search (rules, short_arena)

pub returns-then-get-ne8 : goal.returns-then-get-ne8
returns-then-get-ne8 c = search (rules, no_head)

pub returns : goal.returns
returns c = search (rules, long_arena)
