-- `text::page::put_number` meets its contract.
-- One digit is a number below ten, and the last digit after the tenth is the number.
use borrow.Author.Rules.{rules}
use native.Mathlib.Omega.{arith}
use Rattle.text.proofs.Numbers.{number_one, one_room, tenth_room, last_room, number_more}
use Rattle.text.proofs.page.+put_number.Goals as goal

pub bounds-buffer-at : goal.bounds-buffer-at
bounds-buffer-at t c = search (rules, one_room)

pub returns-then-n-lt10 : goal.returns-then-n-lt10
returns-then-n-lt10 t c = search (rules, number_one)

pub put_number-last-requires : goal.put_number-last-requires
put_number-last-requires t c = (omega arith, search (rules, tenth_room))

pub bounds-buffer-last : goal.bounds-buffer-last
bounds-buffer-last t c = search (rules, last_room)

pub returns : goal.returns
returns t c = search (rules, number_more)

pub overflow_add-result-2 : goal.overflow_add-result-2
overflow_add-result-2 t c = omega (arith, bounds-buffer-last t c)
