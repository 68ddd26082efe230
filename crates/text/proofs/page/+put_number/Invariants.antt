-- `text::page::put_number` ends: it calls itself with the tenth of a number that is ten or more, which is smaller.
use Rattle.text.proofs.page.+put_number.Given as goal

abbrev pub decreases-put_number : goal.decreases-put_number
decreases-put_number l = l.n
