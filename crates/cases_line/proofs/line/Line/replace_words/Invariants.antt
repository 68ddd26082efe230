-- What is left of the line grows less, since a sign stands before each number.
use Rattle.std.proofs.Common.{length}
use Rattle.cases_line.proofs.line.Line.replace_words.Given as goal

abbrev pub decreases-loop-sign : goal.decreases-loop-sign
decreases-loop-sign l = length l.self.rest.now
