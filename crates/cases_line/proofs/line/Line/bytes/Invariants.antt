-- The bytes that were put are within the buffer. What is left of the line grows less, since each byte stands in it with two digits.
use Rattle.std.proofs.Common.{◌≤◌, length}
use Rattle.cases_line.proofs.line.Line.bytes.Given as goal

abbrev pub invariant-loop-byte : goal.invariant-loop-byte
invariant-loop-byte l = l.length ≤ length l.bytes

abbrev pub decreases-loop-byte : goal.decreases-loop-byte
decreases-loop-byte l = length l.self.rest.now
