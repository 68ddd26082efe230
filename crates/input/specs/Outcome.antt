-- How the reading of standard input into a buffer ended, by what the system answered to its last read.
use Rattle.std.specs.Prelude.{◌≡◌, ℕ, zero, suc, Result, Ok, Err}
use Rattle.std.specs.declared.io.Error.{Error}
use Rattle.input.specs.declared.Outcome.{Outcome}
use Rattle.input.specs.declared.Outcome.TheVariants.{Whole, CutOff, Failed}

-- POSIX's read answers 0 at the end of the input, and an error where it fails. Where the last read gave bytes the input may go on.
unfoldable pub outcome_of : Result ℕ Error → Outcome
outcome_of (Ok zero) = Whole
outcome_of (Ok (suc k)) = CutOff
outcome_of (Err e) = Failed e

-- What is known of the bytes that came, of a buffer with so much room: an input is cut off only where the buffer is full.
unfoldable pub Stopped : Outcome → (length room : ℕ) → Type 0
Stopped Whole length room = Unit {0}
Stopped CutOff length room = length ≡ room
Stopped (Failed e) length room = Unit {0}

-- How many of the bytes that came may be taken for the input. Where a read failed, those that did not come may be anything, and none may; why it failed is told.
unfoldable pub arrived : Outcome → (length : ℕ) → Result ℕ Error
arrived Whole length = Ok length
arrived CutOff length = Ok length
arrived (Failed e) length = Err e
