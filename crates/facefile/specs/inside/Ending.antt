-- What the reader answers after the last entry. The contract inside the reader cites it, and no public one does.
use Rattle.std.specs.Prelude.{◌≡◌, List, ℕ}
use Rattle.entries.specs.Entry.{State}
use Rattle.entries.specs.declared.Cursor.{Cursor}
use Rattle.entries.specs.inside.Tracking.{Tracks}
use Rattle.facefile.specs.Format.{at_end}
use Rattle.checks.specs.Answer.{Answer}
use Rattle.facefile.specs.Summary.{counted}
use Rattle.facefile.specs.declared.Counts.{Counts}

-- From any state that the cursor stands for, the answer after the last entry is r.
unfoldable pub Ends : List ℕ → Cursor → Answer Counts → Type 0
Ends file c r = (s : State) → Tracks file c s → r ≡ counted (at_end s)
