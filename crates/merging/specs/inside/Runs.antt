-- The runs of a merge, one after the other, while both lists have a record. No public contract cites it.
use Rattle.std.specs.Prelude.{◌≡◌, List, Bool, ◌&&◌, ℕ, leb}
use Rattle.arena.specs.Arena.{forward, adjust}
use Rattle.arena.specs.inside.Carried.{carried}
use Rattle.stepping.specs.inside.Trio.{Trio}
use Rattle.stepping.specs.inside.Threads.{Threads}
use Rattle.stepping.specs.inside.Running.{Task, Confined, Underway, Further, Both, waiting_in}

-- A step asks for a merge whose lists both have a record, and brings each such merge further.
abbrev pub StepReady : ℕ → List ℕ → ℕ → ℕ → List ℕ → Type 0
StepReady gap a ho hn ends = (t : Task gap) × Both t a ho hn ends

abbrev pub StepDone : (gap : ℕ) (a b : List ℕ) (ho hn : ℕ) (ends ends' : List ℕ) → Type 0
StepDone gap a b ho hn ends ends' =
    (t : Task gap) (w : Both t a ho hn ends) → Further t b ho hn ends' (waiting_in w)

-- Whether both lists have a record, by the first forwards of their heads.
unfoldable pub both_wait : List ℕ → ℕ → ℕ → Bool
both_wait a ho hn = leb 1 (forward a ho 0) && leb 1 (forward a hn 0)

-- The merge is over: the open result holds the whole list.
pub record Finished {gap : ℕ} (t : Task gap) (a : List ℕ) (ho hn : ℕ) (ends : List ℕ) : Type 0 where
  pub xs : List ℕ
  pub ys : List ℕ
  pub cs : List ℕ
  pub lists : Trio a ho hn t.result xs ys cs ends
  pub gives : carried a (adjust a t.result) cs ≡ t.all
  pub confined : Confined t.arena a ho hn t.result t.older t.newer xs ys cs
  pub threads : Threads a t.result xs ys cs

-- The runs ask for a merge on its way, and finish each.
abbrev pub RunsReady : ℕ → List ℕ → ℕ → ℕ → List ℕ → Type 0
RunsReady gap a ho hn ends = (t : Task gap) × Underway t a ho hn ends

abbrev pub RunsDone : (gap : ℕ) (a b : List ℕ) (ho hn : ℕ) (ends ends' : List ℕ) → Type 0
RunsDone gap a b ho hn ends ends' = (t : Task gap) → Underway t a ho hn ends → Finished t b ho hn ends'
