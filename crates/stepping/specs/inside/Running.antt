-- A merge while it runs: what is finished stands in the open result, and the merge of what waits gives the rest. No public contract cites it.
use Rattle.std.specs.Prelude.{◌≡◌, ℕ, ◌+◌, ◌^◌, ◌≤◌, ◌<◌, length}
use mathlib.Core.List.{List, ◌∷◌, ◌++◌, Memᴰ}
use Rattle.slicing.specs.Good.{Ordered}
use Rattle.slicing.specs.Recorded.{Recorded, merge_recorded, items}
use Rattle.arena.specs.Arena.{level, m_word, adjust}
use Rattle.arena.specs.inside.Chain.{All, Away, Same}
use Rattle.arena.specs.inside.Carried.{carried}
use Rattle.stepping.specs.inside.Trio.{Roomy, Trio}
use Rattle.stepping.specs.inside.Threads.{Threads}

-- The lists xs and ys wait: they are ordered, and no sum of a p of each and the gap leaves 32 bits.
pub record Waiting (gap : ℕ) (a : List ℕ) (ho hn hc : ℕ) (xs ys cs ends : List ℕ) : Type 0 where
  pub lists : Trio a ho hn hc xs ys cs ends
  pub older_order : Ordered (items (carried a (adjust a ho) xs))
  pub newer_order : Ordered (items (carried a (adjust a hn) ys))
  pub small : (x y : Recorded) → Memᴰ x (carried a (adjust a ho) xs) → Memᴰ y (carried a (adjust a hn) ys) → x.item.p + gap + y.item.p < 2 ^ 32
  pub older_room : All (Roomy a) xs
  pub newer_room : All (Roomy a) ys

-- And cs is finished: all is the whole list that the merge is to give.
pub record Running (gap : ℕ) (a : List ℕ) (ho hn hc : ℕ) (xs ys cs ends : List ℕ) (all : List Recorded) : Type 0 where
  pub waits : Waiting gap a ho hn hc xs ys cs ends
  pub gives : carried a (adjust a hc) cs ++ merge_recorded gap (carried a (adjust a ho) xs) (carried a (adjust a hn) ys) ≡ all

-- The merge began in the arena a₀ with the lists xs₀ and ys₀, and has touched their records and the three heads alone.
pub record Confined (a₀ a : List ℕ) (ho hn hc : ℕ) (xs₀ ys₀ xs ys cs : List ℕ) : Type 0 where
  pub length_kept : length a ≡ length a₀
  pub level_kept : (x : ℕ) → level a x ≡ level a₀ x
  pub m_kept : (x : ℕ) → m_word a x ≡ m_word a₀ x
  pub result_sums : (k : ℕ) → k < 8 → adjust a hc k ≡ adjust a₀ hc k
  pub records : (x : ℕ) → Away x xs₀ → Away x ys₀ → Away x xs × Away x ys × Away x cs
  pub outside : (x : ℕ) → (ho ≡ x → ⊥) → (hn ≡ x → ⊥) → (hc ≡ x → ⊥) → Away x xs₀ → Away x ys₀ → Same a₀ a x

-- What a merge with a gap is to do: the arena that it began in, the head of the result, the two lists that it began with, and the whole list that it is to give.
pub record Task (gap : ℕ) : Type 0 where
  pub arena : List ℕ
  pub result : ℕ
  pub older : List ℕ
  pub newer : List ℕ
  pub all : List Recorded

-- A merge on its way: what waits, what is finished, what it has left alone, and the way back along its lists.
pub record Merging {gap : ℕ} (t : Task gap) (a : List ℕ) (ho hn : ℕ) (xs ys cs ends : List ℕ) : Type 0 where
  pub runs : Running gap a ho hn t.result xs ys cs ends t.all
  pub confined : Confined t.arena a ho hn t.result t.older t.newer xs ys cs
  pub threads : Threads a t.result xs ys cs

-- It is on its way, whatever its lists are.
pub record Underway {gap : ℕ} (t : Task gap) (a : List ℕ) (ho hn : ℕ) (ends : List ℕ) : Type 0 where
  pub xs : List ℕ
  pub ys : List ℕ
  pub cs : List ℕ
  pub merging : Merging t a ho hn xs ys cs ends

-- It is, with fewer than n records that wait.
pub record Further {gap : ℕ} (t : Task gap) (a : List ℕ) (ho hn : ℕ) (ends : List ℕ) (n : ℕ) : Type 0 where
  pub still : Underway t a ho hn ends
  pub fewer : length still.xs + length still.ys < n

-- It is, and both lists have a record: r is the first of the older list, and s of the newer.
pub record Both {gap : ℕ} (t : Task gap) (a : List ℕ) (ho hn : ℕ) (ends : List ℕ) : Type 0 where
  pub r : ℕ
  pub xs : List ℕ
  pub s : ℕ
  pub ys : List ℕ
  pub cs : List ℕ
  pub merging : Merging t a ho hn (r ∷ xs) (s ∷ ys) cs ends

-- The records that wait then.
abbrev pub waiting_in : {gap : ℕ} {t : Task gap} {a : List ℕ} {ho hn : ℕ} {ends : List ℕ} → Both t a ho hn ends → ℕ
waiting_in w = length (w.r ∷ w.xs) + length (w.s ∷ w.ys)

-- The older list's first m is smaller than the newer's.
pub record NewerFirst {gap : ℕ} (t : Task gap) (a : List ℕ) (ho hn : ℕ) (ends : List ℕ) : Type 0 where
  pub both : Both t a ho hn ends
  pub order : m_word a both.r < m_word a both.s

-- It is at least the newer's.
pub record OlderFirst {gap : ℕ} (t : Task gap) (a : List ℕ) (ho hn : ℕ) (ends : List ℕ) : Type 0 where
  pub both : Both t a ho hn ends
  pub order : m_word a both.s ≤ m_word a both.r

-- A step of either list asks for such a merge, and brings each such merge further.
abbrev pub NewerReady : ℕ → List ℕ → ℕ → ℕ → List ℕ → Type 0
NewerReady gap a ho hn ends = (t : Task gap) × NewerFirst t a ho hn ends

abbrev pub NewerDone : (gap : ℕ) (a b : List ℕ) (ho hn : ℕ) (ends ends' : List ℕ) → Type 0
NewerDone gap a b ho hn ends ends' =
    (t : Task gap) (w : NewerFirst t a ho hn ends) → Further t b ho hn ends' (waiting_in w.both)

abbrev pub OlderReady : ℕ → List ℕ → ℕ → ℕ → List ℕ → Type 0
OlderReady gap a ho hn ends = (t : Task gap) × OlderFirst t a ho hn ends

abbrev pub OlderDone : (gap : ℕ) (a b : List ℕ) (ho hn : ℕ) (ends ends' : List ℕ) → Type 0
OlderDone gap a b ho hn ends ends' =
    (t : Task gap) (w : OlderFirst t a ho hn ends) → Further t b ho hn ends' (waiting_in w.both)
