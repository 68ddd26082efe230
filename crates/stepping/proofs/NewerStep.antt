-- The newer list's step: its calls are ready, and the merge is further on after it.
-- The first forward of the older list's head is its first record, and the run that is moved is what `newer_moves` asks.
use mathlib.Core.Path.{◌≡◌, sym, ap, subst, ◌∙◌}
use mathlib.Core.List.{List, ◌∷◌, ◌++◌}
use Prim.Native.Nat.{ℕ, ◌+◌, ◌^◌, ◌≤◌, ◌<◌}
use native.Mathlib.Omega.{arith}
use Rattle.arena.specs.Arena.{word, level, m_word, adjust}
use Rattle.arena.specs.inside.Chain.{Has, p_under}
use Rattle.arena.specs.inside.Sums.{Summable}
use Rattle.arena.proofs.Summing.{suffixes_agree}
use Rattle.searching.specs.inside.Cut.{front, behind}
use Rattle.searching.proofs.CutLaws.{behind_shorter, all_front}
use Rattle.dropping.proofs.DropLaws.{same_first, first_has}
use Rattle.settling.specs.inside.Cached.{Cached}
use Rattle.moving.specs.inside.Advance.{Movable, Run, RunMoved}
use Rattle.stepping.specs.inside.Trio.{Trio, Kept}
use Rattle.stepping.specs.inside.Threads.{Threads}
use Rattle.stepping.specs.inside.Running.{Waiting, Task, Further, Both, waiting_in, NewerFirst, NewerReady, NewerDone}
use Rattle.stepping.proofs.TrioLaws.{trio_swap, trio_movable}
use Rattle.stepping.proofs.Steps.{firsts_fit, newer_moves}
use Rattle.stepping.proofs.Confined.{confined_swap, confined_moved}
use Rattle.stepping.proofs.ThreadLaws.{threads_swap, threads_end, threads_moved}

module _ (gap : ℕ) (a : List ℕ) (ho hn v : ℕ) (ends : List ℕ) (p : NewerReady gap a ho hn ends) (e : v ≡ word a ho 3) where
  abbrev now : Both p.0 a ho hn ends
  now = p.1.both

  abbrev waits : Waiting gap a ho hn p.0.result (now.r ∷ now.xs) (now.s ∷ now.ys) now.cs ends
  waits = now.merging.runs.waits

  same : v ≡ now.r
  same = same_first a ho v now.r now.xs waits.lists.older.linked e

  pub newer_has : Has a v
  newer_has = first_has a ho v (now.r, now.xs, waits.lists.older.linked) e

  newer_some : 1 ≤ level a v
  newer_some = subst (λ (x : ℕ). 1 ≤ level a x) (sym same) waits.lists.older.linked.chain.0.low

  newer_low : level a v ≤ 8
  newer_low = subst (λ (x : ℕ). level a x ≤ 8) (sym same) waits.lists.older.linked.chain.0.high

  pub newer_room : (key : ℕ) → key ≡ word a v 1 → key + 1 < 2 ^ 32
  newer_room key k = subst (λ (x : ℕ). x + 1 < 2 ^ 32) (sym (k ∙ ap (λ (x : ℕ). word a x 1) same)) waits.older_room.0.small

  pub newer_fits : (q : ℕ) → q ≡ p_under a (adjust a ho) v → q + gap < 2 ^ 32
  newer_fits q is =
      let sum = firsts_fit gap a ho hn p.0.result now.r now.s now.xs now.ys now.cs ends waits in
      let same_q : q ≡ p_under a (adjust a ho) now.r = is ∙ ap (p_under a (adjust a ho)) same in
      omega arith

  pub newer_movable : (key : ℕ) → key ≡ word a v 1 → Movable a hn p.0.result (key + 1) now.cs now.s now.ys ends
  newer_movable key k =
      let first : key ≡ m_word a now.r = k ∙ ap (λ (x : ℕ). word a x 1) same in
      let less = p.1.order in
      trio_movable a hn ho p.0.result (key + 1) now.s now.ys (now.r ∷ now.xs) now.cs ends
      (trio_swap a ho hn p.0.result (now.r ∷ now.xs) (now.s ∷ now.ys) now.cs ends waits.lists) (omega arith)
      (omega arith) (threads_end a ho hn p.0.result (now.r ∷ now.xs) (now.s ∷ now.ys) now.cs ends waits.lists now.merging.threads)

  -- The sums kept, before the run is moved and after it.
  module _ (olders newers lasts : List ℕ) (kept : Kept a ho hn ends olders newers lasts) where
    pub newer_summable : Summable a v olders
    newer_summable = record { has = newer_has; low = newer_some; high = newer_low; nine = kept.older.nine }

    pub newer_cached : Cached a hn ends newers lasts
    newer_cached = record { head = kept.newer; ends = kept.ends }

    pub newer_kept : (key : ℕ) → key ≡ word a v 1 → (b : List ℕ) (q : ℕ) (ends' : List ℕ) → RunMoved a b hn (key + 1) q ends ends' → (newers' lasts' : List ℕ) → Cached b hn ends' newers' lasts' → Kept b ho hn ends' olders newers' lasts'
    newer_kept key k b q ends' move newers' lasts' cached =
        let lists = waits.lists in
        let d = (move p.0.result now.cs now.s now.ys (newer_movable key k)).moved in
        let still = d.outside ho (λ e. lists.older_newer (sym e)) (λ e. lists.older_result (sym e)) lists.older_off_result (all_front (λ x. x ≡ ho → ⊥) a (key + 1) (now.s ∷ now.ys) lists.older_off_newer) in
        record {
          older = suffixes_agree (adjust a ho) (adjust b ho) olders (λ i low high. still.at (11 + i) (omega arith)) kept.older;
          newer = cached.head;
          ends = cached.ends;
        }

-- The step over plain values: the run of the newer list was moved, in the words of the laws.
module _ {gap : ℕ} (t : Task gap) (a b : List ℕ) (ho hn : ℕ) (ends ends' : List ℕ) (w : NewerFirst t a ho hn ends) where
  abbrev at : Both t a ho hn ends
  at = w.both

  abbrev key : ℕ
  key = m_word a at.r + 1

  abbrev Moves : Type 0
  Moves = Run a b hn t.result key (p_under a (adjust a ho) at.r + gap) at.cs (at.s ∷ at.ys) ends'

  abbrev swapped : Trio a hn ho t.result (at.s ∷ at.ys) (at.r ∷ at.xs) at.cs ends
  swapped = trio_swap a ho hn t.result (at.r ∷ at.xs) (at.s ∷ at.ys) at.cs ends at.merging.runs.waits.lists

  newer_threads : Moves → Threads b t.result (at.r ∷ at.xs) (behind a key (at.s ∷ at.ys)) (at.cs ++ front a key (at.s ∷ at.ys))
  newer_threads run =
      threads_swap b t.result (behind a key (at.s ∷ at.ys)) (at.r ∷ at.xs) (at.cs ++ front a key (at.s ∷ at.ys))
      (threads_moved a b hn ho t.result key (p_under a (adjust a ho) at.r + gap) at.s at.ys (at.r ∷ at.xs) at.cs ends ends' (let less = w.order in omega arith) swapped run
      (threads_swap a t.result (at.r ∷ at.xs) (at.s ∷ at.ys) at.cs at.merging.threads))

  newer_further : Moves → Further t b ho hn ends' (waiting_in at)
  newer_further run =
      let d = run.moved in
      record {
        still =
            record {
              xs = at.r ∷ at.xs;
              ys = behind a key (at.s ∷ at.ys);
              cs = at.cs ++ front a key (at.s ∷ at.ys);
              merging =
                  record {
                    runs = newer_moves gap a b ho hn t.result at.r at.s at.xs at.ys at.cs ends ends' t.all at.merging.runs d;
                    confined =
                        confined_swap t.arena b hn ho t.result t.newer t.older (behind a key (at.s ∷ at.ys)) (at.r ∷ at.xs) (at.cs ++ front a key (at.s ∷ at.ys))
                        (confined_moved t.arena a b hn ho t.result key (p_under a (adjust a ho) at.r + gap) at.s t.newer t.older at.ys (at.r ∷ at.xs) at.cs ends'
                        (confined_swap t.arena a ho hn t.result t.older t.newer (at.r ∷ at.xs) (at.s ∷ at.ys) at.cs at.merging.confined) d);
                    threads = newer_threads run;
                  };
            };
        fewer = let f = behind_shorter a key at.s at.ys (let less = w.order in omega arith) in omega arith;
      }

pub newer_done : (gap : ℕ) (a b : List ℕ) (ho hn v key q : ℕ) (ends ends' : List ℕ) → v ≡ word a ho 3 → key ≡ word a v 1 → q ≡ p_under a (adjust a ho) v + gap
    → RunMoved a b hn (key + 1) q ends ends' → NewerDone gap a b ho hn ends ends'
newer_done gap a b ho hn v key q ends ends' e k f move t w =
    let at = w.both in
    let same = same_first a ho v at.r at.xs at.merging.runs.waits.lists.older.linked e in
    let d = move t.result at.cs at.s at.ys (newer_movable gap a ho hn v ends (t, w) e key k) in
    newer_further t a b ho hn ends ends' w
    (subst (λ (x : ℕ). Run a b hn t.result (m_word a at.r + 1) x at.cs (at.s ∷ at.ys) ends') (f ∙ ap (λ (x : ℕ). p_under a (adjust a ho) x + gap) same)
    (subst (λ (x : ℕ). Run a b hn t.result (x + 1) q at.cs (at.s ∷ at.ys) ends') (k ∙ ap (λ (x : ℕ). word a x 1) same) d))
