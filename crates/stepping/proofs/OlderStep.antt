-- The older list's step: its calls are ready, and the merge is further on after it.
-- The first forward of the newer list's head is its first record, and the run that is moved is what `older_stays` and `older_drops` ask.
use mathlib.Core.Path.{◌≡◌, sym, ap, subst, ◌∙◌}
use mathlib.Core.List.{List, ◌∷◌, ◌++◌}
use Prim.Native.Nat.{ℕ, ◌+◌, ◌^◌, ◌≤◌, ◌<◌}
use native.Mathlib.Omega.{arith}
use lib.ListN.{length, get_or}
use Rattle.arena.specs.Arena.{word, level, m_word, adjust}
use Rattle.arena.specs.Lazy.{last_with}
use Rattle.arena.specs.inside.Chain.{Has, All, Away, Member, Linked, p_under, after, growing}
use Rattle.arena.specs.inside.Sums.{Summable, Renewed}
use Rattle.arena.proofs.ListLaws.{last_all, all_append}
use Rattle.arena.proofs.Cases.{eq_or_ne}
use Rattle.arena.proofs.Summing.{suffixes_agree}
use Rattle.arena.proofs.Frames.{chain_has}
use Rattle.searching.specs.inside.Cut.{front, behind}
use Rattle.searching.proofs.CutLaws.{behind_shorter, all_front}
use Rattle.dropping.specs.inside.Dropping.{Dropped, Tied, DroppedTied}
use Rattle.dropping.proofs.DropLaws.{same_first, first_has}
use Rattle.splicing.specs.inside.Open.{last_sums}
use Rattle.settling.specs.inside.Cached.{Cached}
use Rattle.moving.specs.inside.Advance.{Movable, MovedFront, Run, RunMoved}
use Rattle.stepping.specs.inside.Trio.{Trio, Kept}
use Rattle.stepping.specs.inside.Threads.{Threads}
use Rattle.stepping.specs.inside.Running.{Waiting, Confined, Task, Further, Both, waiting_in, OlderFirst, OlderReady, OlderDone}
use Rattle.stepping.proofs.TrioLaws.{trio_movable, trio_moved}
use Rattle.stepping.proofs.Steps.{firsts_fit, older_stays, older_drops}
use Rattle.stepping.proofs.Confined.{confined_moved, confined_dropped}
use Rattle.stepping.proofs.ThreadLaws.{threads_end, threads_moved, threads_dropped}

module _ (gap : ℕ) (a : List ℕ) (ho hn v : ℕ) (ends : List ℕ) (p : OlderReady gap a ho hn ends) (e : v ≡ word a hn 3) where
  abbrev now : Both p.0 a ho hn ends
  now = p.1.both

  abbrev waits : Waiting gap a ho hn p.0.result (now.r ∷ now.xs) (now.s ∷ now.ys) now.cs ends
  waits = now.merging.runs.waits

  same : v ≡ now.s
  same = same_first a hn v now.s now.ys waits.lists.newer.linked e

  pub older_has : Has a v
  older_has = first_has a hn v (now.s, now.ys, waits.lists.newer.linked) e

  older_some : 1 ≤ level a v
  older_some = subst (λ (x : ℕ). 1 ≤ level a x) (sym same) waits.lists.newer.linked.chain.0.low

  older_low : level a v ≤ 8
  older_low = subst (λ (x : ℕ). level a x ≤ 8) (sym same) waits.lists.newer.linked.chain.0.high

  pub older_summable : (olders newers lasts : List ℕ) → Kept a ho hn ends olders newers lasts → Summable a v newers
  older_summable olders newers lasts kept = record { has = older_has; low = older_some; high = older_low; nine = kept.newer.nine }

  pub older_fits : (q : ℕ) → q ≡ p_under a (adjust a hn) v → q + gap < 2 ^ 32
  older_fits q is =
      let sum = firsts_fit gap a ho hn p.0.result now.r now.s now.xs now.ys now.cs ends waits in
      let same_q : q ≡ p_under a (adjust a hn) now.s = is ∙ ap (p_under a (adjust a hn)) same in
      omega arith

  module _ (key : ℕ) (k : key ≡ word a v 1) where
    first : key ≡ m_word a now.s
    first = k ∙ ap (λ (x : ℕ). word a x 1) same

    pub older_movable : Movable a ho p.0.result key now.cs now.r now.xs ends
    older_movable =
        let low = p.1.order in
        let f = first in
        let some = waits.newer_room.0.some in
        trio_movable a ho hn p.0.result key now.r now.xs (now.s ∷ now.ys) now.cs ends waits.lists (omega arith) (omega arith)
        (threads_end a ho hn p.0.result (now.r ∷ now.xs) (now.s ∷ now.ys) now.cs ends waits.lists now.merging.threads)

    -- After the run was moved, in the words of the laws.
    module _ (b : List ℕ) (q : ℕ) (ends' : List ℕ) (f : q ≡ p_under a (adjust a hn) v + gap) (move : RunMoved a b ho key q ends ends') where
      pub older_run : Run a b ho p.0.result (m_word a now.s) (p_under a (adjust a hn) now.s + gap) now.cs (now.r ∷ now.xs) ends'
      older_run =
          subst (λ (x : ℕ). Run a b ho p.0.result (m_word a now.s) x now.cs (now.r ∷ now.xs) ends') (f ∙ ap (λ (x : ℕ). p_under a (adjust a hn) x + gap) same)
          (subst (λ (x : ℕ). Run a b ho p.0.result x q now.cs (now.r ∷ now.xs) ends') first (move p.0.result now.cs now.r now.xs older_movable))

      abbrev pub older_moved : MovedFront a b ho p.0.result (m_word a now.s) (p_under a (adjust a hn) now.s + gap) now.cs (now.r ∷ now.xs) ends'
      older_moved = older_run.moved

      abbrev result : List ℕ
      result = now.cs ++ front a (m_word a now.s) (now.r ∷ now.xs)

      pub end_is : get_or ends' 0 0 ≡ last_with b 0 p.0.result result
      end_is = older_moved.result_ends.at 0 (omega arith)

      pub end_has : Has b (get_or ends' 0 0)
      end_has =
          subst (λ (x : ℕ). Has b x) (sym end_is)
          (last_all b 0 (Has b) p.0.result result older_moved.result.has (chain_has growing b result older_moved.result.chain))

      pub newer_linked : Linked b hn (now.s ∷ now.ys)
      newer_linked =
          (trio_moved a b ho hn p.0.result (m_word a now.s) (p_under a (adjust a hn) now.s + gap) now.r now.xs (now.s ∷ now.ys) now.cs ends ends' waits.lists older_moved).newer.linked

      -- The sums kept, after the run was moved.
      module _ (olders newers lasts olders' lasts' : List ℕ) (kept : Kept a ho hn ends olders newers lasts) (cached : Cached b ho ends' olders' lasts') where
        off_front : Away hn (front a (m_word a now.s) (now.r ∷ now.xs))
        off_front = all_front (λ x. x ≡ hn → ⊥) a (m_word a now.s) (now.r ∷ now.xs) waits.lists.newer_off_older

        pub older_kept : Kept b ho hn ends' olders' newers lasts'
        older_kept =
            let lists = waits.lists in
            let still = older_moved.outside hn lists.older_newer (λ e. lists.newer_result (sym e)) lists.newer_off_result off_front in
            record {
              older = cached.head;
              newer = suffixes_agree (adjust a hn) (adjust b hn) newers (λ i low high. still.at (11 + i) (omega arith)) kept.newer;
              ends = cached.ends;
            }

        pub passed_summable : Summable b v newers
        passed_summable =
            let member = subst (λ (x : ℕ). Member b x now.ys) (sym same) newer_linked.chain.0 in
            record { has = member.has; low = member.low; high = member.high; nine = kept.newer.nine }

        pub tied : Tied b hn v (get_or ends' 0 0) newers
        tied = record { first = now.s; rest = now.ys; linked = newer_linked; summable = passed_summable; has = end_has }

        -- And after the newer list's first record left.
        pub dropped_kept : (c newers' : List ℕ) → ((r : ℕ) (rs : List ℕ) → Linked b hn (r ∷ rs) → Dropped b c hn r rs) → Renewed b v newers newers' → Kept c ho hn ends' olders' newers' lasts'
        dropped_kept c newers' drop passed =
            let lists = waits.lists in
            let now_kept = older_kept in
            let f = drop now.s now.ys newer_linked in
            let other : All (λ x. x ≡ hn → ⊥) result = all_append (λ x. x ≡ hn → ⊥) now.cs (front a (m_word a now.s) (now.r ∷ now.xs)) lists.newer_off_result off_front in
            let off : (i : ℕ) → i < 8 → get_or ends' i 0 ≡ hn → ⊥ =
            λ i few. subst (λ (x : ℕ). x ≡ hn → ⊥) (sym (older_moved.result_ends.at i few)) (last_all b i (λ x. x ≡ hn → ⊥) p.0.result result (λ e. lists.newer_result (sym e)) other) in
            record {
              older =
                  suffixes_agree (adjust b ho) (adjust c ho) olders'
                  (λ i low high. (f.outside ho lists.older_newer).at (11 + i) (omega arith)) now_kept.older;
              newer =
                  suffixes_agree (after b (adjust b hn) v) (adjust c hn) newers'
                  (λ i low high. f.sums i high ∙ ap (λ (x : ℕ). after b (adjust b hn) x i) (sym same))
                  (passed (adjust b hn) now_kept.newer);
              ends =
                  suffixes_agree (last_sums b ends') (last_sums c ends') lasts'
                  (λ i low high. (f.outside (get_or ends' i 0) (off i high)).at (11 + i) (omega arith)) now_kept.ends;
            }

-- The step over plain values: the run of the older list was moved, in the words of the laws.
module _ {gap : ℕ} (t : Task gap) (a b : List ℕ) (ho hn : ℕ) (ends ends' : List ℕ) (w : OlderFirst t a ho hn ends) where
  abbrev at : Both t a ho hn ends
  at = w.both

  abbrev m : ℕ
  m = m_word a at.s

  abbrev fr : List ℕ
  fr = front a m (at.r ∷ at.xs)

  abbrev back : List ℕ
  back = behind a m (at.r ∷ at.xs)

  abbrev Moves : Type 0
  Moves = Run a b ho t.result m (p_under a (adjust a hn) at.s + gap) at.cs (at.r ∷ at.xs) ends'

  abbrev end : ℕ
  end = m_word b (last_with b 0 t.result (at.cs ++ fr))

  fewer : length back < length (at.r ∷ at.xs)
  fewer = behind_shorter a m at.r at.xs w.order

  module _ (run : Moves) where
    abbrev d : MovedFront a b ho t.result m (p_under a (adjust a hn) at.s + gap) at.cs (at.r ∷ at.xs) ends'
    d = run.moved

    confined : Confined t.arena b ho hn t.result t.older t.newer back (at.s ∷ at.ys) (at.cs ++ fr)
    confined =
        confined_moved t.arena a b ho hn t.result m (p_under a (adjust a hn) at.s + gap) at.r t.older t.newer at.xs (at.s ∷ at.ys) at.cs ends'
        at.merging.confined d

    threads : Threads b t.result back (at.s ∷ at.ys) (at.cs ++ fr)
    threads =
        threads_moved a b ho hn t.result m (p_under a (adjust a hn) at.s + gap) at.r at.xs (at.s ∷ at.ys) at.cs ends ends' w.order at.merging.runs.waits.lists run at.merging.threads

    further_stays : (end ≡ m → ⊥) → Further t b ho hn ends' (waiting_in at)
    further_stays other =
        record {
          still =
              record {
                xs = back;
                ys = at.s ∷ at.ys;
                cs = at.cs ++ fr;
                merging =
                    record {
                      runs = older_stays gap a b ho hn t.result at.r at.s at.xs at.ys at.cs ends ends' t.all at.merging.runs w.order d other;
                      confined = confined;
                      threads = threads;
                    };
              };
          fewer = let f = fewer in omega arith;
        }

    lists_moved : Trio b ho hn t.result back (at.s ∷ at.ys) (at.cs ++ fr) ends'
    lists_moved =
        trio_moved a b ho hn t.result m (p_under a (adjust a hn) at.s + gap) at.r at.xs (at.s ∷ at.ys) at.cs ends ends' at.merging.runs.waits.lists d

    further_drops : (c : List ℕ) → end ≡ m → Dropped b c hn at.s at.ys → Further t c ho hn ends' (waiting_in at)
    further_drops c equal f =
        record {
          still =
              record {
                xs = back;
                ys = at.ys;
                cs = at.cs ++ fr;
                merging =
                    record {
                      runs = older_drops gap a b ho hn t.result at.r at.s at.xs at.ys at.cs ends ends' t.all at.merging.runs w.order d c equal f;
                      confined =
                          confined_dropped t.arena b c ho hn t.result at.s t.older t.newer back at.ys (at.cs ++ fr) confined
                          at.merging.runs.waits.lists.newer_result f;
                      threads = threads_dropped b c ho hn t.result at.s back at.ys (at.cs ++ fr) ends' lists_moved f threads;
                    };
              };
          fewer = let f = fewer in omega arith;
        }

-- The function: what it read and what its calls promise.
module _
    (gap : ℕ) (a b : List ℕ) (ho hn v key q : ℕ) (ends ends' : List ℕ)
    (e : v ≡ word a hn 3) (k : key ≡ word a v 1) (f : q ≡ p_under a (adjust a hn) v + gap) (move : RunMoved a b ho key q ends ends')
    (c newers newers' : List ℕ) (t : DroppedTied b c hn v (get_or ends' 0 0) key newers newers') where
  abbrev Tie : Type 0
  Tie = m_word b (get_or ends' 0 0) ≡ key

  module _ (task : Task gap) (w : OlderFirst task a ho hn ends) where
    moved : Moves task a b ho hn ends ends' w
    moved = older_run gap a ho hn v ends (task, w) e key k b q ends' f move

    last_is : m_word b (get_or ends' 0 0) ≡ end task a b ho hn ends ends' w
    last_is = ap (λ (x : ℕ). word b x 1) (end_is gap a ho hn v ends (task, w) e key k b q ends' f move)

    key_is : key ≡ m_word a w.both.s
    key_is = first gap a ho hn v ends (task, w) e key k

    stays : (Tie → ⊥) → Further task b ho hn ends' (waiting_in w.both)
    stays other =
        further_stays task a b ho hn ends ends' w moved (λ equal. other (last_is ∙ equal ∙ sym key_is))

    drops : Tie → Further task c ho hn ends' (waiting_in w.both)
    drops same =
        further_drops task a b ho hn ends ends' w moved c (sym last_is ∙ same ∙ key_is)
        (t.drops same w.both.s w.both.ys (newer_linked gap a ho hn v ends (task, w) e key k b q ends' f move))

  pub older_done : OlderDone gap a c ho hn ends ends'
  older_done task w =
      eq_or_ne (m_word b (get_or ends' 0 0)) key (drops task w)
      (λ other.
      subst (λ (x : List ℕ). Further task x ho hn ends' (waiting_in w.both)) (sym (t.stays other)) (stays task w other))

  pub tied_kept : (p : OlderReady gap a ho hn ends) (olders lasts olders' lasts' : List ℕ) → Kept a ho hn ends olders newers lasts → Cached b ho ends' olders' lasts' → Kept c ho hn ends' olders' newers' lasts'
  tied_kept p olders lasts olders' lasts' kept cached =
      eq_or_ne (m_word b (get_or ends' 0 0)) key
      (λ same.
      dropped_kept gap a ho hn v ends p e key k b q ends' f move olders newers lasts olders' lasts' kept cached c newers' (t.drops same)
      (t.passes same))
      (λ other.
      subst (λ (x : List ℕ). Kept x ho hn ends' olders' newers' lasts') (sym (t.stays other))
      (subst (λ (y : List ℕ). Kept b ho hn ends' olders' y lasts') (sym (t.sums_stay other))
      (older_kept gap a ho hn v ends p e key k b q ends' f move olders newers lasts olders' lasts' kept cached)))
