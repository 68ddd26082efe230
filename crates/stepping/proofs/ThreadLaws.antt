-- A step of the merge keeps the way back: a run goes to the result with it, and what waits keeps its own.
-- A run says what it does to the two lists that it changes, and neither it nor a record that leaves touches a back word of the other.
use mathlib.Core.Path.{◌≡◌, sym, subst}
use mathlib.Core.List.{List, ◌∷◌, ◌++◌}
use Prim.Native.Nat.{ℕ, ◌≤◌, ◌<◌}
use native.Mathlib.Omega.{arith}
use lib.ListN.{get_or}
use Rattle.arena.specs.Arena.{m_word, back, back_at}
use Rattle.arena.specs.inside.Chain.{All, Away}
use Rattle.arena.specs.inside.Backs.{Inner, Backs, last_of}
use Rattle.arena.proofs.Frames.{all_map}
use Rattle.arena.proofs.ListLaws.{apart_swap}
use Rattle.arena.proofs.BackLaws.{last_of_append, last_of_all, backs_inner, backs_frame, inner_frame}
use Rattle.searching.specs.inside.Cut.{front, behind}
use Rattle.searching.proofs.SearchLaws.{front_in}
use Rattle.searching.proofs.CutLaws.{front_behind, all_front, all_behind}
use Rattle.dropping.specs.inside.Dropping.{Dropped}
use Rattle.splicing.proofs.OpenLaws.{ends_last}
use Rattle.moving.specs.inside.Advance.{Run}
use Rattle.stepping.specs.inside.Trio.{Trio}
use Rattle.stepping.specs.inside.Threads.{Threads}

-- The number of a record fits a word.
abbrev Fits : ℕ → Type 0
Fits x = x < 4_294_967_296

pub threads_swap : (a : List ℕ) (hc : ℕ) (xs ys cs : List ℕ) → Threads a hc xs ys cs → Threads a hc ys xs cs
threads_swap a hc xs ys cs t =
    record {
      older = t.newer;
      newer = t.older;
      result = t.result;
      older_fits = t.newer_fits;
      newer_fits = t.older_fits;
      last_fits = t.last_fits;
    }

-- The end of the result at link 0 is its last record.
pub threads_end : (a : List ℕ) (ho hn hc : ℕ) (xs ys cs ends : List ℕ) → Trio a ho hn hc xs ys cs ends → Threads a hc xs ys cs → get_or ends 0 0 < 4_294_967_296
threads_end a ho hn hc xs ys cs ends lists t =
    subst Fits (sym (ends_last a hc cs ends lists.result lists.result_ends)) t.last_fits

-- A run of the older list went to the result.
module _ (a b : List ℕ) (ho hn hc key q r : ℕ) (xs ys cs ends ends' : List ℕ) (tops : key ≤ m_word a r) (lists : Trio a ho hn hc (r ∷ xs) ys cs ends) (run : Run a b ho hc key q cs (r ∷ xs) ends') (t : Threads a hc (r ∷ xs) ys cs) where
  abbrev fr : List ℕ
  fr = front a key (r ∷ xs)

  both : Backs b hc (cs ++ fr) × Inner b (behind a key (r ∷ xs))
  both = run.way_back (subst (Inner a) (front_behind a key (r ∷ xs)) t.older) t.result

  newer_still : All (λ y. back b y ≡ back a y) ys
  newer_still =
      all_map ys (λ y (off : Away y (r ∷ xs)). run.backs_off y (all_front (λ z. z ≡ y → ⊥) a key (r ∷ xs) off))
      (apart_swap (r ∷ xs) ys lists.lists_apart)

  last : last_of hc (cs ++ fr) < 4_294_967_296
  unfolding last_of
  last =
      subst (λ (l : List ℕ). last_of hc (cs ++ l) < 4_294_967_296) (sym (front_in a key r xs tops))
      (subst Fits (sym (last_of_append hc cs (r ∷ front a key xs)))
      (last_of_all Fits r (front a key xs) t.older_fits.0 (all_front Fits a key xs t.older_fits.1)))

  pub threads_moved : Threads b hc (behind a key (r ∷ xs)) ys (cs ++ fr)
  threads_moved =
      record {
        older = both.1;
        newer = inner_frame a b ys newer_still t.newer;
        result = both.0;
        older_fits = all_behind Fits a key (r ∷ xs) t.older_fits;
        newer_fits = t.newer_fits;
        last_fits = last;
      }

-- The first record of the newer list has left, and its head alone was touched.
module _ (a b : List ℕ) (ho hn hc y : ℕ) (xs ys cs ends : List ℕ) (lists : Trio a ho hn hc xs (y ∷ ys) cs ends) (d : Dropped a b hn y ys) where
  still : (rs : List ℕ) → Away hn rs → All (λ x. back b x ≡ back a x) rs
  still rs off = all_map rs (λ x (ne : x ≡ hn → ⊥). (d.outside x ne).at back_at (omega arith)) off

  pub threads_dropped : Threads a hc xs (y ∷ ys) cs → Threads b hc xs ys cs
  threads_dropped t =
      record {
        older = inner_frame a b xs (still xs lists.newer_off_older) t.older;
        newer = inner_frame a b ys (still ys lists.newer.linked.away.1) (backs_inner a y ys t.newer);
        result = backs_frame a b hc cs (still cs lists.newer_off_result) t.result;
        older_fits = t.older_fits;
        newer_fits = t.newer_fits.1;
        last_fits = t.last_fits;
      }
