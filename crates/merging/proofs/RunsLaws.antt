-- The loop over the runs: while both lists have a record, each turn takes the merge further; when it ends, the result holds the whole list.
-- The merge of the definitions gives nothing once one of its lists is empty, and the records that wait are counted along the first link.
use mathlib.Core.Path.{◌≡◌, refl, sym, ap, subst, ◌∙◌}
use mathlib.Core.Bool.{Bool, true, false, true≢false, false≢true}
use mathlib.Core.List.{List, [], ◌∷◌, ◌++◌, append-nil}
use Prim.Native.Nat.{ℕ, ◌+◌, ◌≤◌, ◌<◌}
use native.Mathlib.Omega.{arith}
use lib.Dec.{leb}
use lib.ListN.{length}
use borrow.Author.Tests.{leb-true, le-leb, lt-leb}
use Rattle.slicing.specs.Recorded.{Recorded, merge_recorded}
use Rattle.arena.specs.Arena.{word, forward, adjust}
use Rattle.arena.specs.inside.Chain.{Linked, trues}
use Rattle.arena.specs.inside.Carried.{carried}
use Rattle.arena.proofs.Cases.{lt_or_ge}
use Rattle.arena.proofs.Walking.{count, count_is, next_none, next_first}
use Rattle.searching.specs.inside.Cut.{Searchable}
use Rattle.stepping.specs.inside.Trio.{Trio}
use Rattle.stepping.specs.inside.Running.{Task, Merging, Underway, Both}
use Rattle.merging.specs.inside.Runs.{StepReady, StepDone, both_wait, RunsReady, RunsDone}

-- The test of the loop.
pub none_waits : (a : List ℕ) (ho hn x : ℕ) → x ≡ word a ho 3 → x < 1 → false ≡ both_wait a ho hn
unfolding both_wait
none_waits a ho hn x e less = simp (lt-leb 1 (word a ho 3) (omega arith))

pub newer_waits : (a : List ℕ) (ho hn x y : ℕ) (r : Bool) → x ≡ word a ho 3 → 1 ≤ x → y ≡ word a hn 3 → r ≡ leb 1 y → r ≡ both_wait a ho hn
unfolding both_wait
newer_waits a ho hn x y r e some f t = t ∙ ap (leb 1) f ∙ sym (simp (le-leb 1 (word a ho 3) (omega arith)))

-- What the loop keeps: every merge that was on its way at its start still is.
pub record Goes (gap : ℕ) (a a' : List ℕ) (ho hn : ℕ) (ends ends' : List ℕ) : Type 0 where
  pub still : (t : Task gap) → Underway t a ho hn ends → Underway t a' ho hn ends'

pub goes_start : (gap : ℕ) (a : List ℕ) (ho hn : ℕ) (ends : List ℕ) → Goes gap a a ho hn ends ends
goes_start gap a ho hn ends = record { still = λ t w. w }

-- The records that wait, by the walks along the first link.
abbrev pub waiting : List ℕ → ℕ → ℕ → ℕ
waiting a ho hn = count 512 a (forward a ho 0) + count 512 a (forward a hn 0)

counted : (a : List ℕ) (h : ℕ) (rs : List ℕ) → Searchable a h rs → count 512 a (forward a h 0) ≡ length rs
counted a h rs l =
    let top = l.linked.top in
    count_is 512 a rs (forward a h 0) l.linked.chain (l.linked.links.at 0 (omega arith)) l.few

-- A list is empty where its head's first forward is 0, and no other is.
forward_none : (a : List ℕ) (h : ℕ) → Linked a h [] → forward a h 0 ≡ 0
forward_none a h l = let top = l.top in l.links.at 0 (omega arith) ∙ next_none a

forward_some : (a : List ℕ) (h r : ℕ) (rs : List ℕ) → Linked a h (r ∷ rs) → 1 ≤ forward a h 0
forward_some a h r rs l =
    let top = l.top in
    let first = l.links.at 0 (omega arith) ∙ next_first a r rs l.chain.0 in
    let some = l.chain.0.some in
    omega arith

abbrev Some : List ℕ → Type 0
Some rs = (r : ℕ) × (qs : List ℕ) × (rs ≡ r ∷ qs)

waits_some : (a : List ℕ) (h : ℕ) (rs : List ℕ) → Linked a h rs → 1 ≤ forward a h 0 → Some rs
waits_some a h [] l some = let none = forward_none a h l in absurd (omega arith)
waits_some a h (r ∷ rs) l some = (r, rs, refl)

both_some : (a : List ℕ) (ho hn : ℕ) → both_wait a ho hn ≡ true → (1 ≤ forward a ho 0) × (1 ≤ forward a hn 0)
both_some a ho hn e =
    lt_or_ge (forward a ho 0) 1 (λ less. absurd (false≢true (none_waits a ho hn (forward a ho 0) refl less ∙ e)))
    (λ some. (some, leb-true 1 (forward a hn 0) (newer_waits a ho hn (forward a ho 0) (forward a hn 0) (leb 1 (forward a hn 0)) refl some refl refl ∙ e)))

both_true : (a : List ℕ) (ho hn : ℕ) → 1 ≤ forward a ho 0 → 1 ≤ forward a hn 0 → both_wait a ho hn ≡ true
unfolding both_wait
both_true a ho hn x y = simp (le-leb 1 (forward a ho 0) x, le-leb 1 (forward a hn 0) y)

-- A merge on its way where both heads have a first record.
both_of : {gap : ℕ} (t : Task gap) (a : List ℕ) (ho hn : ℕ) (ends : List ℕ) → both_wait a ho hn ≡ true → Underway t a ho hn ends → Both t a ho hn ends
both_of t a ho hn ends e w =
    let lists = w.merging.runs.waits.lists in
    let some = both_some a ho hn e in
    let x = waits_some a ho w.xs lists.older.linked some.0 in
    let y = waits_some a hn w.ys lists.newer.linked some.1 in
    record {
      r = x.0;
      xs = x.1;
      s = y.0;
      ys = y.1;
      cs = w.cs;
      merging =
          subst (λ (l : List ℕ). Merging t a ho hn (x.0 ∷ x.1) l w.cs ends) y.2
          (subst (λ (l : List ℕ). Merging t a ho hn l w.ys w.cs ends) x.2 w.merging);
    }

nothing_left : (gap : ℕ) (a : List ℕ) (ho hn hc : ℕ) (xs ys cs ends : List ℕ) → both_wait a ho hn ≡ false → Trio a ho hn hc xs ys cs ends → merge_recorded gap (carried a (adjust a ho) xs) (carried a (adjust a hn) ys) ≡ []
unfolding carried trues merge_recorded
nothing_left gap a ho hn hc [] ys cs ends e lists = refl
nothing_left gap a ho hn hc (x ∷ xs) [] cs ends e lists = refl
nothing_left gap a ho hn hc (x ∷ xs) (y ∷ ys) cs ends e lists =
    absurd
    (true≢false
    (sym (both_true a ho hn (forward_some a ho x xs lists.older.linked) (forward_some a hn y ys lists.newer.linked)) ∙ e))

module _ (gap : ℕ) (a a' : List ℕ) (ho hn : ℕ) (ends ends' : List ℕ) (more : Bool) (g : Goes gap a a' ho hn ends ends') (m : more ≡ both_wait a' ho hn) where
  pub goes_done : more ≡ false → RunsDone gap a a' ho hn ends ends'
  goes_done over t start =
      let w = g.still t start in
      let lists = w.merging.runs.waits.lists in
      record {
        xs = w.xs;
        ys = w.ys;
        cs = w.cs;
        lists = lists;
        gives =
            sym (append-nil (carried a' (adjust a' t.result) w.cs))
            ∙ ap (λ (l : List Recorded). carried a' (adjust a' t.result) w.cs ++ l)
            (sym (nothing_left gap a' ho hn t.result w.xs w.ys w.cs ends' (sym m ∙ over) lists))
            ∙ w.merging.runs.gives;
        confined = w.merging.confined;
        threads = w.merging.threads;
      }

  module _ (more_is : more ≡ true) where
    abbrev both : (t : Task gap) → Underway t a ho hn ends → Both t a' ho hn ends'
    both t start = both_of t a' ho hn ends' (sym m ∙ more_is) (g.still t start)

    pub goes_ready : RunsReady gap a ho hn ends → StepReady gap a' ho hn ends'
    goes_ready p = (p.0, both p.0 p.1)

    module _ (b ends'' : List ℕ) (d : StepDone gap a' b ho hn ends' ends'') where
      pub goes_turn : Goes gap a b ho hn ends ends''
      goes_turn = record { still = λ t start. (d t (both t start)).still }

      pub goes_less : RunsReady gap a ho hn ends → waiting b ho hn < waiting a' ho hn
      goes_less p =
          let w = both p.0 p.1 in
          let f = d p.0 w in
          let old = w.merging.runs.waits.lists in
          let new = f.still.merging.runs.waits.lists in
          let x = counted a' ho (w.r ∷ w.xs) old.older in
          let y = counted a' hn (w.s ∷ w.ys) old.newer in
          let u = counted b ho f.still.xs new.older in
          let v = counted b hn f.still.ys new.newer in
          let fewer = f.fewer in
          omega arith
