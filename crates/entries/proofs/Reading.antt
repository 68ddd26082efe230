-- What the loop over the entries keeps: a state of the definition that its cursor stands for, from which the entries left give what all of them give.
-- Each turn takes one entry of the definition, and where the definition refuses it, it refuses all.
use mathlib.Core.Path.{◌≡◌, refl, ap, subst}
use mathlib.Core.List.{List}
use Prim.Native.Nat.{ℕ, suc, ◌+◌, ◌-◌, ◌≤◌, ◌<◌}
use native.Mathlib.Omega.{arith}
use lib.ListN.{length}
use Rattle.checks.specs.declared.Check.{Check}
use Rattle.checks.specs.Answer.{Answer, refused, taken, next}
use Rattle.sizes.specs.Rules.{Rules}
use Rattle.entries.specs.declared.Cursor.{Cursor}
use Rattle.entries.specs.Entry.{State, entry, entries}
use Rattle.entries.specs.inside.Tracking.{Fair, Tracks, Follows, Does, begun}

pub record Reading (rules : Rules) (file : List ℕ) (from : State) (count : ℕ) (c : Cursor) (i : ℕ) : Type 0 where
  pub inside : i ≤ count
  pub fair : Fair file c
  pub state : State
  pub tracks : Tracks file c state
  pub same : entries rules (count - i) state ≡ entries rules count from

pub reading_start : (rules : Rules) (file : List ℕ) (at count : ℕ) → at ≤ length file → Reading rules file (begun file at) count (record { at = at; parts = 0; gauges = 0; sizes = 0 }) 0
reading_start rules file at count h =
    record {
      inside = omega arith;
      fair = record { inside = h; parts_few = omega arith; gauges_few = omega arith; sizes_few = omega arith };
      state = begun file at;
      tracks = record { rest = refl; parts = refl; gauges = refl; gauge_total = refl; size_total = refl };
      same = let e : count - 0 ≡ count = omega arith in ap (λ (n : ℕ). entries rules n (begun file at)) e;
    }

-- One turn, which answers r.
module _ (rules : Rules) (file : List ℕ) (from : State) (count : ℕ) (c : Cursor) (i : ℕ) (r : Answer Cursor) (k : Reading rules file from count c i) (more : i < count) (does : Does (entry rules) file c r) where
  steps : next (entry rules k.state) (entries rules (count - (i + 1))) ≡ entries rules count from
  unfolding entries
  steps =
      let e : count - i ≡ suc (count - (i + 1)) = omega arith in
      subst (λ (n : ℕ). entries rules n k.state ≡ entries rules count from) e k.same

  said : Follows file (entry rules k.state) r
  unfolding Does
  said = does k.state k.tracks

  stopped : (a : Answer State) (e : Check) → Follows file a (refused e) → Follows file (next a (entries rules (count - (i + 1)))) (refused e)
  stopped (refused x) e f = f
  stopped (taken s) e f = absurd f

  pub reading_stop : (e : Check) → r ≡ refused e → Follows file (entries rules count from) (refused e)
  reading_stop e is =
      rw (← steps) (stopped (entry rules k.state) e (subst (λ (x : Answer Cursor). Follows file (entry rules k.state) x) is said))

  went : (a : Answer State) (d : Cursor) → Follows file a (taken d) → next a (entries rules (count - (i + 1))) ≡ entries rules count from → Reading rules file from count d (i + 1)
  went (refused x) d f e = absurd f
  went (taken s) d f e = record { inside = omega arith; fair = f.0; state = s; tracks = f.1; same = e }

  pub reading_next : (d : Cursor) → r ≡ taken d → Reading rules file from count d (i + 1)
  reading_next d e =
      went (entry rules k.state) d (subst (λ (x : Answer Cursor). Follows file (entry rules k.state) x) e said) steps

pub reading_done : (rules : Rules) (file : List ℕ) (from : State) (count : ℕ) (c : Cursor) (i : ℕ) → Reading rules file from count c i → count ≤ i → Follows file (entries rules count from) (taken c)
unfolding entries
reading_done rules file from count c i k h =
    let none : count - i ≡ 0 = omega arith in
    let all : taken k.state ≡ entries rules count from = subst (λ (n : ℕ). entries rules n k.state ≡ entries rules count from) none k.same in
    subst (λ (a : Answer State). Follows file a (taken c)) all (k.fair, k.tracks)
