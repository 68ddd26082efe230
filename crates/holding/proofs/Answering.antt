-- What a pass over an arena finds, by its length and the list that it holds: a law for each way out.
-- The pass asks the checks in the definition's order, and an arena holds a list just where the walk from the head can be followed to its end.
use mathlib.Core.Path.{◌≡◌, refl, sym, ap, subst, ◌∙◌}
use mathlib.Core.Bool.{Bool, true, ◌&&◌, and-eq-true_iff}
use mathlib.Core.List.{List, [], ◌∷◌}
use Prim.Native.Nat.{ℕ, zero, suc, ◌≤◌, ◌<◌}
use native.Mathlib.Omega.{arith}
use Rattle.std.specs.Prelude.{None}
use lib.Dec.{leb, eqb}
use lib.ListN.{length}
use borrow.Author.Tests.{le-leb, lt-leb, eqb-true, eq-eqb}
use Rattle.checks.specs.declared.Check.{Check}
use Rattle.checks.specs.declared.Check.TheVariants.{Buffers, LazyList}
use Rattle.checks.specs.Limits.{buffer_words, most_sizes}
use Rattle.checks.specs.Answer.{Answer, refused, taken, ask, next}
use Rattle.checks.proofs.Answers.{ask_taken, next_taken, RefusedBy, ask_refused, next_refused}
use Rattle.slicing.specs.Recorded.{Recorded, items}
use Rattle.holding.specs.declared.items.Item.{Item as Laid}
use Rattle.arena.specs.Arena.{level, forward}
use Rattle.arena.specs.Lazy.{last_with, held, walk, links_right, linked, falling, backs_right, lazy_list}
use Rattle.arena.specs.inside.Backs.{last_of}
use Rattle.holding.specs.inside.Pass.{arena_list, Lies, LaidOut}
use Rattle.holding.proofs.Following.{each, links_each, links_all, Under, Rest}

-- Every refusal of a list is by check 20.
abbrev ByList : {A : Type 0} → Answer A → Type 0
ByList a = RefusedBy (λ (c : Check). c ≡ LazyList) a

walk_by : (most : ℕ) (a : List ℕ) (r : ℕ) → ByList (walk most a r)
unfolding walk
walk_by zero a zero = tt
walk_by zero a (suc r) = refl
walk_by (suc most) a zero = tt
walk_by (suc most) a (suc r) =
    ask_refused _ (leb (suc r) 512) LazyList _ refl (next_refused _ (walk most a (forward a (suc r) 0)) _ (walk_by most a (forward a (suc r) 0)) (λ rs. tt))

abbrev whole : List ℕ → List ℕ → Bool
whole a rs = links_right a 0 rs 8 && (linked a rs && (falling (held a 0 [] rs) && backs_right a 0 rs))

abbrev judged : List ℕ → List ℕ → Answer (List Recorded)
judged a rs = ask (whole a rs) LazyList (taken (held a 0 [] rs))

lazy_by : (a : List ℕ) → ByList (lazy_list a)
unfolding lazy_list
lazy_by a =
    ask_refused _ (eqb (level a 0) 8) LazyList _ refl
    (next_refused _ (walk 512 a (forward a 0 0)) (judged a) (walk_by 512 a (forward a 0 0)) (λ rs. ask_refused _ (whole a rs) LazyList _ refl tt))

by_list : {A : Type 0} (x : Answer A) → ByList x → ((l : A) → x ≡ taken l → ⊥) → x ≡ refused LazyList
by_list (refused c) h f = ap refused h
by_list (taken l) h f = absurd (f l refl)

-- The first record may follow where none is passed.
pub under_first : (l : List Recorded) → Under None l
under_first [] = tt
under_first (x ∷ l) = tt

module _ (a : List ℕ) (head : level a 0 ≡ 8) where
  pub lazy_rest : (l : List Recorded) → lazy_list a ≡ taken l → (rs : List ℕ) × Rest a 512 [] None rs
  unfolding lazy_list last_with last_of
  lazy_rest l e =
      let one = ask_taken (eqb (level a 0) 8) LazyList (next (walk 512 a (forward a 0 0)) (judged a)) l e in
      let two = next_taken (walk 512 a (forward a 0 0)) (judged a) l one.1 in
      let three = ask_taken (whole a two.0) LazyList (taken (held a 0 [] two.0)) l two.2 in
      let rs = two.0 in
      let first = (and-eq-true_iff (links_right a 0 rs 8) (linked a rs && (falling (held a 0 [] rs) && backs_right a 0 rs))).0 three.0 in
      let second = (and-eq-true_iff (linked a rs) (falling (held a 0 [] rs) && backs_right a 0 rs)).0 first.1 in
      let third = (and-eq-true_iff (falling (held a 0 [] rs)) (backs_right a 0 rs)).0 second.1 in (
        rs,
        record {
          walks = two.1;
          links = links_each a 0 rs 8 first.0;
          chain = second.0;
          falls = third.0;
          under = under_first (held a 0 [] rs);
          backs = third.1;
        },
      )

  pub rest_lazy : (rs : List ℕ) → Rest a 512 [] None rs → lazy_list a ≡ taken (held a 0 [] rs)
  unfolding lazy_list last_with last_of
  rest_lazy rs k =
      let inner = each (linked a rs) _ k.chain (each (falling (held a 0 [] rs)) (backs_right a 0 rs) k.falls k.backs) in
      let right : whole a rs ≡ true = each (links_right a 0 rs 8) _ (links_all a 0 rs 8 k.links) inner in
      ap (λ (b : Bool). ask b LazyList (next (walk 512 a (forward a 0 0)) (judged a))) (eq-eqb (level a 0) 8 head)
      ∙ ap (λ (x : Answer (List ℕ)). next x (judged a)) k.walks
      ∙ ap (λ (b : Bool). ask b LazyList (taken (held a 0 [] rs))) right

laid_refused : (r : Answer (List Recorded)) (k : Check) (row : List Laid) → r ≡ refused k → LaidOut r row (refused k)
laid_refused r k row e =
    subst (λ (x : Answer (List Recorded)). LaidOut x row (refused k)) (sym e)
    (record { answer = refl; few = omega arith; lies = record { at = λ i d h. absurd (omega arith) } })

module _ (a : List ℕ) (row : List Laid) where
  pub no_list : ((l : List Recorded) → lazy_list a ≡ taken l → ⊥) → LaidOut (lazy_list a) row (refused LazyList)
  no_list f = laid_refused (lazy_list a) LazyList row (by_list (lazy_list a) (lazy_by a) f)

  -- Check 17.
  pub short_arena : length a < buffer_words → LaidOut (arena_list a) row (refused Buffers)
  unfolding arena_list
  short_arena h = laid_refused (arena_list a) Buffers row (rw (lt-leb buffer_words (length a) h))

  pub long_arena : (c : Answer ℕ) → buffer_words ≤ length a → LaidOut (lazy_list a) row c → LaidOut (arena_list a) row c
  unfolding arena_list
  long_arena c h k = rw (le-leb buffer_words (length a) h) k

  pub no_head : (w : ℕ) → buffer_words ≤ length a → w ≡ level a 0 → (w ≡ 8 → ⊥) → LaidOut (arena_list a) row (refused LazyList)
  unfolding lazy_list
  no_head w long s h =
      long_arena (refused LazyList) long
      (no_list
      (λ l t. h (s ∙ eqb-true _ _ (ask_taken (eqb (level a 0) 8) LazyList (next (walk 512 a (forward a 0 0)) (judged a)) l t).0)))

  pub list_laid : (l : List Recorded) (count : ℕ) → lazy_list a ≡ taken l → length l ≡ count → count ≤ most_sizes → Lies (items l) row → LaidOut (lazy_list a) row (taken count)
  list_laid l count holds size_is few lies =
      subst (λ (x : Answer (List Recorded)). LaidOut x row (taken count)) (sym holds)
      (record { answer = ap taken (sym size_is); few = few; lies = lies })
