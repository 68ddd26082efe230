-- What a reading call answers, from what the pass found and from the item at a place of the row.
-- A refusal is the pass's own, and where check 21 takes a place, the row has its item there: place k from the top at k - 1, and from the low end at the count less k.
use Rattle.std.proofs.Common.{◌≡◌, ℕ, suc, ◌-◌, ◌<◌, ◌≤◌, Bool, true, false, ◌&&◌, leb, List, [], ◌∷◌, reverse, length, get_or, sym, refl, ap, ◌∙◌, subst, arith, le-leb}
use mathlib.Core.List.{reverse-cons}
use lib.ListN.{length-map, length-reverse, get_or-append}
use lib.Seq.{get_or_at}
use borrow.Author.Tests.{lt-leb}
use Rattle.checks.specs.declared.Check.{Check}
use Rattle.checks.specs.declared.Check.TheVariants.{Buffers, Place}
use Rattle.checks.specs.Limits.{buffer_words}
use Rattle.checks.specs.Answer.{Answer, refused, taken, ask, next, outcome}
use Rattle.checks.proofs.Answers.{not_both, same_taken, next_taken}
use Rattle.slicing.specs.Item.{Item, size}
use Rattle.slicing.specs.Recorded.{Recorded, items}
use Rattle.arena.specs.Lazy.{lazy_list}
use Rattle.arena.proofs.Cases.{lt_or_ge}
use Rattle.holding.specs.declared.items.Item.{Item as Laid}
use Rattle.holding.specs.inside.Pass.{arena_list, in_row, Lies, LaidOut}
use Rattle.maxplus.specs.declared.read_list.End.{End}
use Rattle.maxplus.specs.declared.read_list.End.TheVariants.{Top, Low}
use Rattle.maxplus.specs.Read.{read_item, read_low}
use Rattle.maxplus.specs.inside.Place.{answered, read_from}

-- The items of a list from the last to the first.
pub reversed_at : (l : List Item) (i : ℕ) (d : Item) → i < length l → get_or (reverse l) i d ≡ get_or l (length l - suc i) d
reversed_at [] i d h = absurd (omega arith)
reversed_at (x ∷ l) i d h =
    let long = length-reverse l in
    ap (λ (k : List Item). get_or k i d) (reverse-cons x l)
    ∙ lt_or_ge i (length l)
    (λ b.
    let later : suc (length l) - suc i ≡ suc (length l - suc i) = omega arith in
    get_or-append (reverse l) (x ∷ []) d i (omega arith) ∙ reversed_at l i d b ∙ ap (λ (j : ℕ). get_or (x ∷ l) j d) (sym later))
    (λ b.
    let first : suc (length l) - suc i ≡ 0 = omega arith in
    get_or_at (reverse l) x [] d i (omega arith) ∙ ap (λ (j : ℕ). get_or (x ∷ l) j d) (sym first))

-- Check 21 on a list of n items.
abbrev pub is_in_list : ℕ → ℕ → Bool
is_in_list place n = leb 1 place && leb place n

pub in_list : (place n : ℕ) → 1 ≤ place → place ≤ n → is_in_list place n ≡ true
in_list place n low high = rw (le-leb 1 place low, le-leb place n high)

pub not_low : (place n : ℕ) → place < 1 → is_in_list place n ≡ false
not_low place n h = rw (lt-leb 1 place h)

pub not_high : (place n : ℕ) → 1 ≤ place → n < place → is_in_list place n ≡ false
not_high place n low h = rw (le-leb 1 place low, lt-leb place n h)

-- The item at a place of a list, from its top and from its low end.
abbrev pub from_top : ℕ → List Recorded → Answer Item
from_top place l = ask (is_in_list place (length l)) Place (taken (get_or (items l) (place - 1) (size 0 0)))

abbrev pub from_low : ℕ → List Recorded → Answer Item
from_low place l = ask (is_in_list place (length l)) Place (taken (get_or (reverse (items l)) (place - 1) (size 0 0)))

ask_next : {A B : Type 0} (b : Bool) (k : Check) (r : Answer A) (f : A → Answer B) → ask b k (next r f) ≡ next (ask b k r) f
ask_next true k r f = refl
ask_next false k r f = refl

arena_top : (a : List ℕ) (place : ℕ) → read_item a place ≡ next (arena_list a) (from_top place)
unfolding read_item arena_list
arena_top a place = ask_next (leb buffer_words (length a)) Buffers (lazy_list a) (from_top place)

arena_low : (a : List ℕ) (place : ℕ) → read_low a place ≡ next (arena_list a) (from_low place)
unfolding read_low arena_list
arena_low a place = ask_next (leb buffer_words (length a)) Buffers (lazy_list a) (from_low place)

-- From either end.
abbrev from_end : End → ℕ → List Recorded → Answer Item
from_end Top = from_top
from_end Low = from_low

arena_end : (end : End) (a : List ℕ) (place : ℕ) → read_from end a place ≡ next (arena_list a) (from_end end place)
arena_end Top = arena_top
arena_end Low = arena_low

-- The pass's own refusal.
refused_so : (r : Answer (List Recorded)) (k : Check) → ◌≡◌ {A = Answer ℕ} (refused k) (next r (λ l. taken (length l))) → r ≡ refused k
refused_so (refused j) k e = let same : j ≡ k = cc in ap refused same
refused_so (taken l) k e = absurd (not_both k (length l) e)

-- Check 21, as the code asks it.
not_in_list : (place n : ℕ) → (1 ≤ place → place ≤ n → ⊥) → is_in_list place n ≡ false
not_in_list place n out =
    lt_or_ge place 1 (not_low place n)
    (λ low. lt_or_ge n place (not_high place n low) (λ high. absurd (out low high)))

-- The answers, from the row that the pass left and from what it answered.
module _ (a : List ℕ) (row : List Laid) (c : Answer ℕ) (laid : LaidOut (arena_list a) row c) (place : ℕ) where
  pub refused_end : (end : End) (k : Check) (r : Answer Laid) → c ≡ refused k → r ≡ refused k → answered r ≡ read_from end a place
  refused_end end k r c_is r_is =
      ap answered r_is
      ∙ ap (λ (x : Answer (List Recorded)). next x (from_end end place)) (sym (refused_so (arena_list a) k (sym c_is ∙ laid.answer)))
      ∙ sym (arena_end end a place)

  module _ (n : ℕ) (c_is : c ≡ taken n) where
    -- The list is there, and its length is what was answered.
    found : (l : List Recorded) × (arena_list a ≡ taken l) × (◌≡◌ {A = Answer ℕ} (taken (length l)) (taken n))
    found = next_taken (arena_list a) (λ (l : List Recorded). taken (length l)) n (sym laid.answer ∙ c_is)

    size_is : length found.0 ≡ n
    size_is = same_taken _ _ found.2

    lies : Lies (items found.0) row
    lies = subst (λ (r : Answer (List Recorded)). Lies (outcome r [] items) row) found.1 laid.lies

    read_is : (end : End) → from_end end place found.0 ≡ read_from end a place
    read_is end = ap (λ (x : Answer (List Recorded)). next x (from_end end place)) (sym found.1) ∙ sym (arena_end end a place)

    pub place_out : (end : End) → (1 ≤ place → place ≤ n → ⊥) → ◌≡◌ {A = Answer Item} (refused Place) (read_from end a place)
    place_out Top out = let long = size_is in rw (not_in_list place (length found.0) (λ p q. out p (omega arith))) at (read_is Top)
    place_out Low out = let long = size_is in rw (not_in_list place (length found.0) (λ p q. out p (omega arith))) at (read_is Low)

    module _ (end : End) (low : 1 ≤ place) (high : place ≤ n) (d : Laid) where
      inside : is_in_list place (length found.0) ≡ true
      inside = let long = size_is in in_list place (length found.0) low (omega arith)

      pub place_top : end ≡ Top → answered (taken (get_or row (place - 1) d)) ≡ read_from end a place
      place_top top =
          let long = size_is in
          let many = length-map found.0 (λ (r : Recorded). r.item) in
          ap (λ (x : Laid). answered (taken x)) (lies.at (place - 1) d (omega arith)) ∙ (rw inside at (read_is Top))
          ∙ ap (λ (e : End). read_from e a place) (sym top)

      pub place_low : end ≡ Low → answered (taken (get_or row (n - place) d)) ≡ read_from end a place
      place_low low_end =
          let long = size_is in
          let many = length-map found.0 (λ (r : Recorded). r.item) in
          let here : n - place ≡ length (items found.0) - suc (place - 1) = omega arith in
          ap (λ (x : Laid). answered (taken x))
          (lies.at (n - place) d (omega arith) ∙ ap (λ (i : ℕ). in_row (get_or (items found.0) i (size 0 0))) here)
          ∙ ap taken (sym (reversed_at (items found.0) (place - 1) (size 0 0) (omega arith))) ∙ (rw inside at (read_is Low))
          ∙ ap (λ (e : End). read_from e a place) (sym low_end)
