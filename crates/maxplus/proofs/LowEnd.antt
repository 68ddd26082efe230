-- Reading from the low end is reading from the top at the place counted from the other end, on any arena and at any place.
-- Both calls ask the same checks of the same list, and a place is inside it from one end just where it is from the other.
use Rattle.std.proofs.Common.{◌≡◌, ℕ, suc, ◌+◌, ◌-◌, ◌<◌, ◌≤◌, leb, List, length, get_or, refl, ap, ◌∙◌, arith}
use lib.ListN.{length-map}
use Rattle.checks.specs.declared.Check.TheVariants.{Buffers}
use Rattle.checks.specs.Limits.{buffer_words}
use Rattle.checks.specs.Answer.{Answer, refused, taken, ask, next, outcome}
use Rattle.slicing.specs.Item.{size}
use Rattle.slicing.specs.Recorded.{Recorded, items}
use Rattle.arena.specs.Lazy.{lazy_list}
use Rattle.arena.proofs.Cases.{lt_or_ge}
use Rattle.maxplus.specs.Read.{read_item, read_low, count_of}
use Rattle.maxplus.proofs.Places.{reversed_at, in_list, not_low, not_high, from_top, from_low}

-- On one list.
module _ (l : List Recorded) (place : ℕ) where
  abbrev other : ℕ
  other = length l + 1 - place

  abbrev Same : Type 0
  Same = from_low place l ≡ from_top other l

  inside : 1 ≤ place → place ≤ length l → Same
  inside low high =
      let long = length-map l (λ (r : Recorded). r.item) in
      let here : length (items l) - suc (place - 1) ≡ other - 1 = omega arith in
      rw (in_list place (length l) low high, in_list other (length l) (omega arith) (omega arith))
      (ap taken (reversed_at (items l) (place - 1) (size 0 0) (omega arith) ∙ ap (λ (i : ℕ). get_or (items l) i (size 0 0)) here))

  below : place < 1 → Same
  below h = rw (not_low place (length l) h, not_high other (length l) (omega arith) (omega arith)) refl

  beyond : 1 ≤ place → length l < place → Same
  beyond low h = rw (not_high place (length l) low h, not_low other (length l) (omega arith)) refl

  from_either : Same
  from_either = lt_or_ge place 1 below (λ low. lt_or_ge (length l) place (beyond low) (inside low))

-- "Reading takes a place from either end; the k-th from the low end is the item that a full reading from the top puts there." Place 0 and a place above the count stand for places that check 21 refuses too.
pub low_is_top : (a : List ℕ) (place : ℕ) → read_low a place ≡ read_item a (count_of a + 1 - place)
unfolding read_low read_item
low_is_top a place = ap (ask (leb buffer_words (length a)) Buffers) (go (lazy_list a))
  where
    go : (r : Answer (List Recorded)) → next r (from_low place) ≡ next r (from_top (outcome r 0 length + 1 - place))
    go (refused c) = refl
    go (taken l) = from_either l place

-- "the k-th from the low end is the item that a full reading from the top puts there", where k is the count: the first of the walk.
pub last_is_first : (a : List ℕ) → read_low a (count_of a) ≡ read_item a 1
last_is_first a = let one : count_of a + 1 - count_of a ≡ 1 = omega arith in low_is_top a (count_of a) ∙ ap (read_item a) one

-- "the k-th from the low end is the item that a full reading from the top puts there", where k is 1: the last of the walk.
pub first_is_last : (a : List ℕ) → read_low a 1 ≡ read_item a (count_of a)
first_is_last a = let all : count_of a + 1 - 1 ≡ count_of a = omega arith in low_is_top a 1 ∙ ap (read_item a) all
