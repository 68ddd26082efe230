-- What the loop that writes a list's items from the buffer's start keeps: the items left, written from the place reached, give what all items give from the start.
-- A record's two words are stored at the place, the sums pass the record, and the words left go on two places further.
use mathlib.Core.Path.{◌≡◌, refl, sym, ap, ap₂, ◌∙◌}
use mathlib.Core.List.{List, [], ◌∷◌}
use Prim.Native.Nat.{ℕ, ◌+◌, ◌*◌, ◌/◌, ◌≤◌}
use native.Mathlib.Omega.{arith}
use lib.ListN.{length, get_or}
use lib.Seq.{sets}
use Rattle.slicing.specs.Item.{Item}
use Rattle.slicing.specs.Recorded.{items}
use Rattle.arena.specs.Arena.{word, m_word, adjust, forward_at}
use Rattle.arena.specs.Lazy.{held}
use Rattle.arena.specs.inside.Chain.{p_under, after, trues}
use Rattle.arena.specs.inside.Sums.{Suffixes, Summable, Enterable, TrueP, Renewed}
use Rattle.arena.specs.inside.Carried.{carried}
use Rattle.lent.specs.Lent.{written_over}
use Rattle.writing.specs.Words.{list_words}
use Rattle.writing.specs.inside.Writing.{Listable, item_at}
use Rattle.writing.proofs.ListWalk.{Walk, walk_start, walk_summable, walk_know, walk_more, walk_done}
use Rattle.writing.proofs.WordLaws.{words_length, over_sets, sets_more, length_item}
use Rattle.writing.proofs.ItemLaws.{items_of, items_first, items_length, items_held}

-- The items of qs are left to write from the place `at`, of those of rs, and the words hold the sums f that lead to them.
pub record Onward (a : List ℕ) (h : ℕ) (old out sums : List ℕ) (at : ℕ) (rs qs : List ℕ) : Type 0 where
  pub f : ℕ → ℕ
  pub suffixes : Suffixes f sums
  pub long : length out ≡ length old
  pub room : 2 * length rs ≤ length old
  pub place : at + 2 * length qs ≡ 2 * length rs
  pub rest : sets out at (list_words (items_of a f qs)) ≡ sets old 0 (list_words (items_of a (adjust a h) rs))

abbrev pub Heights : List ℕ → ℕ → List ℕ → List ℕ → List ℕ → ℕ → ℕ → Type 0
Heights a h old out sums next at = Walk a h next (Onward a h old out sums at)

-- The sums can be entered at the head.
pub head_enterable : (a : List ℕ) (h : ℕ) (out zeros : List ℕ) → (rs : List ℕ) × Listable a h rs out → length zeros ≡ 9 → get_or zeros 8 0 ≡ 0 → Enterable a h zeros
head_enterable a h out zeros (rs, t) e none = record { has = t.linked.has; nine = e; none = none }

pub heights_start : (a : List ℕ) (h : ℕ) (out sums : List ℕ) (next : ℕ) → (rs : List ℕ) × Listable a h rs out → Suffixes (adjust a h) sums → next ≡ word a h forward_at → Heights a h out out sums next 0
heights_start a h out sums next (rs, t) entered e =
    walk_start a h rs next (Onward a h out out sums 0) t.linked t.few e
    (record {
      f = adjust a h;
      suffixes = entered;
      long = refl;
      room = t.room;
      place = omega arith;
      rest = refl;
    })

module _ (a : List ℕ) (h : ℕ) (old out sums : List ℕ) (next at : ℕ) (w : Heights a h old out sums next at) (some : next ≡ 0 → ⊥) (r : ℕ) (same : r ≡ next) where
  pub heights_summable : Summable a r sums
  heights_summable = walk_summable a h next (Onward a h old out sums at) w some r same sums w.state.suffixes.nine

  pub heights_room : at + 2 ≤ length out
  heights_room =
      walk_know a h next (Onward a h old out sums at) w some r same
      (λ rs qs s.
      let long = s.long in
      let room = s.room in
      let place = s.place in
      omega arith)

  pub heights_more : (x y : ℕ) (out' sums' : List ℕ) (n : ℕ) → x ≡ m_word a r → TrueP a r sums y → out' ≡ item_at out at x y → Renewed a r sums sums' → n ≡ word a r forward_at → Heights a h old out' sums' n (at + 2)
  unfolding list_words
  heights_more x y out' sums' n x_is y_is out_is passed e =
      walk_more a h next (Onward a h old out sums at) w some r same n e (Onward a h old out' sums' (at + 2))
      (λ rs qs s.
      let place = s.place in
      record {
        f = after a s.f r;
        suffixes = passed s.f s.suffixes;
        long = ap length out_is ∙ length_item out at x y ∙ s.long;
        room = s.room;
        place = omega arith;
        rest =
            ap (λ (l : List ℕ). sets l (at + 2) (list_words (items_of a (after a s.f r) qs))) out_is
            ∙ stored s.f (y_is s.f s.suffixes) qs ∙ s.rest;
      })
    where
      stored : (f : ℕ → ℕ) → y ≡ p_under a f r → (qs : List ℕ) → sets (item_at out at x y) (at + 2) (list_words (items_of a (after a f r) qs)) ≡ sets out at (list_words (items_of a f (r ∷ qs)))
      stored f p_is qs =
          sets_more out at x y (list_words (items_of a (after a f r) qs))
          ∙ ap₂ (λ (u : ℕ) (v : ℕ). sets out at (u ∷ v ∷ list_words (items_of a (after a f r) qs))) x_is p_is
          ∙ ap (λ (l : List Item). sets out at (list_words l)) (sym (items_first a f r qs))

-- At the end the buffer is what all items give.
pub heights_done : (a : List ℕ) (h : ℕ) (old out sums : List ℕ) (next at : ℕ) → Heights a h old out sums next at → next ≡ 0 → (rs : List ℕ) → Listable a h rs old → (at / 2 ≡ length rs) × (out ≡ written_over (list_words (items (held a h [] rs))) old)
unfolding items_of carried trues list_words
heights_done a h old out sums next at w e rs t =
    let s = walk_done a h next (Onward a h old out sums at) w e rs t.linked in
    let place = s.place in
    let room = t.room in
    let all = items_of a (adjust a h) rs in
    let words = words_length all in
    let many = items_length a (adjust a h) rs in (
      omega arith,
      s.rest ∙ over_sets (list_words all) old (omega arith)
          ∙ ap (λ (l : List Item). written_over (list_words l) old) (items_held a h rs),
    )
