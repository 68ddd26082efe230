-- The four words of a part in the table: what a store of them leaves, and that every word before them and after the table stays.
-- A store at one place leaves every other place.
use mathlib.Core.Path.{◌≡◌, refl, sym, subst, ◌∙◌}
use mathlib.Core.List.{List}
use Prim.Native.Nat.{ℕ, ◌+◌, ◌*◌, ◌≤◌, ◌<◌}
use native.Mathlib.Omega.{arith}
use lib.ListN.{length, get_or, set, length-set}
use lib.Seq.{lt-length-set, get_or-set_same, get_or-set_other}
use Rattle.slicing.specs.Item.{Item}
use Rattle.packed.specs.inside.Packed.{HasList}
use Rattle.stored.specs.inside.PartWords.{entry_at}
use Rattle.stored.specs.inside.Filling.{Added}

-- Each of the four words is inside.
pub room_second : (s : List ℕ) (e v : ℕ) → 4 * e + 4 ≤ length s → 4 * e + 1 < length (set s (4 * e) v)
room_second s e v long = lt-length-set s (4 * e) v (omega arith)

pub room_third : (s : List ℕ) (e v w : ℕ) → 4 * e + 4 ≤ length s → 4 * e + 2 < length (set (set s (4 * e) v) (4 * e + 1) w)
room_third s e v w long = lt-length-set (set s (4 * e) v) (4 * e + 1) w (lt-length-set s (4 * e) v (omega arith))

pub room_fourth : (s : List ℕ) (e v w x : ℕ) → 4 * e + 4 ≤ length s → 4 * e + 3 < length (set (set (set s (4 * e) v) (4 * e + 1) w) (4 * e + 2) x)
room_fourth s e v w x long =
    lt-length-set (set (set s (4 * e) v) (4 * e + 1) w) (4 * e + 2) x
    (lt-length-set (set s (4 * e) v) (4 * e + 1) w (lt-length-set s (4 * e) v (omega arith)))

pub entry_is : (s : List ℕ) (e from count kind gauges : ℕ) → set (set (set (set s (4 * e) from) (4 * e + 1) count) (4 * e + 2) kind) (4 * e + 3) gauges ≡ entry_at s e from count kind gauges
unfolding entry_at
entry_is s e from count kind gauges = refl

module _ (s : List ℕ) (e from count kind gauges : ℕ) where
  abbrev z : List ℕ
  z = entry_at s e from count kind gauges

  pub entry_length : length z ≡ length s
  unfolding entry_at
  entry_length =
      length-set (set (set (set s (4 * e) from) (4 * e + 1) count) (4 * e + 2) kind) (4 * e + 3) gauges
      ∙ length-set (set (set s (4 * e) from) (4 * e + 1) count) (4 * e + 2) kind
      ∙ length-set (set s (4 * e) from) (4 * e + 1) count
      ∙ length-set s (4 * e) from

  pub entry_other : (i : ℕ) → (4 * e ≡ i → ⊥) → (4 * e + 1 ≡ i → ⊥) → (4 * e + 2 ≡ i → ⊥) → (4 * e + 3 ≡ i → ⊥) → get_or z i 0 ≡ get_or s i 0
  unfolding entry_at
  entry_other i p q r t =
      get_or-set_other (set (set (set s (4 * e) from) (4 * e + 1) count) (4 * e + 2) kind) (4 * e + 3) i gauges 0 (λ u. t (sym u))
      ∙ get_or-set_other (set (set s (4 * e) from) (4 * e + 1) count) (4 * e + 2) i kind 0 (λ u. r (sym u))
      ∙ get_or-set_other (set s (4 * e) from) (4 * e + 1) i count 0 (λ u. q (sym u))
      ∙ get_or-set_other s (4 * e) i from 0 (λ u. p (sym u))

  module _ (long : 4 * e + 4 ≤ length s) where
    pub entry_from : get_or z (4 * e) 0 ≡ from
    unfolding entry_at
    entry_from =
        get_or-set_other (set (set (set s (4 * e) from) (4 * e + 1) count) (4 * e + 2) kind) (4 * e + 3) (4 * e) gauges 0 (λ u. omega arith)
        ∙ get_or-set_other (set (set s (4 * e) from) (4 * e + 1) count) (4 * e + 2) (4 * e) kind 0 (λ u. omega arith)
        ∙ get_or-set_other (set s (4 * e) from) (4 * e + 1) (4 * e) count 0 (λ u. omega arith)
        ∙ get_or-set_same s (4 * e) from 0 (omega arith)

    entries_counted : get_or z (4 * e + 1) 0 ≡ count
    unfolding entry_at
    entries_counted =
        get_or-set_other (set (set (set s (4 * e) from) (4 * e + 1) count) (4 * e + 2) kind) (4 * e + 3) (4 * e + 1) gauges 0 (λ u. omega arith)
        ∙ get_or-set_other (set (set s (4 * e) from) (4 * e + 1) count) (4 * e + 2) (4 * e + 1) kind 0 (λ u. omega arith)
        ∙ get_or-set_same (set s (4 * e) from) (4 * e + 1) count 0 (room_second s e from long)

    entry_kind : get_or z (4 * e + 2) 0 ≡ kind
    unfolding entry_at
    entry_kind =
        get_or-set_other (set (set (set s (4 * e) from) (4 * e + 1) count) (4 * e + 2) kind) (4 * e + 3) (4 * e + 2) gauges 0 (λ u. omega arith)
        ∙ get_or-set_same (set (set s (4 * e) from) (4 * e + 1) count) (4 * e + 2) kind 0
        (room_third s e from count long)

    entry_gauges : get_or z (4 * e + 3) 0 ≡ gauges
    unfolding entry_at
    entry_gauges =
        get_or-set_same (set (set (set s (4 * e) from) (4 * e + 1) count) (4 * e + 2) kind) (4 * e + 3) gauges 0
        (room_fourth s e from count kind long)

    -- A list that stands after the table is a part, once the part's words are stored.
    pub entry_added : (s₀ : List ℕ) (l : List Item) → e < 127 → 508 ≤ from → count ≡ length l → HasList s from l → length s ≡ length s₀ → ((i : ℕ) → i < from → get_or s i 0 ≡ get_or s₀ i 0) → Added s₀ z e from kind gauges l
    entry_added s₀ l few after as_many list same before =
        record {
          length_kept = entry_length ∙ same;
          entry =
              record {
                inside = few;
                list =
                    subst (λ (x : ℕ). HasList z x l) (sym entry_from)
                    (record {
                      inside = let n = entry_length in let w = list.inside in omega arith;
                      at = λ i less. entry_other (from + i) (λ u. omega arith) (λ u. omega arith) (λ u. omega arith) (λ u. omega arith) ∙ list.at i less;
                      low = list.low;
                    });
                count_is = entries_counted ∙ as_many;
                kind_is = entry_kind;
                gauges_is = entry_gauges;
              };
          from_is = entry_from;
          table_kept = λ i less. entry_other i (λ u. omega arith) (λ u. omega arith) (λ u. omega arith) (λ u. omega arith) ∙ before i (omega arith);
          lists_kept = λ i low less. entry_other i (λ u. omega arith) (λ u. omega arith) (λ u. omega arith) (λ u. omega arith) ∙ before i less;
        }
