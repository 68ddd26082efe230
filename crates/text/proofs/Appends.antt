-- Bytes that are appended after others are appended together with them, and what is appended from the buffer's start is printed there.
-- Stores one by one go down the bytes, so those of two lists of bytes are those of the two joined.
use mathlib.Core.Path.{◌≡◌, refl, sym, ap, ap₂, ◌∙◌}
use mathlib.Core.List.{List, [], ◌∷◌, ◌++◌}
use Prim.Native.Nat.{ℕ, suc, ◌+◌, ◌≤◌}
use native.Mathlib.Omega.{arith}
use lib.ListN.{length, set, drop, length-append}
use lib.Seq.{sets, sets-eq, length-sets, length-take-le}
use Rattle.text.specs.Printing.{Printed, Counted}
use Rattle.text.specs.inside.Appending.{Appended}

sets_joined : {A : Type 0} (a b old : List A) (i : ℕ) → sets (sets old i a) (i + length a) b ≡ sets old i (a ++ b)
sets_joined [] b old i = ap (λ (k : ℕ). sets old k b) (omega arith)
sets_joined (x ∷ a) b old i =
    ap (λ (k : ℕ). sets (sets (set old i x) (suc i) a) k b) (omega arith)
    ∙ sets_joined a b (set old i x) (suc i)

pub nothing : {A : Type 0} (old : List A) (at : ℕ) → Appended old at [] old at
nothing old at = record { place = omega arith; text = refl }

pub one : {A : Type 0} (old : List A) (at : ℕ) (value : A) → Appended old at (value ∷ []) (set old at value) (at + 1)
one old at value = record { place = omega arith; text = refl }

-- The same bytes otherwise written.
pub same_bytes : {A : Type 0} {old : List A} {at : ℕ} {a b new : List A} {j : ℕ} → Appended old at a new j → a ≡ b → Appended old at b new j
same_bytes {A} {old} {at} {a} {b} {new} {j} s e =
    record {
      place = s.place ∙ ap (λ (l : List A). at + length l) e;
      text = s.text ∙ ap (λ (l : List A). sets old at l) e;
    }

pub joined : {A : Type 0} {old : List A} {at : ℕ} {a mid : List A} {i : ℕ} {b new : List A} {j : ℕ} → Appended old at a mid i → Appended mid i b new j → Appended old at (a ++ b) new j
joined {A} {old} {at} {a} {mid} {i} {b} {new} {j} s t =
    let both = length-append a b in
    let s_place = s.place in
    let t_place = t.place in
    record {
      place = omega arith;
      text = t.text ∙ ap₂ (λ (l : List A) (n : ℕ). sets l n b) s.text s.place ∙ sets_joined a b old at;
    }

-- A buffer keeps its length.
pub appended_length : {A : Type 0} {old : List A} {at : ℕ} {bytes new : List A} {next : ℕ} → Appended old at bytes new next → length new ≡ length old
appended_length {A} {old} {at} {bytes} s = ap length s.text ∙ length-sets old at bytes

-- Bytes that are appended in turn fit where all of them fit.
module _ {A : Type 0} (old : List A) (at : ℕ) (a b : List A) (room : at + length (a ++ b) ≤ length old) where
  pub first_room : at + length a ≤ length old
  first_room = omega (arith, length-append a b)

  pub rest_room : (mid : List A) (next : ℕ) → Appended old at a mid next → next + length b ≤ length mid
  rest_room mid next s =
      let place = s.place in
      let same = appended_length s in
      omega (arith, length-append a b)

pub from_start : {old bytes new : List ℕ} {next : ℕ} → Appended old 0 bytes new next → length bytes ≤ length old → Printed bytes old new next
from_start {old} {bytes} {new} {next} s room =
    let place = s.place in
    record {
      count = omega arith;
      bytes = s.text ∙ sets-eq bytes old 0 (omega arith) ∙ ap (λ (n : ℕ). bytes ++ drop n old) from_zero;
    }
  where
    from_zero : 0 + length bytes ≡ length bytes
    from_zero = omega arith

pub counted : {old bytes new : List ℕ} {next most : ℕ} → Appended old 0 bytes new next → length bytes ≤ most → most ≤ length old → Counted most new next
counted {old} {bytes} {new} {next} {most} s few room =
    let place = s.place in
    let same = appended_length s in
    (omega arith, sym (length-take-le next new (omega arith)))
