-- The last digit of a word of places is that of the last place, and what is left without it is the word of the places before.
-- A place adds one digit behind those that stand, and no digit is 0 or above 15.
use mathlib.Core.Path.{◌≡◌, refl, ap, ◌∙◌}
use mathlib.Core.List.{List, [], ◌∷◌, ◌++◌}
use Prim.Native.Nat.{ℕ, zero, suc, ◌+◌, ◌*◌, ◌/◌, ◌%◌, ◌^◌, ◌≤◌, ◌<◌}
use native.Mathlib.Numerals.{add-one}
use native.Mathlib.Omega.{arith}
use lib.ListN.{length, get_or, take}
use lib.Seq.{take-suc, take-length}
use Rattle.useful.specs.inside.Order.{digits, first_digits}

digits_behind : (w : ℕ) (l : List ℕ) (k : ℕ) → digits w (l ++ (k ∷ [])) ≡ 16 * digits w l + (k + 1)
unfolding digits
digits_behind w [] k = refl
digits_behind w (x ∷ l) k = digits_behind (16 * w + (x + 1)) l k

pub digits_more : (l : List ℕ) (i : ℕ) → i < length l → first_digits l (i + 1) ≡ 16 * first_digits l i + (get_or l i 0 + 1)
digits_more l i less =
    ap (λ (n : ℕ). digits 0 (take n l)) (add-one i) ∙ ap (digits 0) (take-suc l i 0 less) ∙ digits_behind 0 (take i l) (get_or l i 0)

-- The last digit, and the word without it.
pub digit_last : (l : List ℕ) (i : ℕ) → i < length l → get_or l i 0 < 15 → first_digits l (i + 1) % 16 ≡ get_or l i 0 + 1
digit_last l i less low = let more = digits_more l i less in omega arith

pub digits_before : (l : List ℕ) (i : ℕ) → i < length l → get_or l i 0 < 15 → first_digits l (i + 1) / 16 ≡ first_digits l i
digits_before l i less low = let more = digits_more l i less in omega arith

pub digits_none : (l : List ℕ) → first_digits l 0 ≡ 0
unfolding digits
digits_none l = refl

pub digits_some : (l : List ℕ) (i : ℕ) → 1 ≤ i → i ≤ length l → 1 ≤ first_digits l i
digits_some l zero some inside = absurd (omega arith)
digits_some l (suc i) some inside =
    let more = digits_more l i (omega arith) in
    let same = ap (first_digits l) (add-one i) in
    omega arith

pub digits_all : (l : List ℕ) → first_digits l (length l) ≡ digits 0 l
digits_all l = ap (digits 0) (take-length l)

-- So many digits fit in as many times four bits.
pub digits_fit : (l : List ℕ) → ((i : ℕ) → i < length l → get_or l i 0 < 15) → (i : ℕ) → i ≤ length l → first_digits l i < 16 ^ i
unfolding digits
digits_fit l low zero inside = omega arith
digits_fit l low (suc i) inside =
    let before = digits_fit l low i (omega arith) in
    let more = digits_more l i (omega arith) in
    let same = ap (first_digits l) (add-one i) in
    let digit = low i (omega arith) in
    omega arith
