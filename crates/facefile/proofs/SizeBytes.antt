-- The bytes that a gauge's sizes were read from are their heights and widths, four bytes a size.
-- A 16-bit field of two bytes gives them back by division and remainder, since each is below 256.
use mathlib.Core.Path.{◌≡◌, refl, sym, ap, ◌∙◌}
use mathlib.Core.List.{List, [], ◌∷◌}
use Prim.Native.Nat.{ℕ, zero, suc, ◌+◌, ◌*◌, ◌/◌, ◌%◌, ◌≤◌, ◌<◌}
use native.Mathlib.Omega.{arith}
use lib.ListN.{length, get_or, take, drop, length-drop}
use lib.Seq.{take-add, take-length, get_or-drop}
use Rattle.checks.specs.Answer.{taken}
use Rattle.slicing.specs.Item.{Item}
use Rattle.sizes.specs.GaugeSizes.{size_at, sizes_from, version_rules}
use Rattle.facefile.specs.Format.{Bytes}
use Rattle.facefile.specs.Gauge.{size_bytes}
use Rattle.sizes.specs.inside.Sizes.{sizes_in, Sized}
use Rattle.sizes.proofs.SizesIn.{from_in}

pub bytes_drop : (k : ℕ) (s : List ℕ) → Bytes s → Bytes (drop k s)
bytes_drop k s h i = rw get_or-drop (h (k + i))

four : (s : List ℕ) → 4 ≤ length s → take 4 s ≡ get_or s 0 0 ∷ get_or s 1 0 ∷ get_or s 2 0 ∷ get_or s 3 0 ∷ []
four [] h = absurd (omega arith)
four (a ∷ []) h = absurd (omega arith)
four (a ∷ b ∷ []) h = absurd (omega arith)
four (a ∷ b ∷ c ∷ []) h = absurd (omega arith)
four (a ∷ b ∷ c ∷ d ∷ s) h = refl

high_byte : (x y : ℕ) → y < 256 → (256 * x + y) / 256 ≡ x
high_byte x y h = omega arith

low_byte : (x y : ℕ) → y < 256 → (256 * x + y) % 256 ≡ y
low_byte x y h = omega arith

one_size : (s : List ℕ) → Bytes s → 4 ≤ length s → take 4 s ≡ size_bytes (size_at s ∷ [])
one_size s b h =
    four s h
    ∙ sym
    (simp (
      high_byte (get_or s 0 0) (get_or s 1 0) (b 1),
      low_byte (get_or s 0 0) (get_or s 1 0) (b 1),
      high_byte (get_or s 2 0) (get_or s 3 0) (b 3),
      low_byte (get_or s 2 0) (get_or s 3 0) (b 3),
    ))

four_more : (k : ℕ) → 4 * suc k ≡ 4 + 4 * k
four_more k = omega arith

sizes_more : (k : ℕ) (s : List ℕ) (zs : List Item) → Bytes s → 4 * suc k ≤ length s → take (4 * k) (drop 4 s) ≡ size_bytes zs → take (4 * suc k) s ≡ size_bytes (size_at s ∷ zs)
sizes_more k s zs b h e =
    rw (four_more k, take-add 4 (4 * k) s, e, one_size s b (omega arith))

in_bytes : (count : ℕ) (s : List ℕ) → Bytes s → 4 * count ≤ length s → take (4 * count) s ≡ size_bytes (sizes_in count s)
unfolding sizes_in
in_bytes zero s b h = refl
in_bytes (suc k) s b h =
    sizes_more k s (sizes_in k (drop 4 s)) b h (in_bytes k (drop 4 s) (bytes_drop 4 s b) (omega (arith, length-drop 4 s)))

pub bytes_take : (k : ℕ) (s : List ℕ) → Bytes s → Bytes (take k s)
bytes_take zero s h i = omega arith
bytes_take (suc k) [] h i = omega arith
bytes_take (suc k) (x ∷ s) h zero = h 0
bytes_take (suc k) (x ∷ s) h (suc i) = bytes_take k s (λ j. h (suc j)) i

-- Bytes that are those of n sizes.
pub whole_bytes : (n : ℕ) (s : List ℕ) → Bytes s → Sized n s → s ≡ size_bytes (sizes_in n s)
whole_bytes n s b sized =
    sym (ap (λ (j : ℕ). take j s) (sym sized) ∙ take-length s) ∙ in_bytes n s b (omega arith)

pub sizes_bytes : (v count : ℕ) (s : List ℕ) (zs : List Item) → Bytes s → 4 * count ≤ length s → sizes_from (version_rules v) count s ≡ taken zs → take (4 * count) s ≡ size_bytes zs
sizes_bytes v count s zs b h e = in_bytes count s b h ∙ ap size_bytes (sym (from_in v count s zs e))
