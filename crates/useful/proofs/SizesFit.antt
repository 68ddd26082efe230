-- The sizes that stand in bytes have heights and widths of two bytes.
-- A field is 256 times its first byte and its second, and a byte is below 256.
use mathlib.Core.List.{List}
use Prim.Native.Nat.{ℕ, zero, suc, ◌+◌, ◌<◌}
use native.Mathlib.Omega.{arith}
use lib.ListN.{get_or, drop}
use lib.Seq.{get_or-drop}
use Rattle.slicing.specs.Item.{Item, height, width}
use Rattle.sizes.specs.inside.Sizes.{sizes_in}
use Rattle.useful.specs.inside.Narrowest.{size_no}

abbrev pub Bytes : List ℕ → Type 0
Bytes bytes = (i : ℕ) → get_or bytes i 0 < 256

pub record TwoBytes (z : Item) : Type 0 where
  pub low : height z < 65_536
  pub narrow : width z < 65_536

bytes_later : (bytes : List ℕ) → Bytes bytes → Bytes (drop 4 bytes)
bytes_later bytes fit i = let here = fit (4 + i) in let same = get_or-drop 4 bytes i 0 in omega arith

pub sizes_fit : (n : ℕ) (bytes : List ℕ) → Bytes bytes → (k : ℕ) → k < n → TwoBytes (size_no (sizes_in n bytes) k)
unfolding sizes_in
sizes_fit zero bytes fit k less = absurd (omega arith)
sizes_fit (suc n) bytes fit zero less =
    record { low = omega (arith, fit 0, fit 1); narrow = omega (arith, fit 2, fit 3) }
sizes_fit (suc n) bytes fit (suc k) less = sizes_fit n (drop 4 bytes) (bytes_later bytes fit) k (omega arith)
