-- What a run of questions answers when nothing but its checks is asked for, and the sizes that stand in bytes, four bytes a size: a height and a width. No public contract cites it.
use Rattle.std.specs.Prelude.{◌≡◌, List, [], ◌∷◌, ℕ, zero, suc, ◌*◌, ◌<◌, length, get_or, drop}
use Rattle.checks.specs.Answer.{Answer, refused, taken, Asked}
use Rattle.slicing.specs.Item.{Item, size}
use Rattle.sizes.specs.GaugeSizes.{size_at}
use Rattle.sizes.specs.declared.Size.{Size}

-- Whether each question was answered "yes", whatever was taken.
abbrev pub asked : {A : Type 0} → Answer A → Asked
asked (refused c) = refused c
asked (taken x) = taken tt

-- The first n sizes of what is read, each of which takes `step` bytes or words and is what `size_of` finds there.
abbrev pub sizes_by : ℕ → (List ℕ → Item) → ℕ → List ℕ → List Item
sizes_by step size_of zero l = []
sizes_by step size_of (suc n) l = size_of l ∷ sizes_by step size_of n (drop step l)

-- The first n sizes of the bytes.
unfoldable pub sizes_in : ℕ → List ℕ → List Item
sizes_in n bytes = sizes_by 4 size_at n bytes

-- The bytes are those of n sizes.
abbrev pub Sized : ℕ → List ℕ → Type 0
Sized n bytes = length bytes ≡ 4 * n

-- The height and the width are those of size k of the bytes, of however many sizes these are.
pub record SizeIn (bytes : List ℕ) (k : ℕ) (z : Size) : Type 0 where
  pub same : (n : ℕ) → k < n → size z.height z.width ≡ get_or (sizes_in n bytes) k (size 0 0)
  pub height_fits : z.height < 65_536
  pub width_fits : z.width < 65_536
