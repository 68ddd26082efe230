-- Document 01, "The checks, as questions", from 14 to 18, and document 02's 22: what the calls on a face ask of what they are given and lent with it. A call's own definition says which of them it asks, in which order.
use Rattle.std.specs.Prelude.{Bool, true, ◌&&◌, List, [], ◌∷◌, ℕ, leb, eqb, length}
use Rattle.checks.specs.declared.Check.TheVariants.{LevelCount, LevelRange, Rib, Opening, Buffers, Output}
use Rattle.checks.specs.Limits.{most_rib, most_opening}
use Rattle.checks.specs.Answer.{Asked, taken, ask, also}
use Rattle.slicing.specs.Layout.{Outline}
use Rattle.sizes.specs.GaugeSizes.{within}

-- "As many levels as sizes? 14." Of n sizes.
unfoldable pub level_count : ℕ → ℕ → Asked
level_count n levels = ask (eqb levels n) LevelCount (taken tt)

-- "Each level 1 to 8?"
abbrev pub levels_in_range : List ℕ → Bool
levels_in_range [] = true
levels_in_range (l ∷ levels) = leb 1 l && leb l 8 && levels_in_range levels

-- "Each level 1 to 8? 15."
unfoldable pub level_range : List ℕ → Asked
level_range levels = ask (levels_in_range levels) LevelRange (taken tt)

-- "As many levels as sizes? 14. Each level 1 to 8? 15."
unfoldable pub levels_lent : ℕ → List ℕ → Asked
levels_lent n levels = also (level_count n (length levels)) (level_range levels)

-- Document 02, Paper 2: "22 when the rib is above 20".
unfoldable pub rib_given : ℕ → Asked
rib_given rib = ask (leb rib most_rib) Rib (taken tt)

-- "Opening height and width both 1 to" the limit? 16. "Sums now reach 65,260, and the opening limit rises to it in check 16."
unfoldable pub opening_given : Outline → Asked
opening_given o = ask (within 1 most_opening o.height && within 1 most_opening o.width) Opening (taken tt)

-- "Arena and scratch, each 16,384 32-bit words or more? 17." Each call says how many words it needs.
unfoldable pub buffers_lent : (need arena scratch : ℕ) → Asked
buffers_lent need arena scratch = ask (leb need arena && leb need scratch) Buffers (taken tt)

-- "Output long enough? 18." Each call says how many words it needs.
unfoldable pub output_lent : (need output : ℕ) → Asked
output_lent need output = ask (leb need output) Output (taken tt)
