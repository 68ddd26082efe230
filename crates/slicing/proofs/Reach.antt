-- How far the outer sizes of a part reach: 1,000 half-millimetres a gauge and the gap at each join, of which there is one less than gauges.
-- The sizes of a gauge are 1 to 1,000 both ways, and a join adds to its parts' lengths the gap at most.
use mathlib.Core.Path.{◌≡◌, ap, subst}
use mathlib.Core.List.{Memᴰ}
use Prim.Native.Nat.{ℕ, ◌+◌, ◌-◌, ◌*◌, ◌^◌, ◌≤◌, ◌<◌}
use native.Mathlib.Nat.{mul-le-mul}
use native.Mathlib.Omega.{arith}
use Rattle.slicing.specs.Item.{Item}
use Rattle.slicing.specs.Tree.{Tree, gauge, beside, stacked, gauge_count}
use Rattle.slicing.specs.Good.{Good}
use Rattle.slicing.specs.Shapes.{shapes}
use Rattle.slicing.specs.Choice.{Choice, side_by_side, one_on_other, extent}
use Rattle.slicing.proofs.Counts.{counted, gauges_joined}
use Rattle.slicing.proofs.ShapeLaws.{shapes_chosen}

-- z is at least 1 both ways, and with a gap added at most 1,000 and a gap for each gauge: so two parts add up.
record Within (gap g : ℕ) (z : Item) : Type 0 where
  high : 1 ≤ z.m
  wide : 1 ≤ z.p
  low : z.m + gap ≤ 1_000 * g + gap * g
  narrow : z.p + gap ≤ 1_000 * g + gap * g

-- Of two parts, side by side and one on the other.
joined_within : (gap g k : ℕ) (x y : Item) → Within gap g x → Within gap k y → Within gap (g + k) (side_by_side gap x y) × Within gap (g + k) (one_on_other gap x y)
joined_within gap g k x y first second =
    let high = first.high in
    let wide = first.wide in
    let x_low = first.low in
    let y_low = second.low in
    let x_narrow = first.narrow in
    let y_narrow = second.narrow in (
      record { high = omega arith; wide = omega arith; low = omega arith; narrow = omega arith },
      record { high = omega arith; wide = omega arith; low = omega arith; narrow = omega arith },
    )

extent_within : (gap : ℕ) (t : Tree) → Good t → (c : Choice t) → Within gap (gauge_count t) (extent gap t c)
extent_within gap (gauge s) h c =
    let z = h.limited c.0 c.1 in
    record { high = z.high; wide = z.wide; low = omega arith; narrow = omega arith }
extent_within gap (beside a b) h c =
    rw (gauges_joined a b)
    (joined_within gap _ _ _ _ (extent_within gap a h.0 c.0) (extent_within gap b h.1 c.1)).0
extent_within gap (stacked a b) h c =
    rw (gauges_joined a b)
    (joined_within gap _ _ _ _ (extent_within gap a h.0 c.0) (extent_within gap b h.1 c.1)).1

shapes_within : (gap : ℕ) (t : Tree) → Good t → (z : Item) → Memᴰ z (shapes gap t) → Within gap (gauge_count t) z
shapes_within gap t h z i =
    let chosen = shapes_chosen gap t z h i in
    subst (Within gap (gauge_count t)) chosen.same (extent_within gap t h chosen.choice)

-- An item is 1 at least both ways.
pub shapes_some : (gap : ℕ) (t : Tree) → Good t → (z : Item) → Memᴰ z (shapes gap t) → (1 ≤ z.m) × (1 ≤ z.p)
shapes_some gap t h z i = let within = shapes_within gap t h z i in (within.high, within.wide)

without_last : (gap g n : ℕ) → 1 ≤ g → n + gap ≤ 1_000 * g + gap * g → n ≤ 1_000 * g + gap * (g - 1)
without_last gap g n some h =
    let joins : gap * g ≡ gap * (g - 1 + 1) = ap (λ (k : ℕ). gap * k) (omega arith) in
    omega arith

-- Its height and width are at most 1,000 a gauge and the gap at each join.
pub shapes_reach : (gap : ℕ) (t : Tree) → Good t → (z : Item) → Memᴰ z (shapes gap t)
    → (z.m ≤ 1_000 * gauge_count t + gap * (gauge_count t - 1)) × (z.p ≤ 1_000 * gauge_count t + gap * (gauge_count t - 1))
shapes_reach gap t h z i =
    let within = shapes_within gap t h z i in
    let some = (counted t h).some in
    (without_last gap (gauge_count t) z.m some within.low, without_last gap (gauge_count t) z.p some within.narrow)

-- Where parts touch, 1,000 a gauge.
pub shapes_touching : (t : Tree) → Good t → (z : Item) → Memᴰ z (shapes 0 t) → (z.m ≤ 1_000 * gauge_count t) × (z.p ≤ 1_000 * gauge_count t)
shapes_touching t h z i = let reach = shapes_reach 0 t h z i in (omega arith, omega arith)

-- With ribs of at most 20, 1,020 a gauge less the last 20: so the lengths of two parts with a rib between them add up to no more.
pub shapes_low : (gap : ℕ) (t : Tree) → gap ≤ 20 → Good t → (z : Item) → Memᴰ z (shapes gap t) → (z.m + 20 ≤ 1_020 * gauge_count t) × (z.p + 20 ≤ 1_020 * gauge_count t)
shapes_low gap t few h z i =
    let reach = shapes_reach gap t h z i in
    let some = (counted t h).some in
    let same : gauge_count t - 1 ≤ gauge_count t - 1 = omega arith in
    let joins : gap * (gauge_count t - 1) ≤ 20 * (gauge_count t - 1) = mul-le-mul few same in
    (omega arith, omega arith)

-- "Sums now reach 65,260": 64 gauges, and ribs of 20 between them.
pub shapes_most : (gap : ℕ) (t : Tree) → gap ≤ 20 → Good t → gauge_count t ≤ 64 → (z : Item) → Memᴰ z (shapes gap t) → (z.m ≤ 65_260) × (z.p ≤ 65_260)
shapes_most gap t few h small z i = let low = shapes_low gap t few h z i in (omega arith, omega arith)

-- Such a length fits half a word, so that an item packs in one word.
pub length_fits : (n : ℕ) → n ≤ 65_260 → n < 2 ^ 16
length_fits n h = omega arith

-- And 65,260 by 65,260 fits a word.
pub area_fits : (h w : ℕ) → h ≤ 65_260 → w ≤ 65_260 → h * w < 2 ^ 32
area_fits h w k l =
    let most : h * w ≤ 65_260 * 65_260 = mul-le-mul k l in
    omega arith
