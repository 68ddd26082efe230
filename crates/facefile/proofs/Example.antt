-- Document 01's file of 28 bytes means the two gauges side by side that the document shows; a gauge whose sizes are in no order is taken in version 2, and refused in versions 1 and 3.
-- The checker computes the definition on these bytes.
use mathlib.Core.Path.{◌≡◌, refl}
use mathlib.Core.List.{List, [], ◌∷◌}
use Prim.Native.Nat.{ℕ}
use Rattle.checks.specs.declared.Check.TheVariants.{Version, Order}
use Rattle.checks.specs.Answer.{refused, taken}
use Rattle.slicing.specs.Item.{size}
use Rattle.slicing.specs.Tree.{gauge, beside}
use Rattle.sizes.specs.GaugeSizes.{sizes_after, sizes_from}
use Rattle.entries.specs.Entry.{gauge_sizes, gauge_entry, join_parts, join_entry, kind_entry, entry, entries}
use Rattle.facefile.specs.Format.{header, one_part, at_end, face_of}
use Rattle.facefile.specs.Gauge.{gauge_bytes}

abbrev pub example : List ℕ
example =
    0x46 ∷ 0x43 ∷ 0x45 ∷ 0x00 ∷ 0x01 ∷ 0x00 ∷ 0x03 ∷ 0x01 ∷ 0x02 ∷ 0x00 ∷ 0x3C ∷ 0x00 ∷ 0x28 ∷ 0x00 ∷ 0x28 ∷ 0x00 ∷ 0x3C ∷ 0x01 ∷ 0x02 ∷ 0x00 ∷ 0x32 ∷ 0x00 ∷ 0x1E ∷ 0x00 ∷ 0x1E ∷ 0x00 ∷ 0x32 ∷ 0x02 ∷ []

pub example_face : face_of example ≡ taken (beside (gauge (size 60 40 ∷ size 40 60 ∷ [])) (gauge (size 50 30 ∷ size 30 50 ∷ [])))
unfolding header sizes_after sizes_from gauge_sizes gauge_entry join_parts join_entry kind_entry entry entries one_part at_end face_of
example_face = refl

pub example_gauge : gauge_bytes (face_of example) 2 ≡ 0x00 ∷ 0x32 ∷ 0x00 ∷ 0x1E ∷ 0x00 ∷ 0x1E ∷ 0x00 ∷ 0x32 ∷ []
unfolding header sizes_after sizes_from gauge_sizes gauge_entry join_parts join_entry kind_entry entry entries one_part at_end face_of gauge_bytes
example_gauge = refl

-- A lone gauge whose sizes are in no order, as a file of a version.
abbrev pub unordered : ℕ → List ℕ
unordered version =
    0x46 ∷ 0x43 ∷ 0x45 ∷ 0x00 ∷ version ∷ 0x00 ∷ 0x01 ∷ 0x01 ∷ 0x04 ∷ 0x00 ∷ 0x0A ∷ 0x00 ∷ 0x14 ∷ 0x00 ∷ 0x0A ∷ 0x00 ∷ 0x14 ∷ 0x00 ∷ 0x05 ∷ 0x00 ∷ 0x1E ∷ 0x00 ∷ 0x0C ∷ 0x00 ∷ 0x14 ∷ []

pub unordered_1 : face_of (unordered 1) ≡ refused Order
unfolding header sizes_after sizes_from gauge_sizes gauge_entry kind_entry entry entries face_of
unordered_1 = refl

pub unordered_2 : face_of (unordered 2) ≡ taken (gauge (size 10 20 ∷ size 10 20 ∷ size 5 30 ∷ size 12 20 ∷ []))
unfolding header sizes_after sizes_from gauge_sizes gauge_entry kind_entry entry entries one_part at_end face_of
unordered_2 = refl

pub unordered_3 : face_of (unordered 3) ≡ refused Version
unfolding header face_of
unordered_3 = refl
