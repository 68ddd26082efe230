-- Two stored lists, each read as it runs or turned, and their merge written after them. No public contract cites it.
use Rattle.std.specs.Prelude.{◌≡◌, true, false, List, ℕ, ◌+◌, ◌^◌, ◌≤◌, ◌<◌, length, get_or}
use Rattle.slicing.specs.Item.{Item, size}
use Rattle.slicing.specs.Merge.{merge}
use Rattle.packed.specs.inside.Packed.{facing, HasList}
use Rattle.packed.specs.declared.stretch.Stretch.{Stretch}

-- The list l of a stretch, read as the stretch says.
abbrev pub read_as : Stretch → List Item → List Item
read_as a l = facing a.across l

-- The merge, with a gap, of the lists l and k of two stretches, each read as its stretch says.
abbrev pub merge_of : ℕ → Stretch → Stretch → List Item → List Item → List Item
merge_of gap a b l k = merge gap (read_as a l) (read_as b k)

-- There is a place before the stretch, and the place after it fits in a usize.
pub record Within (a : Stretch) : Type 0 where
  pub after_first : 1 ≤ a.from
  pub fits : a.from + a.count < 2 ^ 64

-- Item k of the list of a stretch, read as the stretch says, is at a place of the scratch. For k the count, it is where a walk over the list ends.
pub record AtItem (a : Stretch) (k place : ℕ) : Type 0 where
  pub along : a.across ≡ false → place ≡ a.from + k
  pub turned : a.across ≡ true → place + k + 1 ≡ a.from + a.count

-- The stretches a and b of the scratch s, of a join's two parts in either order, are the lists l and k, neither empty, both after the first word and before the place `to`; from it on there is room for both, and the sums of their p and the gap fit.
pub record Joinable (gap : ℕ) (s : List ℕ) (a b : Stretch) (to : ℕ) (l k : List Item) : Type 0 where
  pub older : HasList s a.from l
  pub older_count : a.count ≡ length l
  pub older_some : 1 ≤ a.count
  pub older_after : 1 ≤ a.from
  pub older_before : a.from + a.count ≤ to
  pub newer : HasList s b.from k
  pub newer_count : b.count ≡ length k
  pub newer_some : 1 ≤ b.count
  pub newer_after : 1 ≤ b.from
  pub newer_before : b.from + b.count ≤ to
  pub room : to + a.count + b.count ≤ length s
  pub low : (i j : ℕ) → i < length l → j < length k → (get_or (read_as a l) i (size 0 0)).p + gap + (get_or (read_as b k) j (size 0 0)).p < 65_536

-- The merge stands from the place `to` on, in the scratch z. It has `count` items, and what is before it is kept.
pub record Joined (gap : ℕ) (s : List ℕ) (a b : Stretch) (to : ℕ) (l k : List Item) (z : List ℕ) (count : ℕ) : Type 0 where
  pub count_is : count ≡ length (merge_of gap a b l k)
  pub list : HasList z to (merge_of gap a b l k)
  pub before_kept : (i : ℕ) → i < to → get_or z i 0 ≡ get_or s i 0
  pub length_kept : length z ≡ length s
