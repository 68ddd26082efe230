-- The loop of `merge_lists` by places of the scratch: it is `Merging` over the numbers p and q of items passed, and each place is that of the first item left.
-- A place is the end exactly where all items are passed, and its word is read before the place `to`, where nothing is written.
use mathlib.Core.Path.{◌≡◌}
use mathlib.Core.List.{List}
use Prim.Native.Nat.{ℕ, ◌-◌, ◌^◌, ◌≤◌, ◌<◌}
use native.Mathlib.Omega.{arith}
use Rattle.slicing.specs.Item.{Item}
use Rattle.packed.specs.inside.Joining.{Within, AtItem, Joinable, Joined}
use Rattle.packed.specs.declared.stretch.Stretch.{Stretch}
use Rattle.packed.proofs.Merging.{Reads, Merging, merging_start, merging_older_out, merging_newer_out}
use Rattle.packed.proofs.Places.{ReadAt, read_kept, at_more, at_out, at_between, at_reads}

-- Both stretches have a place before them, and the places after them fit in a usize.
pub within_both : (gap : ℕ) (s : List ℕ) (a b : Stretch) (to : ℕ) → ((l : List Item) × (k : List Item) × Joinable gap s a b to l k) → to < 2 ^ 64 → Within a × Within b
within_both gap s a b to pre fits =
    let older = pre.2.older_before in
    let newer = pre.2.newer_before in
    (record { after_first = pre.2.older_after; fits = omega arith }, record { after_first = pre.2.newer_after; fits = omega arith })

-- After p and q items: the places of what is left.
pub record Walking (gap : ℕ) (s : List ℕ) (a b : Stretch) (to end stop : ℕ) (z : List ℕ) (i j at p q : ℕ) : Type 0 where
  pub merging : Merging gap s a b to z p q at
  pub older_at : AtItem a p i
  pub newer_at : AtItem b q j
  pub older_end : AtItem a a.count end
  pub newer_end : AtItem b b.count stop

pub walking_start : (gap : ℕ) (s : List ℕ) (a b : Stretch) (to end stop i j : ℕ) → ((l : List Item) × (k : List Item) × Joinable gap s a b to l k)
    → AtItem a 0 i → AtItem b 0 j → AtItem a a.count end → AtItem b b.count stop → Walking gap s a b to end stop s i j to 0 0
walking_start gap s a b to end stop i j pre older newer older_end newer_end =
    record { merging = merging_start gap s a b to pre; older_at = older; newer_at = newer; older_end = older_end; newer_end = newer_end }

module _ (gap : ℕ) (s : List ℕ) (a b : Stretch) (to end stop : ℕ) (z : List ℕ) (i j at p q : ℕ) (h : Walking gap s a b to end stop z i j at p q) where
  -- The ways out: either list at its end.
  pub walking_older_out : i ≡ end → (l k : List Item) → Joinable gap s a b to l k → Joined gap s a b to l k z (at - to)
  walking_older_out same = merging_older_out gap s a b to z p q at h.merging (at_out a p i h.older_at end h.older_end same)

  pub walking_newer_out : j ≡ stop → (l k : List Item) → Joinable gap s a b to l k → Joined gap s a b to l k z (at - to)
  walking_newer_out same = merging_newer_out gap s a b to z p q at h.merging (at_out b q j h.newer_at stop h.newer_end same)

  -- Before its end, a list has an item left.
  pub older_more : (i ≡ end → ⊥) → p < a.count
  older_more other = at_more a p i h.older_at end h.older_end other h.merging.older_left

  pub newer_more : (j ≡ stop → ⊥) → q < b.count
  newer_more other = at_more b q j h.newer_at stop h.newer_end other h.merging.newer_left

  -- Its place is in the scratch, after the first word.
  pub older_inside : p < a.count → (1 ≤ i) × (i < to)
  older_inside more =
      let between = at_between a p i h.older_at more in
      let first = h.merging.joinable.older_after in
      let before = h.merging.joinable.older_before in
      (omega arith, omega arith)

  pub newer_inside : q < b.count → (1 ≤ j) × (j < to)
  newer_inside more =
      let between = at_between b q j h.newer_at more in
      let first = h.merging.joinable.newer_after in
      let before = h.merging.joinable.newer_before in
      (omega arith, omega arith)

  -- What is read there is its word.
  pub older_reads : (x : ℕ) → p < a.count → ReadAt z i a.across x → Reads s a p x
  older_reads x more read =
      at_reads a p i h.older_at s x more (read_kept z s i a.across x (h.merging.before_kept i (older_inside more).1) read)

  pub newer_reads : (y : ℕ) → q < b.count → ReadAt z j b.across y → Reads s b q y
  newer_reads y more read =
      at_reads b q j h.newer_at s y more (read_kept z s j b.across y (h.merging.before_kept j (newer_inside more).1) read)
