-- The search for the first item of at most some m: all items before a low place are above it, and the item at a high place is not.
-- m falls from place to place, so the item in the middle tells which half to keep.
use mathlib.Core.Path.{◌≡◌, sym, subst, ◌∙◌}
use mathlib.Core.List.{List}
use Prim.Native.Nat.{ℕ, ◌+◌, ◌-◌, ◌/◌, ◌≤◌, ◌<◌}
use native.Mathlib.Omega.{arith}
use lib.ListN.{length, get_or}
use Rattle.slicing.specs.Item.{Item, size}
use Rattle.packed.specs.inside.Packed.{facing, HasList}
use Rattle.packed.specs.declared.stretch.Stretch.{Stretch}
use Rattle.packed.proofs.Merging.{Reads}
use Rattle.packed.proofs.StoredLists.{facing_length, facing_low, m_is}
use Rattle.laying.specs.inside.Taking.{Searchable, FirstLow}
use Rattle.laying.proofs.OrderLaws.{above_to, first_low, last_low, facing_ordered}

-- The first item of at most the limit stands from low to high.
pub record Between (limit : ℕ) (l : List Item) (low high : ℕ) : Type 0 where
  pub above : (j : ℕ) → j < low → limit < (get_or l j (size 0 0)).m
  pub at : (get_or l high (size 0 0)).m ≤ limit

pub record Searching (s : List ℕ) (a : Stretch) (limit low high : ℕ) : Type 0 where
  pub in_order : low ≤ high
  pub in_list : high < a.count
  pub between : (l : List Item) → Searchable s a limit l → Between limit (facing a.across l) low high

module _ (s : List ℕ) (a : Stretch) (limit : ℕ) where
  pub search_filled : ((l : List Item) × Searchable s a limit l) → 1 ≤ a.count
  search_filled pre =
      let l = pre.0 in
      let has = pre.1 in
      let last = last_low limit (facing a.across l) (facing_ordered a.across l has.ordered) has.some in
      omega (arith, facing_length a.across l)

  pub search_start : ((l : List Item) × Searchable s a limit l) → Searching s a limit 0 (a.count - 1)
  search_start pre = record { in_order = omega arith; in_list = let some = search_filled pre in omega arith; between = start }
    where
      start : (l : List Item) → Searchable s a limit l → Between limit (facing a.across l) 0 (a.count - 1)
      start l has =
          let last = last_low limit (facing a.across l) (facing_ordered a.across l has.ordered) has.some in
          let same : length (facing a.across l) ≡ a.count = facing_length a.across l ∙ sym has.count_is in
          record { above = λ j h. absurd (omega arith); at = subst (λ (n : ℕ). (get_or (facing a.across l) (n - 1) (size 0 0)).m ≤ limit) same last.low }

  middle : (low high : ℕ) → Searching s a limit low high → low < high → low + (high - low) / 2 < a.count
  middle low high inv some = omega arith

  pub can_read_middle : (low high : ℕ) → ((l : List Item) × Searchable s a limit l) → Searching s a limit low high → low < high → ((l : List Item) × HasList s a.from l × (a.count ≡ length l) × (low + (high - low) / 2 < a.count))
  can_read_middle low high pre inv some = (pre.0, pre.1.list, pre.1.count_is, middle low high inv some)

  middle_is : (mid z m : ℕ) → mid < a.count → Reads s a mid z → m ≡ z / 65_536 → (l : List Item) → Searchable s a limit l → m ≡ (get_or (facing a.across l) mid (size 0 0)).m
  middle_is mid z m h read m_read l has =
      m_is (get_or (facing a.across l) mid (size 0 0)) z m (facing_low a.across s a.from l has.list mid (let same = has.count_is in omega arith)) (read l has.list has.count_is) m_read

  pub search_lower : (low high mid z m : ℕ) → Searching s a limit low high → low < high → mid ≡ low + (high - low) / 2 → Reads s a mid z → m ≡ z / 65_536 → m ≤ limit → Searching s a limit low mid
  search_lower low high mid z m inv some mid_is read m_read below =
      record {
        in_order = omega arith;
        in_list = omega arith;
        between = λ l has. let same = middle_is mid z m (omega arith) read m_read l has in record { above = (inv.between l has).above; at = omega arith };
      }

  pub search_upper : (low high mid z m : ℕ) → Searching s a limit low high → low < high → mid ≡ low + (high - low) / 2 → Reads s a mid z → m ≡ z / 65_536 → limit < m → Searching s a limit (mid + 1) high
  search_upper low high mid z m inv some mid_is read m_read over =
      record {
        in_order = omega arith;
        in_list = inv.in_list;
        between = λ l has. record { above = above l has; at = (inv.between l has).at };
      }
    where
      above : (l : List Item) → Searchable s a limit l → (j : ℕ) → j < mid + 1 → limit < (get_or (facing a.across l) j (size 0 0)).m
      above l has =
          let same = middle_is mid z m (omega arith) read m_read l has in
          above_to limit (facing a.across l) (facing_ordered a.across l has.ordered) mid (omega (arith, facing_length a.across l, has.count_is)) (omega arith)

  pub search_done : (low high : ℕ) → Searching s a limit low high → high ≤ low → (l : List Item) → Searchable s a limit l → FirstLow limit (facing a.across l) low
  search_done low high inv end l has =
      let same : high ≡ low = omega arith in
      let inside : low < length (facing a.across l) = omega (arith, facing_length a.across l, has.count_is) in
      let b = inv.between l has in
      record {
        in_list = inside;
        same = first_low limit (facing a.across l) low inside (subst (λ (n : ℕ). (get_or (facing a.across l) n (size 0 0)).m ≤ limit) same b.at) b.above;
      }
