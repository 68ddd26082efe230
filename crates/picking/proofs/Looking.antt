-- The loop of the pick: the place kept is that of the pick of the items passed.
-- The word read is the next item's, so each way through the loop is one of the pick's own steps.
use mathlib.Core.Path.{◌≡◌, sym, subst, ◌∙◌}
use mathlib.Core.Bool.{true, false}
use mathlib.Core.Logic.{◌⊎◌, inl, inr}
use mathlib.Core.List.{List}
use Prim.Native.Nat.{ℕ, suc, ◌+◌, ◌*◌, ◌-◌, ◌/◌, ◌%◌, ◌^◌, ◌≤◌, ◌<◌}
use native.Mathlib.Omega.{arith}
use native.Mathlib.Nat.{mul-le-mul}
use lib.ListN.{length, get_or}
use borrow.Author.Tests.{le-leb, lt-leb}
use Rattle.std.specs.Prelude.{Option, Some, None}
use Rattle.slicing.specs.Item.{Item, size}
use Rattle.slicing.specs.Fit.{fits}
use Rattle.slicing.specs.Layout.{outline}
use Rattle.packed.specs.inside.Packed.{pack, facing, HasList}
use Rattle.packed.specs.declared.stretch.Stretch.{Stretch}
use Rattle.packed.proofs.Merging.{Reads}
use Rattle.packed.proofs.StoredLists.{facing_length, Low, facing_low, m_is, p_is}
use Rattle.picking.specs.inside.Picking.{Picks}
use Rattle.picking.proofs.PickLaws.{rank, Standing, Narrow, standing_start, standing_past, standing_worse, standing_taken, standing_done}

-- Of any list that stands there, the items from k on have been looked at.
abbrev Looked : List ℕ → Stretch → ℕ → ℕ → ℕ → Option ℕ → ℕ → Type 0
Looked s a height width k found best = (l : List Item) → HasList s a.from l → a.count ≡ length l → Standing (outline height width) (facing a.across l) k found best

pub record Looking (s : List ℕ) (a : Stretch) (height width k : ℕ) (found : Option ℕ) (best : ℕ) : Type 0 where
  pub bound : k ≤ a.count
  pub so_far : Looked s a height width k found best

-- Two numbers below 65,536 have a product below 2 ^ 32.
pub product_low : (h w : ℕ) → h < 65_536 → w < 65_536 → h * w ≤ 65_535 * 65_535
product_low h w low_h low_w =
    let a : h ≤ 65_535 = omega arith in
    let b : w ≤ 65_535 = omega arith in mul-le-mul a b

rank_fits : (z : Item) → Low z → rank z < 2 ^ 64
rank_fits z low = let small = product_low z.m z.p low.0 low.1 in omega arith

too_high : (height width : ℕ) (z : Item) → height < z.m → fits (outline height width) z ≡ false
too_high height width z h = simp (lt-leb z.m height h)

too_wide : (height width : ℕ) (z : Item) → z.m ≤ height → width < z.p → fits (outline height width) z ≡ false
too_wide height width z h k = simp (le-leb z.m height h, lt-leb z.p width k)

in_opening : (height width : ℕ) (z : Item) → z.m ≤ height → z.p ≤ width → fits (outline height width) z ≡ true
in_opening height width z h k = simp (le-leb z.m height h, le-leb z.p width k)

pub can_read : (s : List ℕ) (a : Stretch) (height width k : ℕ) (found : Option ℕ) (best : ℕ)
    → ((l : List Item) × HasList s a.from l × (a.count ≡ length l))
    → Looking s a height width k found best → 0 < k
    → ((l : List Item) × HasList s a.from l × (a.count ≡ length l) × (k - 1 < a.count))
can_read s a height width k found best pre inv some = (pre.0, pre.1, pre.2, omega arith)

-- What is read of an item is below 65,536.
pub halves_low : (z h w : ℕ) → z < 2 ^ 32 → h ≡ z / 65_536 → w ≡ z % 65_536 → (h < 65_536) × (w < 65_536)
halves_low z h w fits_z h_is w_is = (omega arith, omega arith)

module _ (s : List ℕ) (a : Stretch) (height width : ℕ) where
  pub looking_start : Looking s a height width a.count None (2 ^ 64 - 1)
  looking_start =
      record {
        bound = omega arith;
        so_far = λ l has e. rw (e, ← facing_length a.across l) (standing_start (outline height width) (facing a.across l));
      }

  -- Item k of any such list, against the pick of the items after it.
  record Next (k : ℕ) (found : Option ℕ) (best z : ℕ) (l : List Item) : Type 0 where
    in_list : k - 1 < length (facing a.across l)
    low : Low (get_or (facing a.across l) (k - 1) (size 0 0))
    word : z ≡ pack (get_or (facing a.across l) (k - 1) (size 0 0))
    after : Standing (outline height width) (facing a.across l) (suc (k - 1)) found best
    narrow : Narrow (facing a.across l)

  next : (k : ℕ) (found : Option ℕ) (best z : ℕ) → Looking s a height width k found best → 0 < k → Reads s a (k - 1) z → (l : List Item) → HasList s a.from l → a.count ≡ length l → Next k found best z l
  next k found best z inv some read l has e =
      let whole : k ≡ suc (k - 1) = omega arith in
      let inside : k - 1 < length l = omega arith in
      let same = facing_length a.across l in
      record {
        in_list = omega arith;
        low = facing_low a.across s a.from l has (k - 1) inside;
        word = read l has e;
        after = subst (λ (n : ℕ). Standing (outline height width) (facing a.across l) n found best) whole (inv.so_far l has e);
        narrow = λ i h. (facing_low a.across s a.from l has i (omega arith)).1;
      }

  -- An item that is higher or wider than the opening.
  not_inside : (y : Item) (h w : ℕ) → h ≡ y.m → w ≡ y.p → (height < h) ⊎ ((h ≤ height) × (width < w)) → fits (outline height width) y ≡ false
  not_inside y h w m_same p_same (inl high) = too_high height width y (omega arith)
  not_inside y h w m_same p_same (inr wide) = let fits_h = wide.0 in let wider = wide.1 in too_wide height width y (omega arith) (omega arith)

  pub looking_past : (k : ℕ) (found : Option ℕ) (best z h w : ℕ)
      → Looking s a height width k found best → 0 < k → Reads s a (k - 1) z
      → h ≡ z / 65_536 → w ≡ z % 65_536 → (height < h) ⊎ ((h ≤ height) × (width < w))
      → Looking s a height width (k - 1) found best
  looking_past k found best z h w inv some read h_is w_is out = record { bound = omega arith; so_far = past }
    where
      past : Looked s a height width (k - 1) found best
      past l has e =
          let n = next k found best z inv some read l has e in
          let y = get_or (facing a.across l) (k - 1) (size 0 0) in
          let m_same = m_is y z h n.low n.word h_is in
          let p_same = p_is y z w n.low n.word w_is in
          standing_past (outline height width) (facing a.across l) (k - 1) found best n.in_list (not_inside y h w m_same p_same out) n.after

  rank_same : (y : Item) (h w r : ℕ) → h ≡ y.m → w ≡ y.p → r ≡ 65_536 * (h * w) + w → r ≡ rank y
  rank_same y h w r e f g = g ∙ rw (e, f)

  pub looking_worse : (k : ℕ) (found : Option ℕ) (best z h w r : ℕ)
      → Looking s a height width k found best → 0 < k → Reads s a (k - 1) z
      → h ≡ z / 65_536 → w ≡ z % 65_536 → h ≤ height → w ≤ width → r ≡ 65_536 * (h * w) + w → best < r
      → Looking s a height width (k - 1) found best
  looking_worse k found best z h w r inv some read h_is w_is fits_h fits_w r_is more = record { bound = omega arith; so_far = past }
    where
      past : Looked s a height width (k - 1) found best
      past l has e =
          let n = next k found best z inv some read l has e in
          let y = get_or (facing a.across l) (k - 1) (size 0 0) in
          let m_same = m_is y z h n.low n.word h_is in
          let p_same = p_is y z w n.low n.word w_is in
          let r_same = rank_same y h w r m_same p_same r_is in
          standing_worse (outline height width) (facing a.across l) (k - 1) found best n.in_list n.narrow (in_opening height width y (omega arith) (omega arith)) (rank_fits y n.low) (subst (λ (i : ℕ). best < i) r_same more) n.after

  pub looking_taken : (k : ℕ) (found : Option ℕ) (best z h w r : ℕ)
      → Looking s a height width k found best → 0 < k → Reads s a (k - 1) z
      → h ≡ z / 65_536 → w ≡ z % 65_536 → h ≤ height → w ≤ width → r ≡ 65_536 * (h * w) + w → r ≤ best
      → Looking s a height width (k - 1) (Some (k - 1)) r
  looking_taken k found best z h w r inv some read h_is w_is fits_h fits_w r_is less = record { bound = omega arith; so_far = taken }
    where
      taken : Looked s a height width (k - 1) (Some (k - 1)) r
      taken l has e =
          let n = next k found best z inv some read l has e in
          let y = get_or (facing a.across l) (k - 1) (size 0 0) in
          let m_same = m_is y z h n.low n.word h_is in
          let p_same = p_is y z w n.low n.word w_is in
          let r_same = rank_same y h w r m_same p_same r_is in
          subst (λ (i : ℕ). Standing (outline height width) (facing a.across l) (k - 1) (Some (k - 1)) i) (sym r_same)
          (standing_taken (outline height width) (facing a.across l) (k - 1) found best n.in_list n.narrow (in_opening height width y (omega arith) (omega arith)) (subst (λ (i : ℕ). i ≤ best) r_same less) n.after)

  pub looking_done : (k : ℕ) (found : Option ℕ) (best : ℕ) → Looking s a height width k found best → k ≤ 0 → (l : List Item) → HasList s a.from l → a.count ≡ length l → Picks (outline height width) (facing a.across l) found
  looking_done k found best inv end l has e =
      let none : k ≡ 0 = omega arith in
      standing_done (outline height width) (facing a.across l) found best
      (subst (λ (n : ℕ). Standing (outline height width) (facing a.across l) n found best) none (inv.so_far l has e))
