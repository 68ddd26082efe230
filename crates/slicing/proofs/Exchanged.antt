-- The merge of two ordered lists is the merge of the two exchanged, at any gap.
-- A maxplus merge is decided by the pairs that it comes from and meets, and max and sum do not look at the order of two numbers.
use mathlib.Core.Path.{◌≡◌}
use mathlib.Core.List.{List, Memᴰ}
use Prim.Native.Nat.{ℕ}
use native.Mathlib.Omega.{arith}
use Rattle.slicing.specs.Item.{Item}
use Rattle.slicing.specs.Good.{Ordered}
use Rattle.slicing.specs.Merge.{merge}
use Rattle.slicing.specs.Maxplus.{Meets}
use Rattle.slicing.proofs.MergeLaws.{maxplus}
use Rattle.slicing.proofs.Unique.{unique}

module _ (gap : ℕ) where
  exchanged_met : (a b : List Item) → Ordered a → Ordered b → (z : Item) → Memᴰ z (merge gap a b) → Meets (merge gap b a) z.m z.p
  exchanged_met a b oa ob z i =
      let pair = (maxplus gap a b oa ob).from z i in
      let met = (maxplus gap b a ob oa).met pair.second pair.first pair.second_in pair.first_in in
      let m_is = pair.m_is in
      let p_is = pair.p_is in
      let not_taller = met.not_taller in
      let no_wider = met.no_wider in
      record { item = met.item; item_in = met.item_in; not_taller = omega arith; no_wider = omega arith }

  pub merge_exchanged : (a b : List Item) → Ordered a → Ordered b → merge gap a b ≡ merge gap b a
  merge_exchanged a b oa ob =
      unique (merge gap a b) (merge gap b a) (maxplus gap a b oa ob).order (maxplus gap b a ob oa).order (exchanged_met a b oa ob) (exchanged_met b a ob oa)
