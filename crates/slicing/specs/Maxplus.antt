-- Source document 004, Problem 1: what a maxplus merge of two ordered lists is, with m falling as document 01 decides.
use Rattle.std.specs.Prelude.{◌≡◌, ℕ, ◌+◌, ◌≤◌, max}
use mathlib.Core.List.{List, Memᴰ}
use Rattle.slicing.specs.Item.{Item}
use Rattle.slicing.specs.Good.{Ordered}

-- z is the maximum of the m, and the sum of the p, of an item of each list.
pub record FromPair (gap : ℕ) (a b : List Item) (z : Item) : Type 0 where
  pub first : Item
  pub first_in : Memᴰ first a
  pub second : Item
  pub second_in : Memᴰ second b
  pub m_is : z.m ≡ max first.m second.m
  pub p_is : z.p ≡ first.p + gap + second.p

-- The list has an item whose m is at most m, and whose p at most p.
pub record Meets (l : List Item) (m p : ℕ) : Type 0 where
  pub item : Item
  pub item_in : Memᴰ item l
  pub not_taller : item.m ≤ m
  pub no_wider : item.p ≤ p

-- c is a maxplus merge of a and b: it is ordered, each item comes from a pair, and each pair is met.
pub record Maxplus (gap : ℕ) (a b c : List Item) : Type 0 where
  pub order : Ordered c
  pub from : (z : Item) → Memᴰ z c → FromPair gap a b z
  pub met : (x y : Item) → Memᴰ x a → Memᴰ y b → Meets c (max x.m y.m) (x.p + gap + y.p)
