-- Demand 2 over the definitions, in the demand's own order: the list of outer sizes of every good tree.
-- The merge carried up the tree is `shapes` by definition; the rest is gathered from the laws of shape lists, and two lists with these properties meet each other's items, so they are one.
use mathlib.Core.Path.{◌≡◌, subst}
use mathlib.Core.List.{List, Memᴰ}
use Prim.Native.Nat.{ℕ}
use Rattle.slicing.specs.Item.{Item}
use Rattle.slicing.specs.Tree.{Tree}
use Rattle.slicing.specs.Good.{Good}
use Rattle.slicing.specs.Maxplus.{Meets}
use Rattle.slicing.specs.Shapes.{shapes}
use Rattle.slicing.specs.Demand2.{OuterSizes, Demand2}
use Rattle.slicing.proofs.ShapeLaws.{shapes_ordered, shapes_short, shapes_chosen, shapes_meet}
use Rattle.slicing.proofs.Unique.{unique}
use Rattle.slicing.proofs.NoTaller.{only_itself}

outer_sizes : (gap : ℕ) (t : Tree) → Good t → OuterSizes gap t (shapes gap t)
outer_sizes gap t h =
    record {
      from_choice = λ z i. shapes_chosen gap t z h i;
      choice_met = shapes_meet gap t h;
      order = shapes_ordered gap t h;
    }

-- An item of one such list is met by the other, through the choice that it comes from.
each_met : (gap : ℕ) (t : Tree) (a b : List Item) → OuterSizes gap t a → OuterSizes gap t b → (z : Item) → Memᴰ z a → Meets b z.m z.p
each_met gap t a b x y z i =
    let from = x.from_choice z i in
    subst (λ (e : Item). Meets b e.m e.p) from.same (y.choice_met from.choice)

pub outer_only : (gap : ℕ) (t : Tree) (a b : List Item) → OuterSizes gap t a → OuterSizes gap t b → a ≡ b
outer_only gap t a b x y = unique a b x.order y.order (each_met gap t a b x y) (each_met gap t b a y x)

pub demand_2 : (gap : ℕ) (t : Tree) → Good t → Demand2 gap t (shapes gap t)
demand_2 gap t h =
    let outer = outer_sizes gap t h in
    record {
      outer = outer;
      short = shapes_short gap t h;
      none_inferior = λ z y i j d. only_itself (shapes gap t) outer.order y z j i d.not_taller d.no_wider;
      only = λ k o. outer_only gap t k (shapes gap t) o outer;
    }
