-- An array that holds a value of each part on the stack: a gauge's is stored after them, and a join's in the place of the older part.
-- The place of a part is the number of parts below it, so a store at the end of a stack is at no part's place.
use mathlib.Core.Path.{◌≡◌, sym, ap, subst, ◌∙◌}
use mathlib.Core.List.{List, [], ◌∷◌}
use Prim.Native.Nat.{ℕ, suc, ◌-◌, ◌≤◌, ◌<◌}
use native.Mathlib.Omega.{arith}
use lib.ListN.{length, get_or, set, length-set}
use lib.Seq.{get_or-set_same, get_or-set_other}
use Rattle.slicing.specs.Tree.{Tree}

-- The values are of any type; d is some one of them, for what stands past the end.
module _ {A : Type 0} (d : A) (f : Tree → A) where
  -- The array a holds f of the parts of the stack, the oldest at place 0.
  abbrev pub Held : List A → List Tree → Type 0
  Held a [] = Unit {0}
  Held a (t ∷ parts) = (get_or a (length parts) d ≡ f t) × Held a parts

  -- A store at or after the end of the stack leaves what is held.
  held_set : (a : List A) (i : ℕ) (v : A) (parts : List Tree) → length parts ≤ i → Held a parts → Held (set a i v) parts
  held_set a i v [] h k = tt
  held_set a i v (t ∷ parts) h k =
      let other : length parts ≡ i → ⊥ = omega arith in
      (get_or-set_other a i (length parts) v d other ∙ k.0, held_set a i v parts (omega arith) k.1)

  held_push : (a : List A) (v : A) (t : Tree) (parts : List Tree) → length parts < length a → v ≡ f t → Held a parts → Held (set a (length parts) v) (t ∷ parts)
  held_push a v t parts h e k =
      (get_or-set_same a (length parts) v d h ∙ e, held_set a (length parts) v parts (omega arith) k)

  -- An array of 64 values holds f of the parts of the stack.
  pub record Column (a : List A) (stack : List Tree) : Type 0 where
    pub long : length a ≡ 64
    pub held : Held a stack

  pub column_start : (a : List A) → length a ≡ 64 → Column a []
  column_start a h = record { long = h; held = tt }

  stored : (a l : List A) (n : ℕ) (v : A) (t : Tree) (parts : List Tree) → n ≡ length parts → l ≡ set a n v → n < 64 → v ≡ f t → length a ≡ 64 → Held a parts → Column l (t ∷ parts)
  stored a l n v t parts e p h w long k =
      record {
        long = ap length p ∙ length-set a n v ∙ long;
        held = subst (λ (s : List A). Held s (t ∷ parts)) (sym (p ∙ ap (λ (i : ℕ). set a i v) e)) (held_push a v t parts (omega arith) w k);
      }

  -- A stack of n parts, and what the code stores to the array.
  module _ (a : List A) (stack : List Tree) (n : ℕ) (count : length stack ≡ n) (k : Column a stack) where
    pub column_push : (l : List A) (v : A) (t : Tree) → n < 64 → l ≡ set a n v → v ≡ f t → Column l (t ∷ stack)
    column_push l v t h p w = stored a l n v t stack (sym count) p h w k.long k.held

    -- The two newest parts, and one part in their place.
    module _ (x y : Tree) (rest : List Tree) (two : stack ≡ y ∷ x ∷ rest) where
      held_two : Held a (y ∷ x ∷ rest)
      held_two = subst (λ (s : List Tree). Held a s) two k.held

      newest : n - 1 ≡ suc (length rest)
      newest = let both = sym count ∙ ap length two in omega arith

      below : n - 1 - 1 ≡ length rest
      below = let both = sym count ∙ ap length two in omega arith

      pub column_older : get_or a (n - 1 - 1) d ≡ f x
      column_older = ap (λ (i : ℕ). get_or a i d) below ∙ held_two.1.0

      pub column_newer : get_or a (n - 1) d ≡ f y
      column_newer = ap (λ (i : ℕ). get_or a i d) newest ∙ held_two.0

      pub column_join : (l : List A) (v : A) (t : Tree) → n ≤ 64 → l ≡ set a (n - 1 - 1) v → v ≡ f t → Column l (t ∷ rest)
      column_join l v t h p w =
          let both = sym count ∙ ap length two in
          stored a l (n - 1 - 1) v t rest below p (omega arith) w k.long held_two.1.1
