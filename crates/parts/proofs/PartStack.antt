-- The parts of the stack stand in the arena as long as the records below their end and their heads do.
-- Each part has its own range of records and its own head.
use mathlib.Core.Path.{◌≡◌}
use mathlib.Core.List.{List, [], ◌∷◌}
use Prim.Native.Nat.{ℕ, ◌+◌, ◌≤◌, ◌<◌}
use native.Mathlib.Omega.{arith}
use lib.ListN.{length, length-append}
use Rattle.slicing.specs.Tree.{Tree, sizes_of}
use Rattle.slicing.specs.Recorded.{part_recorded}
use Rattle.entries.specs.inside.Tracking.{flat}
use Rattle.arena.specs.inside.Chain.{Same}
use Rattle.parts.specs.inside.Part.{first_head, head_of, Parts}
use Rattle.parts.proofs.PartLaws.{part_frame}

pub parts_some : (gap : ℕ) (levels a : List ℕ) (stack : List Tree) (hi : ℕ) → Parts gap levels a stack hi → 1 ≤ hi
parts_some gap levels a [] hi p = omega arith
parts_some gap levels a (t ∷ stack) hi p =
    let below = parts_some gap levels a stack p.0 p.3 in
    let e = p.1 in
    omega arith

-- They take as many records as their sizes.
pub parts_total : (gap : ℕ) (levels a : List ℕ) (stack : List Tree) (hi : ℕ) → Parts gap levels a stack hi → hi ≡ 1 + length (flat sizes_of stack)
parts_total gap levels a [] hi p = p
parts_total gap levels a (t ∷ stack) hi p =
    let below = parts_total gap levels a stack p.0 p.3 in
    let e = p.1 in
    let both = length-append (flat sizes_of stack) (sizes_of t) in
    omega arith

pub parts_frame : (gap : ℕ) (levels a b : List ℕ) (stack : List Tree) (hi : ℕ) → length b ≡ length a → hi ≤ first_head → ((x : ℕ) → 1 ≤ x → x < hi → Same a b x) → ((i : ℕ) → i < length stack → Same a b (head_of i))
    → Parts gap levels a stack hi → Parts gap levels b stack hi
parts_frame gap levels a b [] hi long most records heads p = p
parts_frame gap levels a b (t ∷ stack) hi long most records heads p =
    let e = p.1 in
    let some = parts_some gap levels a stack p.0 p.3 in (
      p.0,
      e,
      part_frame levels a b (head_of (length stack)) p.0 hi (part_recorded gap p.0 t) p.2 long (λ x u v. records x (omega arith) v)
          (heads (length stack) (omega arith)) (λ i. let w = i.1 in omega arith),
      parts_frame gap levels a b stack p.0 long (omega arith) (λ x u v. records x u (omega arith)) (λ i less. heads i (omega arith)) p.3,
    )
