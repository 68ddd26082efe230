-- What the walk for the depths keeps: the array holds, from the oldest part on the stack to the newest, its depths.
-- A gauge is put after the parts that are there, and a join takes the place of the older of its two parts.
use mathlib.Core.Path.{◌≡◌, refl, ap, ap₂, subst, ◌∙◌}
use mathlib.Core.List.{List, [], ◌∷◌}
use Prim.Native.Nat.{ℕ, ◌+◌, ◌-◌, ◌≤◌, ◌<◌}
use native.Mathlib.Omega.{arith}
use lib.ListN.{length, get_or, set, drop}
use Rattle.std.specs.Prelude.{Option, Some, None}
use Rattle.std.specs.Borrow.{Bor}
use Rattle.checks.specs.Answer.{taken}
use Rattle.slicing.specs.Tree.{Tree, least_depth, most_depth}
use Rattle.slicing.proofs.Depths.{depth_few, least_most}
use Rattle.facefile.specs.declared.entry.Entry.{Entry}
use Rattle.facefile.specs.declared.entry.Entry.TheVariants.{Gauge, Join}
use Rattle.facefile.specs.declared.entry.Entries.{Entries}
use Rattle.facefile.specs.Format.{face_of}
use Rattle.entries.specs.inside.Kinds.{byte_of, Cut, cut_beside, cut_stacked}
use Rattle.entries.specs.declared.kinds.Kind.{Kind}
use Rattle.facefile.specs.inside.Entries.{Walk, gauge_of, GaugeNext, JoinNext}
use Rattle.facefile.specs.inside.Entries.Gives.{rest_of, Gives}
use Rattle.facefile.proofs.PartArray.{Column, column_start, column_push, column_older, column_newer, column_join}
use Rattle.facefile.proofs.EntrySteps.{came_none, came_gauge, came_join}
use Rattle.facefile.proofs.EntryStack.{walk_face, walk_end, join_gauges, Counted, counted_start, counted_room, counted_gauge, counted_two, counted_join}
use Rattle.depths.specs.declared.Depths.{Depths}
use Rattle.depths.specs.inside.Deep.{Deep, Shallow, above}

abbrev depths : ℕ → ℕ → Depths
depths least most = record { least = least; most = most }

-- The depths of a part, and of a gauge.
abbrev depths_in : Tree → Depths
depths_in t = depths (least_depth t) (most_depth t)

abbrev none : Depths
none = depths 0 0

cut_depths : (kind : ℕ) (cut : Tree → Tree → Tree) (x y : Tree) → Cut kind cut → above (depths_in x) (depths_in y) ≡ depths_in (cut x y)
cut_depths kind cut x y cut_beside = ap₂ depths (omega arith) (omega arith)
cut_depths kind cut x y cut_stacked = ap₂ depths (omega arith) (omega arith)

pub record Measured (file : List ℕ) (stack : List Depths) (rest : List ℕ) (parts : ℕ) : Type 0 where
  pub face : Tree
  pub trees : List Tree
  pub walked : Counted file face rest trees parts
  pub held : Column none depths_in stack trees

pub measured_start : (file : List ℕ) (stack : List Depths) (of it : Entries) → (t : Tree) × (face_of file ≡ taken t) → rest_of of ≡ drop 7 file → it ≡ of → length stack ≡ 64 → Measured file stack (rest_of it) 0
measured_start file stack of it t r same long =
    record {
      face = t.0;
      trees = [];
      walked = rw (same, r) (counted_start file t.0 t.1);
      held = column_start none depths_in stack long;
    }

module _ (file : List ℕ) (stack : List Depths) (parts : ℕ) (s t : Entries) (k : Measured file stack (rest_of s) parts) where
  module _ (r : Entry) (came : Gives s (Some r) t) where
    module _ (sizes : Bor (List ℕ)) (e : r ≡ Gauge sizes) where
      here : GaugeNext file k.face k.trees (rest_of s) sizes.now (rest_of t)
      here = came_gauge file k.face k.trees s t k.walked.walk r came sizes e

      room : parts < 64
      room = counted_room file k.face (rest_of s) k.trees parts k.walked (rest_of t) sizes.now here

      pub gauge_room : parts < length stack
      gauge_room = let n = room in let l = k.held.long in omega arith

      pub measured_gauge : (l : List Depths) → l ≡ set stack parts none → Measured file l (rest_of t) (parts + 1)
      measured_gauge l p =
          record {
            face = k.face;
            trees = gauge_of sizes.now ∷ k.trees;
            walked = counted_gauge file k.face (rest_of s) k.trees parts k.walked (rest_of t) sizes.now here;
            held = column_push none depths_in stack k.trees parts k.walked.count k.held l none (gauge_of sizes.now) room p refl;
          }

    module _ (kind : Kind) (e : r ≡ Join kind) where
      joined : JoinNext (Walk file k.face) k.trees (rest_of s) kind (rest_of t)
      joined = came_join file k.face k.trees s t k.walked.walk r came kind e

      pub join_two : 2 ≤ parts
      join_two = counted_two file k.face (rest_of s) k.trees parts k.walked (rest_of t) kind joined

      pub join_few : parts ≤ length stack
      join_few = let few = k.walked.few in let l = k.held.long in omega arith

      older_is : get_or stack (parts - 1 - 1) none ≡ depths_in joined.older
      older_is =
          column_older none depths_in stack k.trees parts k.walked.count k.held joined.older joined.newer joined.below joined.two

      newer_is : get_or stack (parts - 1) none ≡ depths_in joined.newer
      newer_is =
          column_newer none depths_in stack k.trees parts k.walked.count k.held joined.older joined.newer joined.below joined.two

      -- No part is deeper than 63.
      shallow : Shallow (depths_in joined.older) × Shallow (depths_in joined.newer)
      shallow =
          let gauges = join_gauges file k.face (rest_of s) k.trees k.walked.walk kind (rest_of t) joined in
          let a = depth_few joined.older in
          let b = depth_few joined.newer in
          let x = least_most joined.older in
          let y = least_most joined.newer in
          (record { least = omega arith; most = omega arith }, record { least = omega arith; most = omega arith })

      pub join_shallow : Shallow (get_or stack (parts - 1 - 1) none) × Shallow (get_or stack (parts - 1) none)
      join_shallow = rw (older_is, newer_is) shallow

      pub measured_join : (l : List Depths) (d : Depths) → d ≡ above (get_or stack (parts - 1 - 1) none) (get_or stack (parts - 1) none) → l ≡ set stack (parts - 1 - 1) d → Measured file l (rest_of t) (parts - 1)
      measured_join l d is p =
          let j = joined in
          record {
            face = k.face;
            trees = j.cut j.older j.newer ∷ j.below;
            walked = counted_join file k.face (rest_of s) k.trees parts k.walked (rest_of t) kind j;
            held =
                column_join none depths_in stack k.trees parts k.walked.count k.held j.older j.newer j.below j.two l d (j.cut j.older j.newer)
                k.walked.few p
                (is ∙ ap₂ above older_is newer_is ∙ cut_depths (byte_of kind) j.cut j.older j.newer j.is_cut);
          }

  pub measured_end : (r : Option Entry) → r ≡ None → Gives s r t → Deep file (get_or stack 0 none)
  unfolding Deep
  measured_end r e came tree is =
      let same = walk_face file k.face (rest_of s) k.trees k.walked.walk tree is in
      let over = came_none file k.face k.trees s t k.walked.walk r e came in
      let whole : k.trees ≡ tree ∷ [] = walk_end file k.face (rest_of s) k.trees k.walked.walk over ∙ ap (λ (x : Tree). x ∷ []) same in
      let held = (subst (λ (l : List Tree). Column none depths_in stack l) whole k.held).held.0 in
      (ap (λ (d : Depths). d.least) held, ap (λ (d : Depths). d.most) held)
