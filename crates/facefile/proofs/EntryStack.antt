-- What holds of the parts on the stack in the run of a file's entries, and of the two that a join takes: they are good, have at most 64 gauges, and their sizes are the face's first.
-- The run came there by entries that were taken, and those that are left only add to the stack at its end.
use mathlib.Core.Path.{◌≡◌, refl, sym, ap, subst, ◌∙◌}
use mathlib.Core.List.{List, [], ◌∷◌, ◌++◌}
use Prim.Native.Nat.{ℕ, ◌+◌, ◌-◌, ◌≤◌, ◌<◌}
use native.Mathlib.Omega.{arith}
use lib.ListN.{length, drop, length-append}
use Rattle.checks.specs.Answer.{taken}
use Rattle.checks.proofs.Answers.{same_taken}
use Rattle.slicing.specs.Tree.{Tree, gauges_of, sizes_of, gauge_count, size_count}
use Rattle.slicing.specs.Good.{Good}
use Rattle.slicing.proofs.Depths.{depth_few}
use Rattle.facefile.specs.Format.{rules_of, start, face_of}
use Rattle.entries.specs.inside.Tracking.{flat}
use Rattle.entries.specs.declared.kinds.Kind.{Kind}
use Rattle.facefile.specs.inside.Entries.{Walk, gauge_of, GaugeNext, JoinNext}
use Rattle.entries.proofs.Took.{state, entries_read}
use Rattle.entries.proofs.Stacks.{Joins, reads_flat, sizes_join}
use Rattle.facefile.proofs.Taken.{GoodParts, Sound, start_sound, reads_sound}
use Rattle.facefile.proofs.EntryWalk.{walk_start, run_reads, run_end}

-- Each part has a gauge.
parts_few : (parts : List Tree) → length parts ≤ length (flat gauges_of parts)
parts_few [] = omega arith
parts_few (t ∷ parts) =
    omega (arith, length-append (flat gauges_of parts) (gauges_of t), parts_few parts, depth_few t)

module _ (file : List ℕ) (face : Tree) (rest : List ℕ) (stack : List Tree) (w : Walk file face rest stack) where
  sound : Sound (w.done + 0) (state rest stack w.gauges)
  sound =
      reads_sound 0 w.done (start file) (state rest stack w.gauges) (start_sound file)
      (entries_read (rules_of file) w.done (start file) (state rest stack w.gauges) w.read)

  pub walk_good : GoodParts stack
  walk_good = sound.good

  pub walk_gauges : length (flat gauges_of stack) ≤ 64
  walk_gauges = let c = sound.counted in let f = sound.few in omega arith

  pub walk_parts : length stack ≤ 64
  walk_parts = let g = walk_gauges in let p = parts_few stack in omega arith

  -- What f makes of the parts is the beginning of what it makes of the face.
  pub walk_flat : {A : Type 0} (f : Tree → List A) → Joins f → (more : List A) × (f face ≡ flat f stack ++ more)
  walk_flat f joins =
      let left = run_reads (face_of file) (rules_of file) (start file) face rest stack w in
      reads_flat f joins w.left (state rest stack w.gauges) (state [] (face ∷ []) left.0) left.1

  pub walk_sizes : length (flat sizes_of stack) ≤ size_count face
  walk_sizes =
      let all = walk_flat sizes_of sizes_join in
      let both = ap length all.1 ∙ length-append (flat sizes_of stack) all.0 in
      omega arith

  pub walk_face : (t : Tree) → face_of file ≡ taken t → face ≡ t
  walk_face t e = same_taken face t (sym w.means ∙ e)

  -- Where no byte is left, the face is the one part on the stack.
  pub walk_end : rest ≡ [] → stack ≡ face ∷ []
  walk_end none = run_end (face_of file) (rules_of file) (start file) face rest stack w none

-- The two parts that a join takes.
module _ (file : List ℕ) (face : Tree) (rest : List ℕ) (stack : List Tree) (w : Walk file face rest stack) (kind : Kind) (behind : List ℕ) (j : JoinNext (Walk file face) stack rest kind behind) where
  pub join_good : Good j.newer × Good j.older
  join_good =
      let all = subst (λ (l : List Tree). GoodParts l) j.two (walk_good file face rest stack w) in (all.0, all.1.0)

  pub join_gauges : gauge_count j.older + gauge_count j.newer ≤ 64
  join_gauges =
      let all = ap (λ (l : List Tree). length (flat gauges_of l)) j.two in
      let one = length-append (flat gauges_of (j.older ∷ j.below)) (gauges_of j.newer) in
      let last = length-append (flat gauges_of j.below) (gauges_of j.older) in
      let few = walk_gauges file face rest stack w in
      omega arith

-- A run with so many parts on the stack, of which there are never more than 64.
pub record Counted (file : List ℕ) (face : Tree) (rest : List ℕ) (stack : List Tree) (parts : ℕ) : Type 0 where
  pub walk : Walk file face rest stack
  pub count : length stack ≡ parts
  pub few : parts ≤ 64

counted : (file : List ℕ) (face : Tree) (rest : List ℕ) (stack : List Tree) (parts : ℕ) → Walk file face rest stack → length stack ≡ parts → Counted file face rest stack parts
counted file face rest stack parts w e =
    record { walk = w; count = e; few = let few = walk_parts file face rest stack w in omega arith }

pub counted_start : (file : List ℕ) (face : Tree) → face_of file ≡ taken face → Counted file face (drop 7 file) [] 0
counted_start file face e = counted file face (drop 7 file) [] 0 (walk_start file face e) refl

module _ (file : List ℕ) (face : Tree) (rest : List ℕ) (stack : List Tree) (parts : ℕ) (k : Counted file face rest stack parts) (behind : List ℕ) where
  module _ (sizes : List ℕ) (g : GaugeNext file face stack rest sizes behind) where
    pub counted_gauge : Counted file face behind (gauge_of sizes ∷ stack) (parts + 1)
    counted_gauge = counted file face behind _ (parts + 1) g.walk (let c = k.count in omega arith)

    pub counted_room : parts < 64
    counted_room = let more = counted_gauge.few in omega arith

  module _ (kind : Kind) (j : JoinNext (Walk file face) stack rest kind behind) where
    pub counted_two : 2 ≤ parts
    counted_two = let c = sym k.count ∙ ap length j.two in omega arith

    pub counted_below : parts - 2 ≡ length j.below
    counted_below = let c = sym k.count ∙ ap length j.two in omega arith

    pub counted_join : Counted file face behind (j.cut j.older j.newer ∷ j.below) (parts - 1)
    counted_join =
        counted file face behind _ (parts - 1) j.walk (let c = sym k.count ∙ ap length j.two in omega arith)
