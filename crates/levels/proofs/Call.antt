-- What the levels call answers and leaves in its buffer: a law for each way out.
-- The counts are those of the face that the file means, and the top level and the levels are those of the tree that it counted.
use mathlib.Core.Path.{◌≡◌, refl, sym, ap, ◌∙◌}
use mathlib.Core.List.{List}
use Prim.Native.Nat.{ℕ, ◌≤◌}
use native.Mathlib.Omega.{arith}
use lib.ListN.{length}
use Rattle.checks.specs.declared.Check.{Check}
use Rattle.checks.specs.Answer.{Answer, refused, taken, Asked, number}
use Rattle.checks.proofs.Answers.{same_taken}
use Rattle.slicing.specs.Tree.{Tree, size_count, least_depth}
use Rattle.slicing.proofs.Depths.{depth_few, least_most}
use Rattle.facefile.specs.declared.Counts.{Counts}
use Rattle.facefile.specs.Format.{face_of}
use Rattle.facefile.specs.Summary.{counted}
use Rattle.facefile.proofs.Taken.{face_taken}
use Rattle.lent.specs.Questions.{level_count}
use Rattle.lent.proofs.Asking.{count_taken}
use Rattle.lent.proofs.Calling.{CountedFace, call_no_file, called, call_no_asked, call_goes}
use Rattle.depths.specs.declared.Depths.{Depths}
use Rattle.depths.specs.inside.Deep.{Deep}
use Rattle.levels.specs.Levels.{top_level, levels_from, levels_of, levels_call, levels_filled}
use Rattle.levels.specs.inside.Taken.{Fillable, OwnLevels}

-- What the calls that fill the buffer ask for, and what they leave.
module _ (file : List ℕ) (room : ℕ) (k : Fillable file room) where
  pub room_few : room ≤ 512
  room_few = let most = (face_taken file k.tree k.face).most in let same = k.as_many in omega arith

  pub least_few : (d : Depths) → Deep file d → d.least ≤ 63
  unfolding Deep
  least_few d deep =
      let depths = deep k.tree k.face in
      let few = (face_taken file k.tree k.face).few in
      omega (arith, depth_few k.tree, least_most k.tree)

  pub own_levels : (after : List ℕ) (top : ℕ) (d : Depths) → Deep file d → top ≡ top_level room d.least d.most → after ≡ levels_from top 1 room → OwnLevels file after
  unfolding Deep OwnLevels levels_of
  own_levels after top d deep e l t face =
      let depths = deep t face in
      let size : room ≡ size_count t = k.as_many ∙ ap size_count (same_taken k.tree t (sym k.face ∙ face)) in
      l ∙ ap (λ (n : ℕ). levels_from top 1 n) size
      ∙ ap (λ (n : ℕ). levels_from n 1 (size_count t))
      (e ∙ ap (λ (n : ℕ). top_level n d.least d.most) size
      ∙ ap (λ (n : ℕ). top_level (size_count t) n d.most) depths.0
      ∙ ap (λ (n : ℕ). top_level (size_count t) (least_depth t) n) depths.1)

module _ (file before : List ℕ) where
  abbrev answer : Answer Tree
  answer = levels_call (face_of file) (length before)

  abbrev asked : Counts → Asked
  asked n = level_count n.sizes (length before)

  -- What the call promises of its answer and of the buffer after it.
  abbrev pub Promised : Asked → List ℕ → Type 0
  Promised r after = (number r ≡ number answer) × (after ≡ levels_filled answer before)

  refused_so : (c : Check) → answer ≡ refused c → Promised (refused c) before
  refused_so c bad = rw bad (refl, refl)

  pub fill_no_file : (c : Check) → refused c ≡ counted (face_of file) → Promised (refused c) before
  unfolding levels_call
  fill_no_file c is = refused_so c (call_no_file (face_of file) asked c is)

  module _ (n : Counts) (read : taken n ≡ counted (face_of file)) where
    pub fill_no_count : (c : Check) → refused c ≡ asked n → Promised (refused c) before
    unfolding levels_call
    fill_no_count c is = refused_so c (call_no_asked (face_of file) asked n read c is)

    module _ (yes : taken tt ≡ asked n) where
      abbrev face : CountedFace n (face_of file)
      face = called (face_of file) asked n read

      pub fill_fits : Fillable file (length before)
      fill_fits =
          let same = count_taken n.sizes (length before) (sym yes) in
          record {
            tree = face.tree;
            face = face.face;
            as_many = same ∙ ap (λ (m : Counts). m.sizes) face.counts;
          }

      pub fill_done : (after : List ℕ) → OwnLevels file after → Promised (taken tt) after
      unfolding levels_call OwnLevels
      fill_done after own = rw (call_goes (face_of file) asked n read yes) (refl, own face.tree face.face)
