-- Once its levels are filled in, a taken face has all that writing its list and placing it in the widest opening ask for.
-- The levels are the face's own, which are in range, and the rooms are those that any face needs.
use mathlib.Core.Path.{◌≡◌, sym, ap, subst, ◌∙◌}
use mathlib.Core.List.{List}
use Prim.Native.Nat.{ℕ, ◌+◌, ◌≤◌, ◌<◌}
use native.Mathlib.Omega.{arith}
use lib.ListN.{length, get_or}
use Rattle.checks.specs.Limits.{buffer_words}
use Rattle.checks.specs.Answer.{taken}
use Rattle.slicing.specs.Tree.{Tree, gauge_count, size_count, least_depth, most_depth}
use Rattle.slicing.proofs.Counts.{counted}
use Rattle.facefile.specs.Format.{face_of}
use Rattle.facefile.proofs.Taken.{face_taken}
use Rattle.levels.specs.Levels.{top_level, levels_of}
use Rattle.levels.specs.inside.Taken.{Fillable, OwnLevels}
use Rattle.levels.proofs.Sequence.{length_levels}
use Rattle.levels.proofs.Range.{top_least, top_most, level_fits}
use Rattle.shapes.specs.inside.Taken.{Writable}
use Rattle.placing.specs.inside.Facing.{Placeable}
use Rattle.report.specs.inside.Telling.{Tallied, Levelled}

-- Every level is 1 to 8.
abbrev InRange : List ℕ → Type 0
InRange l = (i : ℕ) → i < length l → (1 ≤ get_or l i 0) × (get_or l i 0 ≤ 8)

own_length : (t : Tree) → length (levels_of t) ≡ size_count t
unfolding levels_of
own_length t = length_levels (top_level (size_count t) (least_depth t) (most_depth t)) 1 (size_count t)

own_range : (t : Tree) → size_count t ≤ 512 → InRange (levels_of t)
unfolding levels_of
own_range t few i less =
    let long = own_length t in
    level_fits (top_level (size_count t) (least_depth t) (most_depth t)) 1 (size_count t) i (top_least (size_count t) (least_depth t) (most_depth t)) (top_most (size_count t) (least_depth t) (most_depth t) few) (omega arith)

module _ (file : List ℕ) (gauges sizes : ℕ) (k : Tallied file gauges sizes) where
  pub fillable : Fillable file sizes
  fillable = record { tree = k.tree; face = k.face; as_many = k.sizes_is }

  pub levelled : (new : List ℕ) → OwnLevels file new → Levelled file new gauges
  unfolding OwnLevels
  levelled new is =
      let own : new ≡ levels_of k.tree = is k.tree k.face in
      record {
        tallied =
            record {
              tree = k.tree;
              face = k.face;
              gauges_is = k.gauges_is;
              sizes_is = ap length own ∙ own_length k.tree;
            };
        in_range = subst InRange (sym own) (own_range k.tree (face_taken file k.tree k.face).most);
      }

-- Of any taken face.
module _ (file : List ℕ) (t : Tree) (face : face_of file ≡ taken t) where
  pub sizes_most : size_count t + 1 ≤ 449 + gauge_count t
  sizes_most =
      let few = (face_taken file t face).few in
      let most = (counted t (face_taken file t face).good).most in
      omega arith

module _ (file levels : List ℕ) (gauges : ℕ) (k : Levelled file levels gauges) where
  abbrev t : Tree
  t = k.tallied.tree

  pub writable : (arena output : List ℕ) → buffer_words ≤ length arena → 898 ≤ length output → Writable file levels 0 arena output
  writable arena output long room =
      record {
        ready =
            record {
              tree = t;
              face = k.tallied.face;
              as_many = k.tallied.sizes_is;
              low = λ i less. (k.in_range i less).0;
              high = λ i less. (k.in_range i less).1;
              narrow = omega arith;
              long = long;
            };
        room = let most = sizes_most file t k.tallied.face in omega arith;
      }

  pub placeable : (scratch output : List ℕ) → buffer_words ≤ length scratch → 320 ≤ length output → Placeable file 0 scratch output
  placeable scratch output long room =
      record {
        tree = t;
        face = k.tallied.face;
        narrow = omega arith;
        long = long;
        room = let few = (face_taken file t k.tallied.face).few in omega arith;
      }
