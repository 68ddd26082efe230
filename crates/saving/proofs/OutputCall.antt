-- The law of a call that asks of a face only whether what it writes fits the output: it is refused where the output is short, and a taken one has the room.
-- How much is written hangs on the face's gauges and sizes alone, which the reader counts.
use mathlib.Core.Path.{◌≡◌, sym, ap, ◌∙◌}
use Prim.Native.Nat.{ℕ, ◌*◌, ◌-◌, ◌≤◌}
use native.Mathlib.Omega.{arith}
use Rattle.checks.specs.declared.Check.{Check}
use Rattle.checks.specs.Limits.{most_gauges, most_sizes}
use Rattle.checks.specs.Answer.{Answer, refused, taken, Asked}
use Rattle.slicing.specs.Tree.{Tree, gauge_count, size_count}
use Rattle.facefile.specs.declared.Counts.{Counts}
use Rattle.facefile.specs.Summary.{counted}
use Rattle.lent.specs.Questions.{output_lent}
use Rattle.lent.specs.Call.{call_on}
use Rattle.lent.proofs.Asking.{output_taken}
use Rattle.lent.proofs.Calling.{CountedFace, face_counted, refused_by_asked, taken_by_all}
use Rattle.written.specs.EntriesOf.{entry_count}
use Rattle.written.proofs.FileOf.{entry_total}

-- A face has few gauges and sizes.
abbrev pub Few : Tree → Type 0
Few t = (gauge_count t ≤ most_gauges) × (size_count t ≤ most_sizes)

-- A call that was taken: n is what the face has, of which so much is written as the output has room for.
pub record Passing (face : Answer Tree) (n : Counts) (long : Tree → ℕ) (output : ℕ) : Type 0 where
  pub tree : Tree
  pub face_is : face ≡ taken tree
  pub call : call_on face (λ t. output_lent (long t) output) ≡ taken tree
  pub room : long tree ≤ output
  pub gauges : n.gauges ≡ gauge_count tree
  pub few : Few tree
  pub some : 1 ≤ n.gauges
  pub entries : 2 * n.gauges - 1 ≡ entry_count tree

module _ (face : Answer Tree) (few : (t : Tree) → face ≡ taken t → Few t) (n : Counts) (read : taken n ≡ counted face) where
  known : CountedFace n face
  known = face_counted n face read

  gauges_are : n.gauges ≡ gauge_count known.tree
  gauges_are = ap (λ (m : Counts). m.gauges) known.counts

  sizes_are : n.sizes ≡ size_count known.tree
  sizes_are = ap (λ (m : Counts). m.sizes) known.counts

  pub few_counts : (n.gauges ≤ most_gauges) × (n.sizes ≤ most_sizes)
  few_counts =
      let g = gauges_are in
      let s = sizes_are in
      let most = few known.tree known.face in
      (omega arith, omega arith)

  -- With how much is written, and what the question of the output answers.
  module _ (long : Tree → ℕ) (output count : ℕ) (lasts : (t : Tree) → n.gauges ≡ gauge_count t → n.sizes ≡ size_count t → count ≡ long t) where
    abbrev asks : Tree → Asked
    asks t = output_lent (long t) output

    here : output_lent count output ≡ asks known.tree
    here = ap (λ (k : ℕ). output_lent k output) (lasts known.tree gauges_are sizes_are)

    pub call_no_room : (c : Check) → refused c ≡ output_lent count output → call_on face (λ t. output_lent (long t) output) ≡ refused c
    call_no_room c is = refused_by_asked face asks known.tree known.face c (is ∙ here)

    pub call_passes : taken tt ≡ output_lent count output → Passing face n long output
    call_passes fits =
        let t = known.tree in
        let g = gauges_are in
        let total = entry_total t in
        record {
          tree = t;
          face_is = known.face;
          call = taken_by_all face asks t known.face (fits ∙ here);
          room = output_taken (long t) output (sym (fits ∙ here));
          gauges = g;
          few = few t known.face;
          some = omega arith;
          entries = omega arith;
        }
