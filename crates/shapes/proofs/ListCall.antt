-- The list call's ways out: a refusal answers its number and leaves the buffers, and a taken face has the list that was written.
-- Which way it goes is the law of any call on a face; what was asked and taken gives what the list needs.
use mathlib.Core.Path.{◌≡◌, refl, sym, ap, subst, ◌∙◌}
use mathlib.Core.List.{List}
use Prim.Native.Nat.{ℕ, ◌+◌, ◌*◌, ◌-◌, ◌≤◌}
use lib.ListN.{length}
use Rattle.checks.specs.declared.Check.{Check}
use Rattle.checks.specs.Limits.{most_rib, buffer_words}
use Rattle.checks.specs.Answer.{Answer, refused, taken, Asked, also}
use Rattle.checks.proofs.Answers.{also_taken}
use Rattle.slicing.specs.Tree.{Tree, gauge_count, size_count}
use Rattle.facefile.specs.declared.Counts.{Counts}
use Rattle.facefile.specs.Format.{face_of}
use Rattle.facefile.specs.Summary.{counted}
use Rattle.lent.specs.Lent.{Lent, lent}
use Rattle.lent.specs.Questions.{levels_lent, rib_given, buffers_lent, output_lent}
use Rattle.lent.proofs.Asking.{Levelled, levels_taken, rib_taken, buffers_taken, output_taken}
use Rattle.lent.proofs.Calling.{CountedFace, call_no_file, called, call_no_asked, call_goes}
use Rattle.shapes.specs.Listing.{list_asks, list_call, ListLeaves}
use Rattle.shapes.specs.inside.Taken.{Writable, Wrote, listed_as}

-- What was asked of a face of n sizes and g gauges, where all was answered "yes".
module _ (n g : ℕ) (levels : List ℕ) (rib arena scratch output : ℕ) where
  pub record Lended : Type 0 where
    pub levelled : Levelled n levels
    pub narrow : rib ≤ most_rib
    pub arena_long : buffer_words ≤ arena
    pub room : 2 * (n - g + 1) ≤ output

  asks_taken : list_asks n g levels rib arena scratch output ≡ taken tt → Lended
  unfolding list_asks
  asks_taken e =
      let words = also (buffers_lent buffer_words arena scratch) (output_lent (2 * (n - g + 1)) output) in
      let first = also_taken (levels_lent n levels) (also (rib_given rib) words) tt e in
      let second = also_taken (rib_given rib) words tt first.1 in
      let rest = also_taken (buffers_lent buffer_words arena scratch) (output_lent (2 * (n - g + 1)) output) tt second.1 in
      record {
        levelled = levels_taken n levels first.0;
        narrow = rib_taken rib second.0;
        arena_long = (buffers_taken buffer_words arena scratch rest.0).0;
        room = output_taken (2 * (n - g + 1)) output rest.1;
      }

module _ (file levels : List ℕ) (rib : ℕ) (arena scratch output : List ℕ) where
  abbrev old : Lent
  old = lent arena scratch output

  abbrev answer : Answer Tree
  answer = list_call (face_of file) levels rib old

  abbrev asks : Counts → Asked
  asks n = list_asks n.sizes n.gauges levels rib (length arena) (length scratch) (length output)

  refused_so : (c : Check) → answer ≡ refused c → ListLeaves answer levels rib old (listed_as (refused c)) old
  refused_so c bad =
      subst (λ (a : Answer Tree). ListLeaves a levels rib old (listed_as (refused c)) old) (sym bad)
      (record { answered = refl; output = refl; arena = refl; scratch = refl })

  -- Checks 1 to 13.
  pub list_no_file : (c : Check) → refused c ≡ counted (face_of file) → ListLeaves answer levels rib old (listed_as (refused c)) old
  unfolding list_call
  list_no_file c is = refused_so c (call_no_file (face_of file) asks c is)

  module _ (n : Counts) (read : taken n ≡ counted (face_of file)) where
    -- The checks after 13.
    pub list_no_asked : (c : Check) → refused c ≡ asks n → ListLeaves answer levels rib old (listed_as (refused c)) old
    unfolding list_call
    list_no_asked c is = refused_so c (call_no_asked (face_of file) asks n read c is)

    module _ (yes : taken tt ≡ asks n) where
      abbrev face : CountedFace n (face_of file)
      face = called (face_of file) asks n read

      pub list_writable : Writable file levels rib arena output
      list_writable =
          let t = face.tree in
          let all = asks_taken (size_count t) (gauge_count t) levels rib (length arena) (length scratch) (length output) (ap asks (sym face.counts) ∙ sym yes) in
          record {
            ready =
                record {
                  tree = t;
                  face = face.face;
                  as_many = all.levelled.as_many;
                  low = all.levelled.low;
                  high = all.levelled.high;
                  narrow = all.narrow;
                  long = all.arena_long;
                };
            room = all.room;
          }

      pub list_done : (arena' scratch' output' : List ℕ) (count : ℕ) → Wrote file levels rib output arena' output' count → ListLeaves answer levels rib old (listed_as (taken count)) (lent arena' scratch' output')
      unfolding list_call Wrote
      list_done arena' scratch' output' count wrote =
          let t = face.tree in
          let w = wrote t face.face in
          subst (λ (a : Answer Tree). ListLeaves a levels rib old (listed_as (taken count)) (lent arena' scratch' output'))
          (sym (call_goes (face_of file) asks n read yes))
          (record {
            answered = ap (λ (m : ℕ). listed_as (taken m)) w.counted;
            output = w.output;
            arena = w.root;
            scratch = tt;
          })
