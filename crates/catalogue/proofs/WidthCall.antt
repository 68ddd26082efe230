-- The catalogue call's ways out: a refusal answers its number and leaves the buffers, and a taken call has walked the face's own list.
-- Which way it goes is the law of any call on a face; the list's words in the scratch are its items, which are ordered, and the heights that were taken fall.
use mathlib.Core.Path.{◌≡◌, refl, sym, ap, ap₂, subst, ◌∙◌}
use mathlib.Core.List.{List}
use Prim.Native.Nat.{ℕ, ◌≤◌}
use native.Mathlib.Omega.{arith}
use lib.ListN.{length, drop, length-append, length-drop}
use Rattle.checks.specs.declared.Check.{Check}
use Rattle.checks.specs.Limits.{most_sizes, most_rib, most_heights, buffer_words}
use Rattle.checks.specs.Answer.{Answer, refused, taken, Asked, also}
use Rattle.checks.proofs.Answers.{also_taken}
use Rattle.slicing.specs.Item.{Item}
use Rattle.slicing.specs.Tree.{Tree, size_count}
use Rattle.slicing.specs.Shapes.{shapes}
use Rattle.slicing.proofs.ShapeLaws.{shapes_ordered, shapes_short}
use Rattle.facefile.specs.declared.Counts.{Counts}
use Rattle.facefile.specs.Format.{face_of}
use Rattle.facefile.specs.Summary.{counted}
use Rattle.facefile.proofs.Taken.{face_taken}
use Rattle.lent.specs.Lent.{Lent, lent, written_over}
use Rattle.lent.specs.Questions.{levels_lent, rib_given, buffers_lent, output_lent}
use Rattle.lent.proofs.Asking.{Levelled, levels_taken, rib_taken, buffers_taken, output_taken}
use Rattle.lent.proofs.Calling.{CountedFace, call_no_file, called, call_no_asked, call_goes}
use Rattle.writing.specs.Words.{list_words}
use Rattle.writing.proofs.WordLaws.{words_length}
use Rattle.shapes.specs.inside.Taken.{Writable, WroteFace, Wrote}
use Rattle.walking.specs.Widths.{widths_for}
use Rattle.walking.specs.Walk.{Falls, walked}
use Rattle.walking.specs.inside.Walking.{items_left, most_looks, Walkable, WalkedOver}
use Rattle.walking.proofs.WalkLaws.{walked_widths, looks_few}
use Rattle.walking.proofs.ListItems.{left_written}
use Rattle.catalogue.specs.Heights.{heights_given}
use Rattle.catalogue.specs.inside.Taken.{catalogued_as}
use Rattle.catalogue.specs.Catalogue.{width_asks, width_call, WidthLeaves}
use Rattle.catalogue.proofs.HeightLaws.{heights_taken}

-- What was asked of a face of n sizes, where all was answered "yes".
module _ (n : ℕ) (levels : List ℕ) (rib : ℕ) (heights : List ℕ) (arena scratch output : ℕ) where
  pub record Lended : Type 0 where
    pub levelled : Levelled n levels
    pub narrow : rib ≤ most_rib
    pub arena_long : buffer_words ≤ arena
    pub scratch_long : buffer_words ≤ scratch
    pub short : length heights ≤ most_heights
    pub falls : Falls heights
    pub room : length heights ≤ output

  asks_taken : width_asks n levels rib heights arena scratch output ≡ taken tt → Lended
  unfolding width_asks
  asks_taken e =
      let given = also (heights_given heights) (output_lent (length heights) output) in
      let words = also (buffers_lent buffer_words arena scratch) given in
      let first = also_taken (levels_lent n levels) (also (rib_given rib) words) tt e in
      let second = also_taken (rib_given rib) words tt first.1 in
      let third = also_taken (buffers_lent buffer_words arena scratch) given tt second.1 in
      let last = also_taken (heights_given heights) (output_lent (length heights) output) tt third.1 in
      let long = buffers_taken buffer_words arena scratch third.0 in
      let falling = heights_taken heights last.0 in
      record {
        levelled = levels_taken n levels first.0;
        narrow = rib_taken rib second.0;
        arena_long = long.0;
        scratch_long = long.1;
        short = falling.0;
        falls = falling.1;
        room = output_taken (length heights) output last.1;
      }

module _ (file levels : List ℕ) (rib : ℕ) (heights arena scratch output : List ℕ) where
  abbrev old : Lent
  old = lent arena scratch output

  abbrev answer : Answer Tree
  answer = width_call (face_of file) levels rib heights old

  abbrev asks : Counts → Asked
  asks n = width_asks n.sizes levels rib heights (length arena) (length scratch) (length output)

  refused_so : (c : Check) → answer ≡ refused c → WidthLeaves answer levels rib heights old (catalogued_as (refused c)) old
  refused_so c bad =
      subst (λ (a : Answer Tree). WidthLeaves a levels rib heights old (catalogued_as (refused c)) old) (sym bad)
      (record { answered = refl; output = refl; arena = refl; scratch = refl })

  -- Checks 1 to 13.
  pub width_no_file : (c : Check) → refused c ≡ counted (face_of file) → WidthLeaves answer levels rib heights old (catalogued_as (refused c)) old
  unfolding width_call
  width_no_file c is = refused_so c (call_no_file (face_of file) asks c is)

  module _ (n : Counts) (read : taken n ≡ counted (face_of file)) where
    -- The checks after 13.
    pub width_no_asked : (c : Check) → refused c ≡ asks n → WidthLeaves answer levels rib heights old (catalogued_as (refused c)) old
    unfolding width_call
    width_no_asked c is = refused_so c (call_no_asked (face_of file) asks n read c is)

    module _ (yes : taken tt ≡ asks n) where
      abbrev face : CountedFace n (face_of file)
      face = called (face_of file) asks n read

      abbrev t : Tree
      t = face.tree

      all : Lended (size_count t) levels rib heights (length arena) (length scratch) (length output)
      all =
          asks_taken (size_count t) levels rib heights (length arena) (length scratch) (length output)
          (ap asks (sym face.counts) ∙ sym yes)

      -- The scratch has room for the list's words.
      pub width_writable : Writable file levels rib arena scratch
      width_writable =
          let most = (face_taken file t face.face).most in
          let long = all.scratch_long in
          record {
            ready =
                record {
                  tree = t;
                  face = face.face;
                  as_many = all.levelled.as_many;
                  low = all.levelled.low;
                  high = all.levelled.high;
                  narrow = all.narrow;
                  long = all.arena_long;
                };
            room = omega arith;
          }

      -- With the list written into the scratch.
      module _ (arena' scratch' : List ℕ) (items : ℕ) (wrote : Wrote file levels rib scratch arena' scratch' items) where
        abbrev list : List Item
        list = shapes rib t

        written : WroteFace levels rib scratch arena' scratch' items t
        unfolding Wrote
        written = wrote t face.face

        own_list : items_left scratch' items 0 ≡ list
        own_list =
            ap₂ (λ (words : List ℕ) (k : ℕ). items_left words k 0) written.output written.counted ∙ left_written list scratch

        few_items : length list ≤ most_sizes
        few_items =
            let known = face_taken file t face.face in
            let short = shapes_short rib t known.good in
            let some = known.some in
            let most = known.most in
            omega arith

        pub width_walkable : Walkable scratch' items heights output
        unfolding written_over
        width_walkable =
            let counted = written.counted in
            let few = few_items in
            let words = words_length list in
            let kept = length-drop (length (list_words list)) scratch in
            let long = ap length written.output ∙ length-append (list_words list) (drop (length (list_words list)) scratch) in
            let room = all.scratch_long in
            record { has = omega arith; few = omega arith; short = all.short; room = all.room }

        -- The walk over the scratch is that over the list.
        module _ (output' : List ℕ) (looks : ℕ) (walk : WalkedOver scratch' items heights output output' looks) where
          own_looks : looks ≡ (walked list heights).looks
          own_looks = walk.looks_are ∙ ap (λ (l : List Item). (walked l heights).looks) own_list

          pub width_looks_fit : looks ≤ most_looks
          width_looks_fit =
              let own = own_looks in
              let most = looks_few list heights in
              let few = few_items in
              let short = all.short in
              omega arith

          own_widths : output' ≡ written_over (widths_for list heights) output
          own_widths =
              let order = shapes_ordered rib t (face_taken file t face.face).good in
              walk.widths_are ∙ ap (λ (l : List Item). written_over (walked l heights).widths output) own_list
              ∙ ap (λ (widths : List ℕ). written_over widths output) (walked_widths list heights order all.falls)

          pub width_done : (free : List ℕ) → WidthLeaves answer levels rib heights old (catalogued_as (taken looks)) (lent arena' free output')
          unfolding width_call
          width_done free =
              subst (λ (a : Answer Tree). WidthLeaves a levels rib heights old (catalogued_as (taken looks)) (lent arena' free output'))
              (sym (call_goes (face_of file) asks n read yes))
              (record {
                answered = ap (λ (m : ℕ). catalogued_as (taken m)) own_looks;
                output = own_widths;
                arena = written.root;
                scratch = tt;
              })
