-- What a taken catalogue call leaves, in the paper's own words: at each height's place the width of the narrowest layout no taller, or 0 where there is none; and few looks.
-- The call's promise equates the output and the looks with the definitions, and the laws of widths and of the walk say the rest.
use mathlib.Core.Path.{◌≡◌, refl, sym, ap, subst, ◌∙◌}
use mathlib.Core.List.{List, [], ◌∷◌}
use Prim.Native.Nat.{ℕ, zero, suc, ◌<◌}
use native.Mathlib.Omega.{arith}
use lib.ListN.{length, get_or, drop, length-map, get_or-append}
use lib.Seq.{drop_at}
use Rattle.checks.specs.Answer.{Answer, taken, Asked}
use Rattle.checks.proofs.Answers.{number_taken}
use Rattle.slicing.specs.Item.{Item}
use Rattle.slicing.specs.Tree.{Tree, size_count}
use Rattle.slicing.specs.Good.{Good}
use Rattle.slicing.specs.Shapes.{shapes}
use Rattle.facefile.specs.Format.{face_of}
use Rattle.facefile.proofs.Taken.{face_taken}
use Rattle.lent.specs.Lent.{Lent, written_over}
use Rattle.lent.proofs.Calling.{call_taken}
use Rattle.walking.specs.Widths.{width_for, widths_for}
use Rattle.walking.specs.WidthMeans.{WidthMeans}
use Rattle.walking.proofs.WalkLaws.{looks_few}
use Rattle.walking.proofs.WidthLayouts.{width_means}
use Rattle.catalogue.specs.declared.Catalogued.{Catalogued}
use Rattle.catalogue.specs.Catalogue.{width_asks, width_call, WidthLeaves, WidthPromise}
use Rattle.catalogue.specs.CatalogueMeans.{CatalogueMeans}

-- The width at a place is that of the height there.
width_at : (l : List Item) (heights : List ℕ) (i : ℕ) → i < length heights → get_or (widths_for l heights) i 0 ≡ width_for (get_or heights i 0) l
width_at l [] i less = absurd (omega arith)
width_at l (h ∷ heights) zero less = refl
width_at l (h ∷ heights) (suc i) less = width_at l heights i (omega arith)

module _ (l : List Item) (heights old : List ℕ) where
  as_many : length (widths_for l heights) ≡ length heights
  as_many = length-map heights (λ (h : ℕ). width_for h l)

  written_at : (i : ℕ) → i < length heights → get_or (written_over (widths_for l heights) old) i 0 ≡ width_for (get_or heights i 0) l
  unfolding written_over
  written_at i less =
      let many = as_many in
      get_or-append (widths_for l heights) (drop (length (widths_for l heights)) old) 0 i (omega arith) ∙ width_at l heights i less

  written_later : drop (length heights) (written_over (widths_for l heights) old) ≡ drop (length heights) old
  unfolding written_over
  written_later =
      drop_at (widths_for l heights) (drop (length (widths_for l heights)) old) (length heights) as_many
      ∙ ap (λ (n : ℕ). drop n old) as_many

-- What is left of a face that is taken.
taken_means : (levels : List ℕ) (rib : ℕ) (heights : List ℕ) (old : Lent) (r : Catalogued) (new : Lent) (t : Tree) → Good t → WidthLeaves (taken t) levels rib heights old r new → CatalogueMeans levels rib heights old r new t
taken_means levels rib heights old r new t good leaves =
    let list = shapes rib t in
    let looks = ap (λ (x : Catalogued). x.looks) leaves.answered in
    let few = looks_few list heights in
    record {
      width_is = λ i less.
          subst (λ (w : ℕ). WidthMeans rib (get_or heights i 0) t w)
          (sym (ap (λ (words : List ℕ). get_or words i 0) leaves.output ∙ written_at list heights old.output i less))
          (width_means rib (get_or heights i 0) t good);
      later = ap (drop (length heights)) leaves.output ∙ written_later list heights old.output;
      own_looks = looks;
      few_looks = omega arith;
      root = leaves.arena;
    }

-- A call that answers 0 is taken of the face that its file means.
pub catalogue_means : (file levels : List ℕ) (rib : ℕ) (heights : List ℕ) (old : Lent) (r : Catalogued) (new : Lent) → WidthPromise (face_of file) levels rib heights old r new → r.number ≡ 0 → (t : Tree) × (face_of file ≡ taken t) × CatalogueMeans levels rib heights old r new t
unfolding width_call
catalogue_means file levels rib heights old r new p none =
    let is = number_taken (width_call (face_of file) levels rib heights old) (sym (ap (λ (x : Catalogued). x.number) p.answered) ∙ none) in
    let t = is.0 in
    let asks : Tree → Asked = λ u. width_asks (size_count u) levels rib heights (length old.arena) (length old.scratch) (length old.output) in
    let face = (call_taken (face_of file) asks t is.1).0 in
    let leaves = subst (λ (a : Answer Tree). WidthLeaves a levels rib heights old r new) is.1 p in
    (t, face, taken_means levels rib heights old r new t (face_taken file t face).good leaves)
