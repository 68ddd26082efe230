-- The text that is rendered of the list that was written and of the face that was placed is the one of the face, and of a refused file the one of its check.
-- The words of the list and of the layout stand at the starts of the outputs, and the answer of the placing says which of the two texts is due.
use mathlib.Core.Path.{◌≡◌, refl, sym, ap, subst, ◌∙◌}
use mathlib.Core.List.{List}
use Prim.Native.Nat.{ℕ, ◌*◌, ◌≤◌}
use native.Mathlib.Omega.{arith}
use lib.ListN.{length, take, length-take}
use lib.Seq.{length-take-le}
use Rattle.std.specs.Prelude.{Err}
use Rattle.text.specs.Printing.{Printed}
use Rattle.checks.specs.Check.{number_of}
use Rattle.checks.specs.declared.Check.{Check}
use Rattle.checks.specs.Answer.{Answer, refused, taken}
use Rattle.checks.proofs.Answers.{number_positive}
use Rattle.slicing.specs.Item.{Item}
use Rattle.slicing.specs.Tree.{Tree, gauge_count}
use Rattle.slicing.specs.Shapes.{shapes}
use Rattle.slicing.specs.Fit.{Pick, nothing, picked, smallest, place, words}
use Rattle.slicing.proofs.Placing.{words_length}
use Rattle.slicing.proofs.ShapeLaws.{shapes_short}
use Rattle.facefile.specs.declared.Counts.{Counts as Counted}
use Rattle.facefile.specs.Format.{face_of}
use Rattle.facefile.specs.Summary.{counted}
use Rattle.facefile.proofs.Taken.{face_taken}
use Rattle.lent.proofs.Starts.{starts}
use Rattle.writing.specs.Words.{list_words}
use Rattle.shapes.specs.inside.Taken.{Wrote, WroteFace}
use Rattle.writing.proofs.WordLaws.{words_length as list_words_length}
use Rattle.placing.specs.declared.Fitted.{Fitted}
use Rattle.lent.proofs.Calling.{face_counted, face_refused}
use Rattle.placing.specs.Found.{fitted_as, face_found, face_words}
use Rattle.placing.specs.inside.Facing.{PlacedFace, PlacedIn}
use Rattle.rendering.specs.Text.{faces_text, refused_text}
use Rattle.rendering.specs.Room.{text_bytes}
use Rattle.report.specs.Faces.{widest, pick_printed, faces_printed}
use Rattle.report.specs.inside.Telling.{Tallied, Levelled, Worked, Told}
use Rattle.report.proofs.Levelling.{sizes_most}

other_text : (a b old new : List ℕ) (r : ℕ) → a ≡ b → Printed a old new r → Printed b old new r
other_text a b old new r e p = subst (λ (x : List ℕ). Printed x old new r) e p

-- A face that is not placed.
no_text : (t : Tree) (p : Pick) (face : Fitted) → face ≡ face_found 0 t p → (face.number ≡ 0 → ⊥) → refused_text face.number ≡ pick_printed t p
no_text t nothing face e other = ap (λ (f : Fitted). refused_text f.number) e
no_text t (picked z) face e other = absurd (other (ap (λ (f : Fitted). f.number) e))

-- What `render` promises of the words of items and of a layout.
abbrev pub Renders : Fitted → (items layout old new : List ℕ) (r : ℕ) → Type 0
Renders face items layout old new r =
    (l : List Item) (z : Item) → items ≡ list_words l → face.height ≡ z.m → face.width ≡ z.p → face.area ≡ z.m * z.p → Printed (faces_text l z layout) old new r

-- One that is, by that promise.
module _ (t : Tree) (face : Fitted) (items layout old new : List ℕ) (r : ℕ) where
  placed : (p : Pick) → face ≡ face_found 0 t p → face.number ≡ 0 → items ≡ list_words (shapes 0 t) → ((z : Item) → p ≡ picked z → layout ≡ words t (place 0 t z 0 0)) → Renders face items layout old new r → Printed (pick_printed t p) old new r
  placed nothing e zero i l render =
      let n = ap (λ (f : Fitted). f.number) e in absurd (omega arith)
  placed (picked z) e zero i l render =
      subst (λ (w : List ℕ). Printed (faces_text (shapes 0 t) z w) old new r) (l z refl)
      (render (shapes 0 t) z i (ap (λ (f : Fitted). f.height) e) (ap (λ (f : Fitted). f.width) e) (ap (λ (f : Fitted). f.area) e))

module _ (face : Fitted) (count : ℕ) (items : List ℕ) (gauges : ℕ) (layout old new : List ℕ) (r : ℕ) where
  pub told_yes : face.number ≡ 0 → Renders face (take (2 * count) items) (take (5 * gauges) layout) old new r → (t : Tree) → Worked t face count items gauges layout → Printed (pick_printed t (smallest widest (shapes 0 t))) old new r
  told_yes zero render t w =
      placed t face (take (2 * count) items) (take (5 * gauges) layout) old new r (smallest widest (shapes 0 t)) w.fitted_is zero w.listed w.laid render

laid_by : (t : Tree) (p : Pick) (gauges : ℕ) (old new : List ℕ) → gauges ≡ gauge_count t → new ≡ face_words 0 t p old → (z : Item) → p ≡ picked z → take (5 * gauges) new ≡ words t (place 0 t z 0 0)
laid_by t p gauges old new g e z is =
    let long = words_length t (place 0 t z 0 0) in
    starts (5 * gauges) (words t (place 0 t z 0 0)) old new (e ∙ ap (λ (x : Pick). face_words 0 t x old) is) (omega arith)

module _ (file levels : List ℕ) (gauges : ℕ) (arena items items' layout layout' : List ℕ) (count : ℕ) (face : Fitted) where
  -- The list of a levelled face was written, and the face was placed.
  pub record Ran : Type 0 where
    pub ready : Levelled file levels gauges
    pub wrote : Wrote file levels 0 items arena items' count
    pub placed_in : PlacedIn file 0 widest face layout layout'

  module _ (c : Ran) where
    abbrev t : Tree
    t = c.ready.tallied.tree

    list_written : WroteFace levels 0 items arena items' count t
    unfolding Wrote
    list_written = c.wrote t c.ready.tallied.face

    face_placed : PlacedFace 0 t widest face layout layout'
    unfolding PlacedIn
    face_placed = c.placed_in t c.ready.tallied.face

    -- What `render` asks.
    pub told_asked : (text : List ℕ) → 898 ≡ length items' → 320 ≡ length layout' → text_bytes ≤ length text → ((2 * count ≤ length items') × (length items' ≤ 2 * 449)) × ((5 * gauges ≤ length layout') × (length layout' ≤ 5 * 64) × (text_bytes ≤ length text))
    told_asked text items_same layout_same room =
        let most = sizes_most file t c.ready.tallied.face in
        let short = shapes_short 0 t (face_taken file t c.ready.tallied.face).good in
        let n = list_written.counted in
        let few = (face_taken file t c.ready.tallied.face).few in
        let g = c.ready.tallied.gauges_is in
        ((omega arith, omega arith), (omega arith, omega arith, room))

    pub worked : Worked t face count items' gauges layout'
    worked =
        record {
          fitted_is = face_placed.answer;
          listed =
              let long = list_words_length (shapes 0 t) in
              let n = list_written.counted in
              starts (2 * count) (list_words (shapes 0 t)) items items' list_written.output (omega arith);
          laid = laid_by t (smallest widest (shapes 0 t)) gauges layout layout' c.ready.tallied.gauges_is face_placed.written;
        }

    pub placed_text : (old new : List ℕ) (r : ℕ) → ((u : Tree) → Worked u face count items' gauges layout' → Printed (pick_printed u (smallest widest (shapes 0 u))) old new r) → Printed (faces_printed (face_of file)) old new r
    unfolding faces_printed
    placed_text old new r p =
        other_text (pick_printed t (smallest widest (shapes 0 t))) (faces_printed (face_of file)) old new r (sym (ap faces_printed c.ready.tallied.face)) (p t worked)

-- No face is inside the opening.
module _ (file levels : List ℕ) (gauges : ℕ) (k : Levelled file levels gauges) where
  pub placed_none : (c : Check) (layout layout' : List ℕ) → PlacedIn file 0 widest (fitted_as (Err c)) layout layout' → (most : ℕ) (text : List ℕ) → Told most (faces_printed (face_of file)) text (Err c) text
  unfolding faces_printed PlacedIn
  placed_none c layout layout' placed most text =
      let t = k.tallied.tree in
      let some = number_positive c in
      let other : number_of c ≡ 0 → ⊥ = λ e. omega arith in
      let answer = (placed t k.tallied.face).answer in
      (ap faces_printed k.tallied.face ∙ sym (no_text t (smallest widest (shapes 0 t)) (fitted_as (Err c)) answer other), refl)

-- The whole file.
module _ (file : List ℕ) where
  pub told_refused : (c : Check) → ◌≡◌ {A = Answer Counted} (refused c) (counted (face_of file)) → (most : ℕ) (text : List ℕ) → Told most (faces_printed (face_of file)) text (Err c) text
  unfolding faces_printed
  told_refused c e most text = (ap faces_printed (face_refused c (face_of file) e), refl)

  -- The levels buffer is lent as many bytes.
  pub tallied_part : (n : Counted) → taken n ≡ counted (face_of file) → (k : ℕ) → n.sizes ≡ k → Tallied file n.gauges k
  tallied_part n read k e =
      let face = face_counted n (face_of file) read in
      record {
        tree = face.tree;
        face = face.face;
        gauges_is = ap (λ (m : Counted). m.gauges) face.counts;
        sizes_is = sym e ∙ ap (λ (m : Counted). m.sizes) face.counts;
      }

-- The line of the check goes where there is no text.
pub line_told : (most : ℕ) (text old mid : List ℕ) (c : Check) → Told most text old (Err c) mid → (n : ℕ) → n ≡ number_of c → (new : List ℕ) (r : ℕ) → Printed (refused_text n) mid new r → Printed text old new r
line_told most text old mid c t n same new r p =
    subst (λ (b : List ℕ). Printed text b new r) t.1
    (subst (λ (b : List ℕ). Printed b mid new r) (ap refused_text same ∙ sym t.0) p)

-- As many words or bytes as a part is to have.
pub part_counted : (k : ℕ) (l : List ℕ) → k ≤ length l → k ≡ length (take k l)
part_counted k l h = sym (length-take-le k l h)

pub part_few : (k most : ℕ) (l : List ℕ) → length l ≤ most → length (take k l) ≤ most
part_few k most l h = omega (arith, length-take k l)
