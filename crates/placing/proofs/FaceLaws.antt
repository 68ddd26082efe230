-- The part of the fit call after its checks: the root's list is picked from, and the picked item is laid out.
-- The stored root is the face, its list read by height is the shape list, and the laws of the pick and of the layout say the rest.
use mathlib.Core.Path.{◌≡◌, refl, sym, ap, ap₂, subst, ◌∙◌}
use mathlib.Core.Bool.{false}
use mathlib.Core.List.{List, ◌++◌}
use Prim.Native.Nat.{ℕ, ◌+◌, ◌*◌, ◌/◌, ◌%◌, ◌^◌, ◌<◌}
use native.Mathlib.Omega.{arith}
use lib.ListN.{length, drop}
use Rattle.std.specs.Prelude.{Option, Some, None, Ok, Err, ok_or}
use Rattle.checks.specs.declared.Check.{Check}
use Rattle.checks.specs.declared.Check.TheVariants.{Fits}
use Rattle.checks.specs.Answer.{taken}
use Rattle.checks.proofs.Answers.{same_taken}
use Rattle.slicing.specs.Item.{Item, height, width}
use Rattle.slicing.specs.Tree.{Tree}
use Rattle.slicing.specs.Shapes.{shapes}
use Rattle.slicing.specs.Fit.{Pick, nothing, picked, smallest, place, words}
use Rattle.slicing.specs.Layout.{Outline}
use Rattle.slicing.proofs.Placing.{words_length}
use Rattle.slicing.proofs.ShapeLaws.{shapes_short}
use Rattle.facefile.specs.Format.{face_of}
use Rattle.facefile.proofs.Taken.{face_taken}
use Rattle.lent.specs.Lent.{written_over}
use Rattle.packed.specs.inside.Packed.{facing, HasList}
use Rattle.packed.specs.declared.stretch.Stretch.{Stretch}
use Rattle.packed.proofs.StoredLists.{m_is, p_is}
use Rattle.stored.specs.inside.Store.{own_shapes, Stored}
use Rattle.stored.specs.inside.PartWords.{stretch_of}
use Rattle.stored.specs.inside.Filling.{Filled}
use Rattle.stored.proofs.PartLists.{own_length}
use Rattle.picking.specs.inside.Picking.{pick_at, Picks}
use Rattle.picking.proofs.Looking.{product_low}
use Rattle.laying.specs.inside.Laying.{shape_at, Layable, laid}
use Rattle.laying.proofs.StretchLaws.{table_inside, stretch_list, stretch_count, stretch_facing}
use Rattle.laying.proofs.ShapeReading.{Place, shape_low}
use Rattle.laying.proofs.GaugeLaws.{Word, Ready, Lays, root_layable}
use Rattle.placing.specs.Found.{no_face, face_found, face_words}
use Rattle.placing.specs.inside.Facing.{Placeable, PlacedIn}

pub area_fits : (h w : ℕ) → h < 65_536 → w < 65_536 → h * w < 2 ^ 32
area_fits h w low_h low_w = let area = product_low h w low_h low_w in omega arith

-- Where nothing is picked the check is 19's.
pub some_of : (found : Option ℕ) (k : ℕ) → ok_or found Fits ≡ Ok k → found ≡ Some k
some_of None k e = cc
some_of (Some j) k e = cc

pub none_of : (found : Option ℕ) (c : Check) → ok_or found Fits ≡ Err c → (found ≡ None) × (c ≡ Fits)
none_of None c e = (refl, cc)
none_of (Some j) c e = (cc, cc)

-- The root of a stored face can be read, and its list picked from.
module _ {gap : ℕ} {file s z : List ℕ} {root : ℕ} (filled : (t : Tree) → face_of file ≡ taken t → Filled gap s z root t) {old : List ℕ} (p : Placeable file gap s old) where
  root_stored : Stored gap z root p.tree
  root_stored = (filled p.tree p.face).stored

  pub root_ready : 4 * root + 3 < length z
  root_ready = table_inside gap z root p.tree root_stored

  pub root_list : {a : Stretch} → a ≡ stretch_of z root 0x02 → (l : List Item) × HasList z a.from l × (a.count ≡ length l)
  root_list {a} e =
      (own_shapes gap p.tree, stretch_list gap z root false a e p.tree root_stored, stretch_count gap z root false a e p.tree root_stored)

-- What is known where the pick was made: the face is stored, the stretch is its root's, and the pick is that of the root's list.
pub record Chosen (gap : ℕ) (file s z : List ℕ) (root : ℕ) (o : Outline) (a : Stretch) (found : Option ℕ) : Type 0 where
  pub filled : (t : Tree) → face_of file ≡ taken t → Filled gap s z root t
  pub root_is : a ≡ stretch_of z root 0x02
  pub picks : (l : List Item) → HasList z a.from l → a.count ≡ length l → Picks o (facing a.across l) found

pub is_chosen : {gap : ℕ} {file s z : List ℕ} {root : ℕ} {o : Outline} {a : Stretch} {found : Option ℕ}
    → ((t : Tree) → face_of file ≡ taken t → Filled gap s z root t)
    → a ≡ stretch_of z root 0x02
    → ((l : List Item) → HasList z a.from l → a.count ≡ length l → Picks o (facing a.across l) found)
    → Chosen gap file s z root o a found
is_chosen filled root_is picks = record { filled = filled; root_is = root_is; picks = picks }

module _ {gap : ℕ} {file s z : List ℕ} {root : ℕ} {o : Outline} {a : Stretch} {found : Option ℕ} (chosen : Chosen gap file s z root o a found) where
  face_picks : (t : Tree) → face_of file ≡ taken t → Picks o (shapes gap t) found
  face_picks t e =
      let h = (chosen.filled t e).stored in
      subst (λ (l : List Item). Picks o l found) (stretch_facing gap z root false a chosen.root_is t h)
      (chosen.picks (own_shapes gap t) (stretch_list gap z root false a chosen.root_is t h) (stretch_count gap z root false a chosen.root_is t h))

  count_is : (t : Tree) → face_of file ≡ taken t → a.count ≡ length (shapes gap t)
  count_is t e = stretch_count gap z root false a chosen.root_is t (chosen.filled t e).stored ∙ own_length gap t

  -- Nothing was picked.
  pub face_none : found ≡ None → (old : List ℕ) → PlacedIn file gap o (no_face 19) old old
  unfolding PlacedIn
  face_none none old t face =
      let pick : smallest o (shapes gap t) ≡ nothing = (face_picks t face).same ∙ ap (λ (b : Option ℕ). pick_at b (shapes gap t)) none in
      record { answer = ap (face_found gap t) (sym pick); written = ap (λ (x : Pick). face_words gap t x old) (sym pick) }

  -- An item was picked.
  module _ {at : ℕ} (some : found ≡ Some at) {old : List ℕ} (p : Placeable file gap s old) where
    in_list : (t : Tree) → face_of file ≡ taken t → at < length (shapes gap t)
    in_list t e = (face_picks t e).in_list at some

    pub face_place : Place z root at
    face_place = (gap, p.tree, (chosen.filled p.tree p.face).stored, in_list p.tree p.face)

    layable : (t : Tree) → face_of file ≡ taken t → Layable gap z root t at 0 0 old
    layable t e =
        subst (λ (x : Tree). Layable gap z root x at 0 0 old) (same_taken p.tree t (sym p.face ∙ e))
        (root_layable gap z root p.tree at old (chosen.filled p.tree p.face).stored (face_taken file p.tree p.face).good (in_list p.tree p.face) p.room)

    pub face_lays : Ready gap z root at 0 0 old
    face_lays = (p.tree, layable p.tree p.face)

    pub face_counts : a.count < 2 ^ 32
    face_counts =
        let n = count_is p.tree p.face in
        let face = face_taken file p.tree p.face in
        let short = shapes_short gap p.tree face.good in
        let most = face.most in
        omega arith

    pub face_done : {word m q : ℕ} {output : List ℕ}
        → Word z root at word → m ≡ word / 65_536 → q ≡ word % 65_536
        → Lays gap z root at 0 0 old output
        → PlacedIn file gap o (record { number = 0; height = m; width = q; area = m * q; count = a.count }) old output
    unfolding PlacedIn laid written_over
    face_done {word} {m} {q} read m_read q_read lay t e =
        let v = shape_at gap t at in
        let stored = (chosen.filled t e).stored in
        let pick : smallest o (shapes gap t) ≡ picked v = (face_picks t e).same ∙ ap (λ (b : Option ℕ). pick_at b (shapes gap t)) some in
        let word_is = read gap t stored (in_list t e) in
        let low = shape_low gap z root at t stored (in_list t e) in
        record {
          answer =
              ap₂ (λ (x y : ℕ). record { number = 0; height = x; width = y; area = x * y; count = a.count }) (m_is v word m low word_is m_read) (p_is v word q low word_is q_read)
              ∙ ap (λ (n : ℕ). record { number = 0; height = height v; width = width v; area = height v * width v; count = n }) (count_is t e)
              ∙ ap (face_found gap t) (sym pick);
          written =
              lay t (layable t e) ∙ ap (λ (n : ℕ). words t (place gap t v 0 0) ++ drop n old) (sym (words_length t (place gap t v 0 0)))
              ∙ ap (λ (x : Pick). face_words gap t x old) (sym pick);
        }
