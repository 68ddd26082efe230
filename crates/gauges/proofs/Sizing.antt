-- What the loop that writes the words of a gauge's sizes keeps: the words of the sizes left complete those of all.
-- A turn writes the two words of the first size left, and at the end none is left.
use mathlib.Core.Path.{◌≡◌, sym, ap, subst, ◌∙◌}
use mathlib.Core.List.{List, [], ◌∷◌}
use Prim.Native.Nat.{ℕ, suc, ◌+◌, ◌≤◌, ◌<◌}
use native.Mathlib.Numerals.{add-one}
use native.Mathlib.Omega.{arith}
use lib.ListN.{drop, drop_of_length-le}
use lib.Seq.{drop-cons}
use Rattle.slicing.specs.Item.{Item, size}
use Rattle.slicing.specs.Tree.{gauge}
use Rattle.sizes.specs.declared.Size.{Size}
use Rattle.sizes.specs.inside.Sizes.{sizes_in, SizeIn}
use Rattle.sizes.proofs.SizesIn.{in_length}
use Rattle.writing.specs.Words.{list_words}
use Rattle.written.specs.EntriesOf.{entries_of}
use Rattle.text.specs.declared.page.Page.{Page}
use Rattle.text.specs.inside.Writing.{Fits, Wrote}
use Rattle.text.proofs.Dues.{Due, due_start, due_fits, due_more, due_done}

-- k sizes are written.
abbrev pub Sizing : Page ℕ → List ℕ → ℕ → ℕ → Page ℕ → Type 0
Sizing old bytes count k now = Due old (list_words (sizes_in count bytes)) (list_words (drop k (sizes_in count bytes))) now

module _ (old : Page ℕ) (bytes : List ℕ) (count : ℕ) where
  pub sizing_start : Fits old (list_words (sizes_in count bytes)) → Sizing old bytes count 0 old
  sizing_start fits = due_start old (list_words (sizes_in count bytes)) fits

  module _ (k : ℕ) (now : Page ℕ) (s : Sizing old bytes count k now) where
    module _ (more : k < count) (z : Size) (here : SizeIn bytes k z) where
      abbrev later : List ℕ
      later = list_words (drop (k + 1) (sizes_in count bytes))

      first_left : list_words (drop k (sizes_in count bytes)) ≡ z.height ∷ z.width ∷ later
      unfolding list_words
      first_left =
          ap list_words (drop-cons (sizes_in count bytes) k (size 0 0) (omega (arith, in_length count bytes)))
          ∙ ap (λ (y : Item). list_words (y ∷ drop (suc k) (sizes_in count bytes))) (sym (here.same count more))
          ∙ ap (λ (n : ℕ). z.height ∷ z.width ∷ list_words (drop n (sizes_in count bytes))) (sym (add-one k))

      next_due : Due old (list_words (sizes_in count bytes)) (z.height ∷ z.width ∷ later) now
      next_due = subst (λ (l : List ℕ). Due old (list_words (sizes_in count bytes)) l now) first_left s

      pub height_room : Fits now (z.height ∷ [])
      height_room = due_fits old (list_words (sizes_in count bytes)) (z.height ∷ []) (z.width ∷ later) now next_due

      module _ (mid : Page ℕ) (t : Wrote now (z.height ∷ []) mid) where
        width_due : Due old (list_words (sizes_in count bytes)) (z.width ∷ later) mid
        width_due = due_more old (list_words (sizes_in count bytes)) (z.height ∷ []) (z.width ∷ later) now next_due mid t

        pub width_room : Fits mid (z.width ∷ [])
        width_room = due_fits old (list_words (sizes_in count bytes)) (z.width ∷ []) later mid width_due

        pub sizing_more : (new : Page ℕ) → Wrote mid (z.width ∷ []) new → Sizing old bytes count (k + 1) new
        sizing_more new u = due_more old (list_words (sizes_in count bytes)) (z.width ∷ []) later mid width_due new u

    pub sizing_done : count ≤ k → Wrote old (list_words (sizes_in count bytes)) now
    unfolding list_words
    sizing_done end =
        let many = in_length count bytes in
        let none = drop_of_length-le (sizes_in count bytes) (omega arith) in
        due_done old (list_words (sizes_in count bytes)) now
        (subst (λ (l : List Item). Due old (list_words (sizes_in count bytes)) (list_words l) now) none s)

-- There are as many sizes as the count.
pub gauge_same : (count : ℕ) (bytes : List ℕ) → entries_of list_words (gauge (sizes_in count bytes)) ≡ 0x01 ∷ count ∷ list_words (sizes_in count bytes)
gauge_same count bytes = ap (λ (n : ℕ). 0x01 ∷ n ∷ list_words (sizes_in count bytes)) (in_length count bytes)
