-- Words hold one list of sizes only, and the words of a layout hold the sizes of its gauges, one a gauge, each within the limits.
-- The words say each size, and the words and the sizes of a join are those of its two parts one after the other.
use mathlib.Core.Path.{◌≡◌, refl, sym, ap, ap₂, ◌∙◌}
use mathlib.Core.List.Memᴰ
use mathlib.Core.List.{List, [], ◌∷◌, ◌++◌, Memᴰ}
use mathlib.Core.Logic.{⊎_elim}
use Prim.Native.Nat.{ℕ, suc, ◌+◌, ◌*◌, ◌-◌, ◌<◌}
use native.Mathlib.Omega.{arith}
use lib.ListN.{length, get_or, length-append, get_or-append}
use lib.Seq.{get_or-append-add, ext_get_or}
use lib.Dec.{ltb}
use borrow.Author.Tests.{ltb-true, ltb-false}
use Rattle.checks.proofs.Cases.{by_test}
use Rattle.slicing.specs.Item.{Item, size, height, width}
use Rattle.slicing.specs.Tree.{Tree, gauge, beside, stacked, gauge_count}
use Rattle.slicing.specs.Good.{Good, Limited}
use Rattle.slicing.specs.Layout.{Layout, size_in, Legal}
use Rattle.slicing.specs.Fit.{words}
use Rattle.slicing.proofs.ByPlace.{at_index}
use Rattle.slicing.proofs.Placing.{words_length}
use Rattle.covering.specs.Covered.{sizes_in}
use Rattle.materiallines.specs.inside.Listing.{size_at, Holds}

pub holds_same : (layout : List ℕ) (k l : List Item) → Holds layout k → Holds layout l → k ≡ l
holds_same layout k l first second =
    let long : length k ≡ length l = omega (arith, first.long, second.long) in
    ext_get_or (size 0 0) k l long
    (λ i less. ap₂ size (sym (first.high i less) ∙ second.high i (omega arith)) (sym (first.wide i less) ∙ second.wide i (omega arith)))

-- Five words and a rest hold a size, with their last two, and the sizes that the rest holds.
pub record First (words rest : List ℕ) (sizes : List Item) : Type 0 where
  pub size : Item
  pub more : List Item
  pub same : sizes ≡ size ∷ more
  pub wide : get_or words 3 0 ≡ width size
  pub high : get_or words 4 0 ≡ height size
  pub held : Holds rest more

pub first_held : (words rest : List ℕ) (sizes : List Item) → length words ≡ 5 → Holds (words ++ rest) sizes → First words rest sizes
first_held (a ∷ b ∷ c ∷ d ∷ e ∷ []) rest (z ∷ sizes) five h =
    record {
      size = z;
      more = sizes;
      same = refl;
      wide = h.wide 0 (omega arith);
      high = h.high 0 (omega arith);
      held =
          record {
            long = omega (arith, h.long);
            wide = λ i less. later 3 i ∙ h.wide (suc i) (omega arith);
            high = λ i less. later 4 i ∙ h.high (suc i) (omega arith);
          };
    }
  where
    later : (w i : ℕ) → get_or rest (5 * i + w) 0 ≡ get_or (a ∷ b ∷ c ∷ d ∷ e ∷ rest) (5 * suc i + w) 0
    later w i =
        let place : suc (suc (suc (suc (suc (5 * i + w))))) ≡ 5 * suc i + w = omega arith in
        ap (λ (n : ℕ). get_or (a ∷ b ∷ c ∷ d ∷ e ∷ rest) n 0) place
first_held (a ∷ b ∷ c ∷ d ∷ e ∷ []) rest [] five h = absurd (let long = h.long in omega arith)
first_held [] rest sizes five h = absurd (omega arith)
first_held (a ∷ []) rest sizes five h = absurd (omega arith)
first_held (a ∷ b ∷ []) rest sizes five h = absurd (omega arith)
first_held (a ∷ b ∷ c ∷ []) rest sizes five h = absurd (omega arith)
first_held (a ∷ b ∷ c ∷ d ∷ []) rest sizes five h = absurd (omega arith)
first_held (a ∷ b ∷ c ∷ d ∷ e ∷ f ∷ words) rest sizes five h = absurd (omega arith)

-- Fewer words hold no size.
pub none_held : (words : List ℕ) (sizes : List Item) → length words < 5 → Holds words sizes → sizes ≡ []
none_held words [] few h = refl
none_held words (z ∷ sizes) few h = absurd (let long = h.long in omega arith)

-- One word of each five is a length of the size.
abbrev Says : ℕ → (Item → ℕ) → List ℕ → List Item → Type 0
Says w f layout sizes = (i : ℕ) → i < length sizes → get_or layout (5 * i + w) 0 ≡ f (size_at sizes i)

module _ (w : ℕ) (f : Item → ℕ) (a b : List ℕ) (k l : List Item) (fifth : w < 5) (long : length a ≡ 5 * length k) where
  says_joined : Says w f a k → Says w f b l → Says w f (a ++ b) (k ++ l)
  says_joined first second i less =
      by_test (ltb i (length k))
      (λ e.
      let here = ltb-true i (length k) e in
      get_or-append a b 0 (5 * i + w) (omega arith) ∙ first i here ∙ ap f (sym (get_or-append k l (size 0 0) i here)))
      (λ e.
      let past = ltb-false i (length k) e in
      let both = length-append k l in
      let j = i - length k in
      let place : 5 * i + w ≡ length a + (5 * j + w) = omega arith in
      let index : length k + j ≡ i = omega arith in
      ap (λ (n : ℕ). get_or (a ++ b) n 0) place ∙ get_or-append-add a b (5 * j + w) 0 ∙ second j (omega arith)
      ∙ ap f (sym (get_or-append-add k l j (size 0 0)) ∙ ap (size_at (k ++ l)) index))

holds_joined : (a b : List ℕ) (k l : List Item) → Holds a k → Holds b l → Holds (a ++ b) (k ++ l)
holds_joined a b k l first second =
    record {
      long = omega (arith, first.long, second.long, length-append a b, length-append k l);
      wide = says_joined 3 width a b k l (omega arith) first.long first.wide second.wide;
      high = says_joined 4 height a b k l (omega arith) first.long first.high second.high;
    }

only_first : (i : ℕ) → i < 1 → i ≡ 0
only_first i h = omega arith

pub holds_words : (t : Tree) (l : Layout t) → Holds (words t l) (sizes_in t l)
holds_words (gauge s) l =
    record {
      long = refl;
      wide = λ i h. rw (only_first i h) refl;
      high = λ i h. rw (only_first i h) refl;
    }
holds_words (beside a b) l =
    holds_joined (words a l.0) (words b l.1) (sizes_in a l.0) (sizes_in b l.1) (holds_words a l.0) (holds_words b l.1)
holds_words (stacked a b) l =
    holds_joined (words a l.0) (words b l.1) (sizes_in a l.0) (sizes_in b l.1) (holds_words a l.0) (holds_words b l.1)

pub sizes_count : (t : Tree) (l : Layout t) → length (sizes_in t l) ≡ gauge_count t
sizes_count t l = omega (arith, (holds_words t l).long, words_length t l)

-- Each size of a list is within the limits.
abbrev EachLimited : List Item → Type 0
EachLimited sizes = (z : Item) → Memᴰ z sizes → Limited z

limited_joined : (k l : List Item) → EachLimited k → EachLimited l → EachLimited (k ++ l)
limited_joined k l first second z i =
    ⊎_elim (λ (j : Memᴰ z k). first z j) (λ (j : Memᴰ z l). second z j) (Memᴰ.append_cases k i)

each_limited : (gap : ℕ) (t : Tree) (l : Layout t) → Good t → Legal gap t l → EachLimited (sizes_in t l)
each_limited gap (gauge s) l good legal =
    λ z i. rw (Memᴰ.eq_of_singleton i) (good.limited (size_in s l) (at_index s l.index (size 0 0) legal))
each_limited gap (beside a b) l good legal =
    limited_joined (sizes_in a l.0) (sizes_in b l.1) (each_limited gap a l.0 good.0 legal.0) (each_limited gap b l.1 good.1 legal.1)
each_limited gap (stacked a b) l good legal =
    limited_joined (sizes_in a l.0) (sizes_in b l.1) (each_limited gap a l.0 good.0 legal.0) (each_limited gap b l.1 good.1 legal.1)

pub sizes_limited : (gap : ℕ) (t : Tree) (l : Layout t) → Good t → Legal gap t l → (i : ℕ) → i < length (sizes_in t l) → Limited (size_at (sizes_in t l) i)
sizes_limited gap t l good legal i less =
    each_limited gap t l good legal (size_at (sizes_in t l) i) (at_index (sizes_in t l) i (size 0 0) less)
