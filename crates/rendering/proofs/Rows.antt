-- What the loops that write a line for each group of words keep: the lines of the groups left complete the lines of all.
-- A turn writes the line of the first group left, and at the end fewer words are left than make a group.
use mathlib.Core.Path.{◌≡◌, refl, sym, ap, ap₂, subst, ◌∙◌}
use mathlib.Core.Logic.{◌⊎◌, inl, inr}
use mathlib.Core.List.{List, [], ◌∷◌, ◌++◌}
use Prim.Native.Nat.{ℕ, ◌+◌, ◌-◌, ◌/◌, ◌≤◌, ◌<◌}
use native.Mathlib.Omega.{arith}
use lib.ListN.{length, get_or, length-append}
use Rattle.std.specs.declared.slice.ChunksExact.{ChunksExact}
use Rattle.std.specs.Prelude.{None}
use Rattle.std.specs.declared.ops.RangeFrom.{RangeFrom}
use Rattle.std.specs.Slice.Iter.{chunks_exact_rest, chunks_exact_size, chunks_exact_steps}
use Rattle.text.specs.declared.page.Page.{Page}
use Rattle.text.specs.inside.Writing.{Fits, Wrote}
use Rattle.text.proofs.Dues.{Due, due_start, due_fits, due_more, due_done}
use Rattle.rendering.specs.Text.{item_line, gauge_line, gauge_lines}
use Rattle.rendering.specs.inside.WordLines.{word_lines}

-- The items.
pub record ItemsDue (old : Page ℕ) (items : List ℕ) (left : ChunksExact ℕ) (now : Page ℕ) : Type 0 where
  pub two : chunks_exact_size left ≡ 2
  pub due : Due old (word_lines items) (word_lines (chunks_exact_rest left)) now

pub items_start : (old : Page ℕ) (items : List ℕ) (left : ChunksExact ℕ) → chunks_exact_size left ≡ 2 → chunks_exact_rest left ≡ items → Fits old (word_lines items) → ItemsDue old items left old
items_start old items left two all fits =
    record {
      two = two;
      due = subst (λ (l : List ℕ). Due old (word_lines items) (word_lines l) old) (sym all) (due_start old (word_lines items) fits);
    }

few_words : (l : List ℕ) → length l < 2 → word_lines l ≡ []
unfolding word_lines
few_words [] h = refl
few_words (a ∷ []) h = refl
few_words (a ∷ b ∷ l) h = absurd (omega arith)

-- The line of an item of two words.
abbrev pub item_of : List ℕ → List ℕ
item_of item = item_line (get_or item 0 0) (get_or item 1 0)

first_item : (item l : List ℕ) → length item ≡ 2 → word_lines (item ++ l) ≡ item_of item ++ word_lines l
unfolding word_lines
first_item (h ∷ w ∷ []) l two = refl
first_item [] l two = absurd (omega arith)
first_item (h ∷ []) l two = absurd (omega arith)
first_item (h ∷ w ∷ x ∷ item) l two = absurd (omega arith)

module _ (old : Page ℕ) (items : List ℕ) (left : ChunksExact ℕ) (now : Page ℕ) (s : ItemsDue old items left now) where
  module _ (item : List ℕ) (then : ChunksExact ℕ) (size : chunks_exact_size then ≡ chunks_exact_size left) (next : chunks_exact_rest left ≡ item ++ chunks_exact_rest then) (long : length item ≡ chunks_exact_size left) where
    next_item : Due old (word_lines items) (item_of item ++ word_lines (chunks_exact_rest then)) now
    next_item =
        subst (λ (l : List ℕ). Due old (word_lines items) l now)
        (ap word_lines next ∙ first_item item (chunks_exact_rest then) (long ∙ s.two)) s.due

    pub item_fits : Fits now (item_of item)
    item_fits = due_fits old (word_lines items) (item_of item) (word_lines (chunks_exact_rest then)) now next_item

    pub items_more : (new : Page ℕ) → Wrote now (item_of item) new → ItemsDue old items then new
    items_more new t =
        record {
          two = size ∙ s.two;
          due = due_more old (word_lines items) (item_of item) (word_lines (chunks_exact_rest then)) now next_item new t;
        }

  pub items_done : length (chunks_exact_rest left) < chunks_exact_size left → Wrote old (word_lines items) now
  items_done end =
      let two = s.two in
      due_done old (word_lines items) now
      (subst (λ (l : List ℕ). Due old (word_lines items) l now) (few_words (chunks_exact_rest left) (omega arith)) s.due)

-- The gauges, from a number on.
pub record GaugesDue (old : Page ℕ) (layout : List ℕ) (left : ChunksExact ℕ) (number : ℕ) (now : Page ℕ) : Type 0 where
  pub five : chunks_exact_size left ≡ 5
  pub counted : number + length (chunks_exact_rest left) / 5 ≤ 65
  pub due : Due old (gauge_lines 1 layout) (gauge_lines number (chunks_exact_rest left)) now

pub gauges_start : (old : Page ℕ) (layout : List ℕ) (left : ChunksExact ℕ) → chunks_exact_size left ≡ 5 → chunks_exact_rest left ≡ layout → (length layout ≤ 320) × Fits old (gauge_lines 1 layout) → GaugesDue old layout left 1 old
gauges_start old layout left five all asked =
    let few = asked.0 in
    let same = ap length all in
    record {
      five = five;
      counted = omega arith;
      due = subst (λ (l : List ℕ). Due old (gauge_lines 1 layout) (gauge_lines 1 l) old) (sym all) (due_start old (gauge_lines 1 layout) asked.1);
    }

few_lines : (n : ℕ) (l : List ℕ) → length l < 5 → gauge_lines n l ≡ []
unfolding gauge_lines
few_lines n [] h = refl
few_lines n (a ∷ []) h = refl
few_lines n (a ∷ b ∷ []) h = refl
few_lines n (a ∷ b ∷ c ∷ []) h = refl
few_lines n (a ∷ b ∷ c ∷ d ∷ []) h = refl
few_lines n (a ∷ b ∷ c ∷ d ∷ e ∷ l) h = absurd (omega arith)

-- The line of a gauge of five words.
abbrev pub gauge_of : ℕ → List ℕ → List ℕ
gauge_of number words = gauge_line number (get_or words 0 0) (get_or words 1 0) (get_or words 2 0)

first_gauge : (number : ℕ) (words l : List ℕ) → length words ≡ 5 → gauge_lines number (words ++ l) ≡ gauge_of number words ++ gauge_lines (number + 1) l
unfolding gauge_lines
first_gauge number (a ∷ b ∷ c ∷ d ∷ e ∷ []) l five = refl
first_gauge number [] l five = absurd (omega arith)
first_gauge number (a ∷ []) l five = absurd (omega arith)
first_gauge number (a ∷ b ∷ []) l five = absurd (omega arith)
first_gauge number (a ∷ b ∷ c ∷ []) l five = absurd (omega arith)
first_gauge number (a ∷ b ∷ c ∷ d ∷ []) l five = absurd (omega arith)
first_gauge number (a ∷ b ∷ c ∷ d ∷ e ∷ f ∷ words) l five = absurd (omega arith)

module _ (old : Page ℕ) (layout : List ℕ) (left : ChunksExact ℕ) (numbers : RangeFrom ℕ) (now : Page ℕ) (s : GaugesDue old layout left numbers.start now) where
  module _ (number : ℕ) (first : number ≡ numbers.start) (words : List ℕ) (then : ChunksExact ℕ) (size : chunks_exact_size then ≡ chunks_exact_size left) (next : chunks_exact_rest left ≡ words ++ chunks_exact_rest then) (long : length words ≡ chunks_exact_size left) where
    next_gauge : Due old (gauge_lines 1 layout) (gauge_of number words ++ gauge_lines (number + 1) (chunks_exact_rest then)) now
    next_gauge =
        subst (λ (l : List ℕ). Due old (gauge_lines 1 layout) l now)
        (ap₂ gauge_lines (sym first) next ∙ first_gauge number words (chunks_exact_rest then) (long ∙ s.five)) s.due

    pub gauge_fits : Fits now (gauge_of number words)
    gauge_fits = due_fits old (gauge_lines 1 layout) (gauge_of number words) (gauge_lines (number + 1) (chunks_exact_rest then)) now next_gauge

    pub gauges_more : (after : ℕ) → after ≡ number + 1 → (new : Page ℕ) → Wrote now (gauge_of number words) new → GaugesDue old layout then after new
    gauges_more after one new t =
        let five = s.five in
        let counted = s.counted in
        record {
          five = size ∙ s.five;
          counted = omega (arith, ap length next ∙ length-append words (chunks_exact_rest then));
          due = rw one (due_more old (gauge_lines 1 layout) (gauge_of number words) (gauge_lines (number + 1) (chunks_exact_rest then)) now next_gauge new t);
        }

  -- The numbers do not end, so it is the words that do.
  pub gauges_done : ((n : RangeFrom ℕ) × ((4_294_967_295 - numbers.start ≡ 0) × (n ≡ numbers))) ⊎ ((t : ChunksExact ℕ) × chunks_exact_steps left None t) → Wrote old (gauge_lines 1 layout) now
  gauges_done (inl none) = absurd (let counted = s.counted in let last = none.1.0 in omega arith)
  gauges_done (inr end) =
      let five = s.five in
      let few = end.1.1.0 in
      due_done old (gauge_lines 1 layout) now
      (subst (λ (l : List ℕ). Due old (gauge_lines 1 layout) l now) (few_lines numbers.start (chunks_exact_rest left) (omega arith)) s.due)
