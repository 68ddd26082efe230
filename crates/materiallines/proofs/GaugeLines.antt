-- What the loop that writes a line for each gauge keeps: the lines of the gauges left complete the lines of all.
-- A turn writes the line of the first gauge left, and at the end no gauge is left.
use mathlib.Core.Path.{◌≡◌, sym, ap, ap₂, subst, ◌∙◌}
use mathlib.Core.Logic.{◌⊎◌, inl, inr}
use mathlib.Core.List.{List, ◌∷◌, ◌++◌}
use Prim.Native.Nat.{ℕ, ◌+◌, ◌-◌, ◌^◌, ◌≤◌, ◌<◌}
use native.Mathlib.Omega.{arith}
use lib.ListN.{length, get_or}
use Rattle.std.specs.declared.slice.ChunksExact.{ChunksExact}
use Rattle.std.specs.Prelude.{None}
use Rattle.std.specs.declared.ops.RangeFrom.{RangeFrom}
use Rattle.std.specs.Slice.Iter.{chunks_exact_rest, chunks_exact_size, chunks_exact_steps}
use Rattle.text.specs.declared.page.Page.{Page}
use Rattle.text.specs.inside.Writing.{Fits, Wrote}
use Rattle.text.proofs.Dues.{Due, due_start, due_fits, due_more, due_done}
use Rattle.slicing.specs.Item.{Item, height, width}
use Rattle.slicing.specs.Fit.{area}
use Rattle.materiallines.specs.Lines.{gauge_line, gauge_lines}
use Rattle.materiallines.specs.inside.Listing.{Holds, Sized, Listable}
use Rattle.materiallines.proofs.SheetFits.{AllLimited, limited_later, area_most}
use Rattle.materiallines.proofs.HeldWords.{holds_same, none_held, First, first_held}
use Rattle.materiallines.proofs.AreaSums.{area_of}

-- The words left hold sizes, of gauges from a number on, whose lines complete those of all.
pub record GaugesDue (old : Page ℕ) (layout : List ℕ) (left : ChunksExact ℕ) (number : ℕ) (now : Page ℕ) : Type 0 where
  pub five : chunks_exact_size left ≡ 5
  pub sized : Sized layout
  pub sizes : List Item
  pub held : Holds (chunks_exact_rest left) sizes
  pub limited : AllLimited sizes
  pub counted : number + length sizes ≤ 65
  pub due : Due old (gauge_lines 1 sized.sizes) (gauge_lines number sizes) now

pub gauges_start : (old : Page ℕ) (layout : List ℕ) (left : ChunksExact ℕ) → chunks_exact_size left ≡ 5 → chunks_exact_rest left ≡ layout → Listable old layout → GaugesDue old layout left 1 old
gauges_start old layout left five all h =
    record {
      five = five;
      sized = h.sized;
      sizes = h.sized.sizes;
      held = subst (λ (l : List ℕ). Holds l h.sized.sizes) (sym all) h.sized.held;
      limited = h.sized.limited;
      counted = omega (arith, h.sized.few);
      due = due_start old (gauge_lines 1 h.sized.sizes) h.room;
    }

-- The line of a gauge of five words.
abbrev pub line_of : ℕ → List ℕ → List ℕ
line_of number words = gauge_line number (get_or words 3 0) (get_or words 4 0) (area_of words)

module _ (old : Page ℕ) (layout : List ℕ) (left : ChunksExact ℕ) (numbers : RangeFrom ℕ) (now : Page ℕ) (s : GaugesDue old layout left numbers.start now) where
  module _ (number : ℕ) (begin : number ≡ numbers.start) (words : List ℕ) (then : ChunksExact ℕ) (size : chunks_exact_size then ≡ chunks_exact_size left) (next : chunks_exact_rest left ≡ words ++ chunks_exact_rest then) (long : length words ≡ chunks_exact_size left) where
    first : First words (chunks_exact_rest then) s.sizes
    first =
        first_held words (chunks_exact_rest then) s.sizes (long ∙ s.five) (subst (λ (l : List ℕ). Holds l s.sizes) next s.held)

    all_limited : AllLimited (first.size ∷ first.more)
    all_limited = subst AllLimited first.same s.limited

    line_same : gauge_line number (width first.size) (height first.size) (area first.size) ≡ line_of number words
    line_same = cc (first.wide, first.high)

    next_due : Due old (gauge_lines 1 s.sized.sizes) (line_of number words ++ gauge_lines (number + 1) first.more) now
    unfolding gauge_lines
    next_due =
        subst (λ (l : List ℕ). Due old (gauge_lines 1 s.sized.sizes) l now)
        (ap₂ gauge_lines (sym begin) first.same ∙ ap (λ (l : List ℕ). l ++ gauge_lines (number + 1) first.more) line_same) s.due

    pub gauges_area : area_of words < 2 ^ 32
    gauges_area =
        let same : area_of words ≡ area first.size = cc (first.wide, first.high) in
        omega (arith, area_most first.size (all_limited 0 (omega arith)))

    pub gauges_fit : Fits now (line_of number words)
    gauges_fit =
        due_fits old (gauge_lines 1 s.sized.sizes) (line_of number words) (gauge_lines (number + 1) first.more) now next_due

    pub gauges_more : (after : ℕ) → after ≡ number + 1 → (new : Page ℕ) → Wrote now (line_of number words) new → GaugesDue old layout then after new
    gauges_more after one new t =
        record {
          five = size ∙ s.five;
          sized = s.sized;
          sizes = first.more;
          held = first.held;
          limited = limited_later first.size first.more all_limited;
          counted = let few = s.counted in let some = ap length first.same in omega arith;
          due = rw one (due_more old (gauge_lines 1 s.sized.sizes) (line_of number words) (gauge_lines (number + 1) first.more) now next_due new t);
        }

  -- The numbers do not end, so it is the words that do.
  pub gauges_done : ((n : RangeFrom ℕ) × ((4_294_967_295 - numbers.start ≡ 0) × (n ≡ numbers))) ⊎ ((t : ChunksExact ℕ) × chunks_exact_steps left None t) → (l : List Item) → Holds layout l → Wrote old (gauge_lines 1 l) now
  unfolding gauge_lines
  gauges_done (inl none) l held = absurd (let few = s.counted in let last = none.1.0 in omega arith)
  gauges_done (inr end) l held =
      let five = s.five in
      let few = end.1.1.0 in
      let none = none_held (chunks_exact_rest left) s.sizes (omega arith) s.held in
      let due = subst (λ (rest : List Item). Due old (gauge_lines 1 s.sized.sizes) (gauge_lines numbers.start rest) now) none s.due in
      subst (λ (all : List Item). Wrote old (gauge_lines 1 all) now) (holds_same layout s.sized.sizes l s.sized.held held)
      (due_done old (gauge_lines 1 s.sized.sizes) now due)
