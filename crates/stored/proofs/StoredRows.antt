-- The stored parts stand as long as the words of the table before a part, and the lists before a place, do; and how many words they take.
-- Each part's words are before the next part's, and each list ends before the next one starts.
use mathlib.Core.Path.{◌≡◌, sym, ap, subst, ◌∙◌}
use mathlib.Core.List.{List, [], ◌∷◌}
use Prim.Native.Nat.{ℕ, ◌+◌, ◌*◌, ◌-◌, ◌≤◌, ◌<◌}
use native.Mathlib.Nat.{mul-le-mul}
use native.Mathlib.Omega.{arith}
use lib.ListN.{length, get_or, length-append}
use Rattle.slicing.specs.Item.{Item}
use Rattle.slicing.specs.Tree.{Tree, gauge, beside, stacked, gauges_of, gauge_count, size_count}
use Rattle.slicing.proofs.Depths.{depth_few}
use Rattle.slicing.proofs.Counts.{counted}
use Rattle.slicing.proofs.Stored.{stored_items, stored_few}
use Rattle.entries.specs.inside.Tracking.{flat}
use Rattle.facefile.proofs.Taken.{GoodParts}
use Rattle.packed.specs.inside.Packed.{HasList}
use Rattle.stored.specs.inside.Store.{own_shapes, Entry, Named, Stored}
use Rattle.stored.specs.inside.Filling.{Between, Lies, Rows}

module _ (gap : ℕ) (s z : List ℕ) (e to up : ℕ) (long : length z ≡ length s) (table : (i : ℕ) → i < 4 * e → get_or z i 0 ≡ get_or s i 0) (lists : (i : ℕ) → 508 ≤ i → i < to → get_or z i 0 ≡ get_or s i 0) (after : to ≤ up) where
  between_frame : (x : ℕ) (t : Tree) → x < e → Between gap s to x t → Between gap z up x t
  between_frame x t less b =
      let same = table (4 * x) (omega arith) in
      let low = b.0 in
      let high = b.1 in
      (omega arith, omega arith)

  entry_frame : (x k n : ℕ) (l : List Item) → x < e → 508 ≤ get_or s (4 * x) 0 → get_or s (4 * x) 0 + length l ≤ to → Entry s x k n l → Entry z x k n l
  entry_frame x k n l less low high h =
      let from = table (4 * x) (omega arith) in
      record {
        inside = h.inside;
        list =
            subst (λ (f : ℕ). HasList z f l) (sym from)
            (record {
              inside = let w = h.list.inside in omega arith;
              at = λ i j. lists (get_or s (4 * x) 0 + i) (omega arith) (omega arith) ∙ h.list.at i j;
              low = h.list.low;
            });
        count_is = table (4 * x + 1) (omega arith) ∙ h.count_is;
        kind_is = table (4 * x + 2) (omega arith) ∙ h.kind_is;
        gauges_is = table (4 * x + 3) (omega arith) ∙ h.gauges_is;
      }

  named_frame : (v : List Item) (x : ℕ) → x < e → Named gap s x v → Lies gap s to x (gauge v) → Named gap z x v
  named_frame v x less h l =
      let low = l.0.0 in
      let high = l.1 in
      let place = get_or s (4 * x) 0 + length (own_shapes gap (gauge v)) in
      ap (λ (f : ℕ). get_or z (f + length (own_shapes gap (gauge v))) 0) (table (4 * x) (omega arith))
      ∙ lists place (omega arith) (omega arith)
      ∙ h

  pub stored_frame : (t : Tree) (x : ℕ) → x < e → Stored gap s x t → Lies gap s to x t → Stored gap z x t
  stored_frame (gauge v) x less h l =
      (entry_frame x 0x01 1 (own_shapes gap (gauge v)) less l.0.0 l.0.1 h.0, named_frame v x less h.1 l)
  stored_frame (beside a b) x less h l =
      (entry_frame x 0x02 (gauge_count (beside a b)) (own_shapes gap (beside a b)) less l.0.0 l.0.1 h.0, h.1, stored_frame b (x - 1) (omega arith) h.2 l.1, stored_frame a (x - 2 * gauge_count b) (omega arith) h.3 l.2)
  stored_frame (stacked a b) x less h l =
      (entry_frame x 0x03 (gauge_count (stacked a b)) (own_shapes gap (stacked a b)) less l.0.0 l.0.1 h.0, h.1, stored_frame b (x - 1) (omega arith) h.2 l.1, stored_frame a (x - 2 * gauge_count b) (omega arith) h.3 l.2)

  pub lies_frame : (t : Tree) (x : ℕ) → x < e → Lies gap s to x t → Lies gap z up x t
  lies_frame (gauge v) x less l =
      let same = table (4 * x) (omega arith) in
      let high = l.1 in
      (between_frame x (gauge v) less l.0, omega arith)
  lies_frame (beside a b) x less l =
      (between_frame x (beside a b) less l.0, lies_frame b (x - 1) (omega arith) l.1, lies_frame a (x - 2 * gauge_count b) (omega arith) l.2)
  lies_frame (stacked a b) x less l =
      (between_frame x (stacked a b) less l.0, lies_frame b (x - 1) (omega arith) l.1, lies_frame a (x - 2 * gauge_count b) (omega arith) l.2)

  pub rows_frame : (stack : List Tree) (x : ℕ) → x ≤ e → Rows gap s to stack x → Rows gap z up stack x
  rows_frame [] x less r = r
  rows_frame (t ∷ stack) x less r =
      let n = r.1 in
      let some = depth_few t in
      (r.0, n, stored_frame t (x - 1) (omega arith) r.2 r.3, lies_frame t (x - 1) (omega arith) r.3, rows_frame stack r.0 (omega arith) r.4)

-- The parts of the table are the entries of the parts on the stack.
pub rows_total : (gap : ℕ) (s : List ℕ) (to : ℕ) (stack : List Tree) (e : ℕ) → Rows gap s to stack e → e + length stack ≡ 2 * length (flat gauges_of stack)
rows_total gap s to [] e r = omega arith
rows_total gap s to (t ∷ stack) e r =
    let n = r.1 in
    let below = rows_total gap s to stack r.0 r.4 in
    let both = length-append (flat gauges_of stack) (gauges_of t) in
    omega arith

-- The words that the lists of a part and of all parts of it take: for a gauge as many as it has sizes and one behind them, for a join as many as its list has items.
abbrev pub part_words : ℕ → Tree → ℕ
part_words gap t = size_count t + gauge_count t + stored_items gap t

abbrev pub used : ℕ → List Tree → ℕ
used gap [] = 0
used gap (t ∷ stack) = used gap stack + part_words gap t

sum_of_squares : (x y u v w : ℕ) → 2 * u ≤ 7 * (x * x) + 27 * x → 2 * v + 16 ≤ 7 * (y * y) + 9 * y → w ≤ 8 * y → 2 * (u + (w + y + v)) ≤ 7 * ((x + y) * (x + y)) + 27 * (x + y)
sum_of_squares x y u v w p q r = omega arith

used_bound : (gap : ℕ) (stack : List Tree) → GoodParts stack → 2 * used gap stack ≤ 7 * (length (flat gauges_of stack) * length (flat gauges_of stack)) + 27 * length (flat gauges_of stack)
used_bound gap [] g = omega arith
used_bound gap (t ∷ stack) g =
    rw (length-append (flat gauges_of stack) (gauges_of t))
    (sum_of_squares (length (flat gauges_of stack)) (gauge_count t) (used gap stack) (stored_items gap t) (size_count t) (used_bound gap stack g.1) (stored_few gap t g.0) (counted t g.0).most)

pub used_few : (gap : ℕ) (stack : List Tree) → GoodParts stack → length (flat gauges_of stack) ≤ 64 → used gap stack ≤ 15_200
used_few gap stack g few =
    let square : length (flat gauges_of stack) * length (flat gauges_of stack) ≤ 64 * 64 = mul-le-mul few few in
    let b = used_bound gap stack g in
    omega arith
