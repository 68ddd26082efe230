-- The loop of `merge_lists`, by the numbers i and j of items passed: what is written so far, followed by the merge of what is left of both lists, is the whole merge.
-- A turn writes the first item of that merge and passes what it takes, by `merge_turn`; where either list is at its end nothing is left.
use mathlib.Core.Path.{◌≡◌, refl, sym, ap, ◌∙◌}
use mathlib.Core.Bool.{Bool, true, false}
use mathlib.Core.List.{List, [], ◌∷◌, ◌++◌, append_assoc, append-nil, Memᴰ}
use Prim.Native.Nat.{ℕ, suc, ◌+◌, ◌*◌, ◌-◌, ◌/◌, ◌%◌, ◌^◌, ◌≤◌, ◌<◌, max}
use native.Mathlib.Omega.{arith}
use lib.Dec.{ltb}
use borrow.Author.Tests.{ltb-true, ltb-false}
use lib.ListN.{length, get_or, set, drop, length-set, length-append, drop_of_length-le}
use lib.Seq.{drop-cons, drop-drop, get_or-set_other}
use Rattle.slicing.specs.Item.{Item, size}
use Rattle.slicing.specs.Merge.{merge}
use Rattle.packed.specs.inside.Packed.{pack, HasList}
use Rattle.packed.specs.inside.Joining.{read_as, merge_of, Joinable, Joined}
use Rattle.packed.specs.declared.stretch.Stretch.{Stretch}
use Rattle.packed.proofs.Reading.{ItemWord}
use Rattle.packed.proofs.StoredLists.{Low, facing_length, facing_low, m_is, p_is, place_in, has_one, has_grown}
use Rattle.packed.proofs.MergeTurns.{merge_nil, merge_turn}

-- For a caller: the sums of the p and the gap fit where no item of either list has a larger p than a bound.
pub sums_low : (a b : Stretch) (l k : List Item) (gap m n : ℕ) → ((z : Item) → Memᴰ z (read_as a l) → z.p ≤ m) → ((z : Item) → Memᴰ z (read_as b k) → z.p ≤ n) → m + gap + n < 65_536
    → (i j : ℕ) → i < length l → j < length k → (get_or (read_as a l) i (size 0 0)).p + gap + (get_or (read_as b k) j (size 0 0)).p < 65_536
sums_low a b l k gap m n f g h i j hi hj =
    let x = f (get_or (read_as a l) i (size 0 0)) (place_in (read_as a l) i (omega (arith, facing_length a.across l))) in
    let y = g (get_or (read_as b k) j (size 0 0)) (place_in (read_as b k) j (omega (arith, facing_length b.across k))) in
    omega arith

pub record Merging (gap : ℕ) (s : List ℕ) (a b : Stretch) (to : ℕ) (z : List ℕ) (i j at : ℕ) : Type 0 where
  pub older : List Item
  pub newer : List Item
  pub done : List Item
  pub joinable : Joinable gap s a b to older newer
  pub length_kept : length z ≡ length s
  pub before_kept : (q : ℕ) → q < to → get_or z q 0 ≡ get_or s q 0
  pub written : HasList z to done
  pub at_is : to + length done ≡ at
  pub few : length done ≤ i + j
  pub older_left : i ≤ a.count
  pub newer_left : j ≤ b.count
  pub rest : done ++ merge gap (drop i (read_as a older)) (drop j (read_as b newer)) ≡ merge_of gap a b older newer

pub merging_start : (gap : ℕ) (s : List ℕ) (a b : Stretch) (to : ℕ) → ((l : List Item) × (k : List Item) × Joinable gap s a b to l k) → Merging gap s a b to s 0 0 to
merging_start gap s a b to pre =
    record {
      older = pre.0;
      newer = pre.1;
      done = [];
      joinable = pre.2;
      length_kept = refl;
      before_kept = λ q h. refl;
      written =
          record { inside = let room = pre.2.room in omega arith; at = λ i h. absurd (omega arith); low = λ i h. absurd (omega arith) };
      at_is = omega arith;
      few = omega arith;
      older_left = omega arith;
      newer_left = omega arith;
      rest = refl;
    }

-- The word of an item of either list, and that of an item of the newer one with the gap in its p.
abbrev pub Reads : List ℕ → Stretch → ℕ → ℕ → Type 0
Reads s a i x = ItemWord s a.from a.count a.across i x

abbrev pub Raised : ℕ → List ℕ → Stretch → ℕ → ℕ → Type 0
Raised gap s b j y = (k : List Item) → HasList s b.from k → b.count ≡ length k → y ≡ pack (get_or (read_as b k) j (size 0 0)) + gap

pub raised : (gap : ℕ) (s : List ℕ) (b : Stretch) (j y : ℕ) → Reads s b j y → Raised gap s b j (y + gap)
raised gap s b j y read k has same = ap (λ (n : ℕ). n + gap) (read k has same)

raised_halves : (gap : ℕ) (z : Item) (w : ℕ) → z.p + gap < 65_536 → w ≡ pack z + gap → (w / 65_536 ≡ z.m) × (w % 65_536 ≡ z.p + gap)
unfolding pack
raised_halves gap z w low e = (omega arith, omega arith)

-- It fits a word.
pub raised_fits : (gap : ℕ) (s : List ℕ) (a b : Stretch) (to : ℕ) (l k : List Item) → Joinable gap s a b to l k → (j y : ℕ) → j < b.count → Reads s b j y → y + gap < 2 ^ 32
raised_fits gap s a b to l k h j y j_left y_read =
    let l_count : a.count ≡ length l = h.older_count in
    let k_count : b.count ≡ length k = h.newer_count in
    let l_some = h.older_some in
    let sum = h.low 0 j (omega arith) (omega arith) in
    let low = facing_low b.across s b.from k h.newer j (omega arith) in
    let halves = raised_halves gap _ (y + gap) (omega arith) (raised gap s b j y y_read k h.newer k_count) in
    omega arith

module _ (gap : ℕ) (s : List ℕ) (a b : Stretch) (to : ℕ) (z : List ℕ) (i j at : ℕ) (h : Merging gap s a b to z i j at) where
  pub merging_room : i < a.count → j < b.count → at < length z
  merging_room i_left j_left =
      let room = h.joinable.room in
      let same = h.length_kept in
      let few = h.few in
      let at_is = h.at_is in omega arith

  pub merging_past : to ≤ at
  merging_past = let at_is = h.at_is in omega arith

  -- Both lists to the end: what is written is the merge.
  all_written : (l k : List Item) → h.older ≡ l → h.newer ≡ k → h.done ≡ merge_of gap a b h.older h.newer → Joined gap s a b to l k z (at - to)
  all_written l k e f g =
      rw (← e, ← f)
      (record {
        count_is = let at_is = h.at_is in omega (arith, ap length g);
        list = rw g at h.written;
        before_kept = h.before_kept;
        length_kept = h.length_kept;
      })

  whole : h.done ≡ merge_of gap a b h.older h.newer → (l k : List Item) → Joinable gap s a b to l k → Joined gap s a b to l k z (at - to)
  whole g l k other =
      let older_count = h.joinable.older_count in
      let newer_count = h.joinable.newer_count in
      let older_other = other.older_count in
      let newer_other = other.newer_count in
      all_written l k
      (has_one s a.from h.older l h.joinable.older other.older (omega arith))
      (has_one s b.from h.newer k h.joinable.newer other.newer (omega arith)) g

  pub merging_older_out : a.count ≤ i → (l k : List Item) → Joinable gap s a b to l k → Joined gap s a b to l k z (at - to)
  unfolding merge
  merging_older_out out =
      let count = h.joinable.older_count in
      let long : length (read_as a h.older) ≤ i = omega (arith, facing_length a.across h.older) in
      whole
      (sym (append-nil h.done)
      ∙ ap (λ (l : List Item). h.done ++ merge gap l (drop j (read_as b h.newer))) (sym (drop_of_length-le (read_as a h.older) long))
      ∙ h.rest)

  pub merging_newer_out : b.count ≤ j → (l k : List Item) → Joinable gap s a b to l k → Joined gap s a b to l k z (at - to)
  merging_newer_out out =
      let count = h.joinable.newer_count in
      let long : length (read_as b h.newer) ≤ j = omega (arith, facing_length b.across h.newer) in
      whole
      (sym (append-nil h.done)
      ∙ ap (λ (l : List Item). h.done ++ l) (sym (merge_nil gap (drop i (read_as a h.older))))
      ∙ ap (λ (l : List Item). h.done ++ merge gap (drop i (read_as a h.older)) l) (sym (drop_of_length-le (read_as b h.newer) long))
      ∙ h.rest)

-- The item that two items make.
abbrev pair_of : ℕ → Item → Item → Item
pair_of gap x y = size (max x.m y.m) (x.p + gap + y.p)

-- What a turn passes, and what it writes.
turn_rest : (gap : ℕ) (l k done : List Item) (i j m n : ℕ) (x y : Item) → i < length l → j < length k → x ≡ get_or l i (size 0 0) → y ≡ get_or k j (size 0 0)
    → (y.m ≤ x.m → m ≡ 1) → (x.m < y.m → m ≡ 0) → (x.m ≤ y.m → n ≡ 1) → (y.m < x.m → n ≡ 0)
    → (done ++ (pair_of gap x y ∷ [])) ++ merge gap (drop (i + m) l) (drop (j + n) k) ≡ done ++ merge gap (drop i l) (drop j k)
turn_rest gap l k done i j m n x y hi hj ex ey xg xs yg ys =
    let from_l : drop i l ≡ x ∷ drop (suc i) l = drop-cons l i (size 0 0) hi ∙ ap (λ (e : Item). e ∷ drop (suc i) l) (sym ex) in
    let from_k : drop j k ≡ y ∷ drop (suc j) k = drop-cons k j (size 0 0) hj ∙ ap (λ (e : Item). e ∷ drop (suc j) k) (sym ey) in
    append_assoc done (pair_of gap x y ∷ []) (merge gap (drop (i + m) l) (drop (j + n) k))
    ∙ ap (λ (r : List Item). done ++ (pair_of gap x y ∷ merge gap r (drop (j + n) k))) (sym (drop-drop m i l) ∙ ap (drop m) from_l)
    ∙ ap (λ (r : List Item). done ++ (pair_of gap x y ∷ merge gap (drop m (x ∷ drop (suc i) l)) r)) (sym (drop-drop n j k) ∙ ap (drop n) from_k)
    ∙ ap (λ (r : List Item). done ++ r) (sym (merge_turn gap x y (drop (suc i) l) (drop (suc j) k) m n xg xs yg ys))
    ∙ ap (λ (r : List Item). done ++ merge gap r (y ∷ drop (suc j) k)) (sym from_l)
    ∙ ap (λ (r : List Item). done ++ merge gap (drop i l) r) (sym from_k)

-- The words x and y of the two first items, y with the gap in its p, their halves, and the word of the item that they make.
pub record Firsts (gap : ℕ) (s : List ℕ) (a b : Stretch) (to : ℕ) (z : List ℕ) (i j at : ℕ) (h : Merging gap s a b to z i j at) (x y : ℕ) : Type 0 where
  first : Item
  second : Item
  first_is : first ≡ get_or (read_as a h.older) i (size 0 0)
  second_is : second ≡ get_or (read_as b h.newer) j (size 0 0)
  i_inside : i < length (read_as a h.older)
  j_inside : j < length (read_as b h.newer)
  x_m : x / 65_536 ≡ first.m
  x_p : x % 65_536 ≡ first.p
  y_m : y / 65_536 ≡ second.m
  y_p : y % 65_536 ≡ second.p + gap
  first_low : Low first
  second_low : Low second
  sum_low : first.p + gap + second.p < 65_536

firsts : (gap : ℕ) (s : List ℕ) (a b : Stretch) (to : ℕ) (z : List ℕ) (i j at : ℕ) (h : Merging gap s a b to z i j at) → i < a.count → j < b.count → (x y : ℕ) → Reads s a i x → Raised gap s b j y → Firsts gap s a b to z i j at h x y
firsts gap s a b to z i j at h i_left j_left x y x_read y_read =
    let l = h.older in
    let k = h.newer in
    let l_count : a.count ≡ length l = h.joinable.older_count in
    let k_count : b.count ≡ length k = h.joinable.newer_count in
    let l_low = facing_low a.across s a.from l h.joinable.older i (omega arith) in
    let k_low = facing_low b.across s b.from k h.joinable.newer j (omega arith) in
    let sum_low = h.joinable.low i j (omega arith) (omega arith) in
    let x_is = x_read l h.joinable.older l_count in
    let y_halves = raised_halves gap (get_or (read_as b k) j (size 0 0)) y (omega arith) (y_read k h.joinable.newer k_count) in
    record {
      first = get_or (read_as a l) i (size 0 0);
      second = get_or (read_as b k) j (size 0 0);
      first_is = refl;
      second_is = refl;
      i_inside = omega (arith, facing_length a.across l);
      j_inside = omega (arith, facing_length b.across k);
      x_m = m_is _ x _ l_low x_is refl;
      x_p = p_is _ x _ l_low x_is refl;
      y_m = y_halves.0;
      y_p = y_halves.1;
      first_low = l_low;
      second_low = k_low;
      sum_low = sum_low;
    }

-- The item that they make fits a word.
pub merging_fits : (gap : ℕ) (s : List ℕ) (a b : Stretch) (to : ℕ) (z : List ℕ) (i j at : ℕ) → Merging gap s a b to z i j at → i < a.count → j < b.count → (x y : ℕ) → Reads s a i x → Raised gap s b j y → (x + y % 65_536 < 2 ^ 32) × (y + x % 65_536 < 2 ^ 32)
merging_fits gap s a b to z i j at h i_left j_left x y x_read y_read =
    let f = firsts gap s a b to z i j at h i_left j_left x y x_read y_read in
    let sum = f.sum_low in
    let xm = f.x_m in
    let xp = f.x_p in
    let ym = f.y_m in
    let yp = f.y_p in
    let x_low = f.first_low in
    let y_low = f.second_low in
    (omega arith, omega arith)

-- How many of the items of one list go.
abbrev pub Goes : ℕ → ℕ → ℕ → Type 0
Goes x y n = (y / 65_536 ≤ x / 65_536 → n ≡ 1) × (x / 65_536 < y / 65_536 → n ≡ 0)

-- At most one of each, and one of either.
pub one_goes : (x y m n : ℕ) → Goes x y m → Goes y x n → (m ≤ 1) × (n ≤ 1) × (1 ≤ m + n)
one_goes x y m n f g = step (ltb (x / 65_536) (y / 65_536)) (ltb (y / 65_536) (x / 65_536)) refl refl
  where
    step : (s t : Bool) → ltb (x / 65_536) (y / 65_536) ≡ s → ltb (y / 65_536) (x / 65_536) ≡ t → (m ≤ 1) × (n ≤ 1) × (1 ≤ m + n)
    step true t e d =
        let less = ltb-true (x / 65_536) (y / 65_536) e in
        let stays = f.1 less in
        let goes = g.0 (omega arith) in omega arith
    step false true e d =
        let less = ltb-true (y / 65_536) (x / 65_536) d in
        let stays = g.1 less in
        let goes = f.0 (omega arith) in omega arith
    step false false e d =
        let le = ltb-false (x / 65_536) (y / 65_536) e in
        let ge = ltb-false (y / 65_536) (x / 65_536) d in
        let goes = f.0 le in
        let other = g.0 ge in omega arith

pack_pair : (gap : ℕ) (x y : Item) → 65_536 * max x.m y.m + (x.p + (y.p + gap)) ≡ pack (pair_of gap x y)
unfolding pack
pack_pair gap x y = omega arith

turned : (gap : ℕ) (s : List ℕ) (a b : Stretch) (to : ℕ) (z : List ℕ) (i j at : ℕ) (h : Merging gap s a b to z i j at) → i < a.count → j < b.count → (x y : ℕ) → Firsts gap s a b to z i j at h x y
    → (w m n : ℕ) → w ≡ 65_536 * max (x / 65_536) (y / 65_536) + (x % 65_536 + y % 65_536) → Goes x y m → Goes y x n → Merging gap s a b to (set z at w) (i + m) (j + n) (at + 1)
turned gap s a b to z i j at h i_left j_left x y f w m n w_is x_goes y_goes =
    let u = f.first in
    let v = f.second in
    let l = h.older in
    let k = h.newer in
    let room = merging_room gap s a b to z i j at h i_left j_left in
    let past = merging_past gap s a b to z i j at h in
    let xm : x / 65_536 ≡ u.m = f.x_m in
    let xp : x % 65_536 ≡ u.p = f.x_p in
    let ym : y / 65_536 ≡ v.m = f.y_m in
    let yp : y % 65_536 ≡ v.p + gap = f.y_p in
    let u_low = f.first_low in
    let v_low = f.second_low in
    let sum_low = f.sum_low in
    let at_is = h.at_is in
    let few = h.few in
    let moves = one_goes x y m n x_goes y_goes in
    let word : w ≡ pack (pair_of gap u v) = rw (xm, ym, xp, yp) at w_is ∙ pack_pair gap u v in
    record {
      older = l;
      newer = k;
      done = h.done ++ (pair_of gap u v ∷ []);
      joinable = h.joinable;
      length_kept = length-set z at w ∙ h.length_kept;
      before_kept = λ q less. get_or-set_other z at q w 0 (λ e. omega arith) ∙ h.before_kept q less;
      written = has_grown z to at h.done (pair_of gap u v) w h.written at_is room word (omega arith, sum_low);
      at_is = omega (arith, length-append h.done (pair_of gap u v ∷ []));
      few = omega (arith, length-append h.done (pair_of gap u v ∷ []));
      older_left = omega arith;
      newer_left = omega arith;
      rest =
          turn_rest gap (read_as a l) (read_as b k) h.done i j m n u v f.i_inside f.j_inside f.first_is f.second_is
          (λ e. x_goes.0 (omega arith)) (λ e. x_goes.1 (omega arith)) (λ e. y_goes.0 (omega arith)) (λ e. y_goes.1 (omega arith))
          ∙ h.rest;
    }

pub merging_turn : (gap : ℕ) (s : List ℕ) (a b : Stretch) (to : ℕ) (z : List ℕ) (i j at : ℕ) → Merging gap s a b to z i j at → i < a.count → j < b.count → (x y : ℕ) → Reads s a i x → Raised gap s b j y
    → (w m n : ℕ) → w ≡ 65_536 * max (x / 65_536) (y / 65_536) + (x % 65_536 + y % 65_536) → Goes x y m → Goes y x n → Merging gap s a b to (set z at w) (i + m) (j + n) (at + 1)
merging_turn gap s a b to z i j at h i_left j_left x y x_read y_read =
    turned gap s a b to z i j at h i_left j_left x y (firsts gap s a b to z i j at h i_left j_left x y x_read y_read)
