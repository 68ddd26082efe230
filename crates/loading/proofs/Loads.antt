-- What the loop that loads a gauge's list keeps: the sizes at the places from i on are the list of the head, and the word that is left is that of the places before.
-- One record goes before the others at a turn, with the number, the level and the size of the place whose digit is the last.
use mathlib.Core.Path.{◌≡◌, refl, sym, ap, ap₂, subst, ◌∙◌}
use mathlib.Core.List.{List, [], ◌∷◌, map}
use Prim.Native.Nat.{ℕ, suc, ◌+◌, ◌-◌, ◌/◌, ◌%◌, ◌≤◌, ◌<◌}
use native.Mathlib.Omega.{arith}
use lib.ListN.{length, get_or, drop, drop_of_length-le, length-drop}
use lib.Seq.{drop-length, get_or-drop}
use Rattle.slicing.specs.Item.{Item, size}
use Rattle.slicing.specs.Useful.{gauge_shapes}
use Rattle.arena.specs.Arena.{level, m_word, level_at, m_at, forward_at, back_at}
use Rattle.arena.specs.inside.Chain.{Has, put, All, Away, trues, Same}
use Rattle.arena.specs.inside.Built.{Built}
use Rattle.arena.specs.inside.Backs.{Backed}
use Rattle.building.specs.inside.Building.{Cleared}
use Rattle.sizes.specs.declared.Size.{Size}
use Rattle.sizes.specs.inside.Sizes.{sizes_in, SizeIn}
use Rattle.sizes.proofs.SizesIn.{in_length}
use Rattle.useful.specs.inside.Order.{list_places, first_digits, order_word}
use Rattle.useful.proofs.Digits.{digits_all}
use Rattle.useful.proofs.Places.{places_length, places_apart}
use Rattle.useful.proofs.LastDigit.{Digit, digit, none_left, rest_step, size_read}
use Rattle.loading.specs.inside.Loading.{records_of, Placed, Loadable, Loaded}
use Rattle.arena.proofs.PutLaws.{length_put, same_put, same_refl, same_trans}
use Rattle.arena.proofs.Frames.{all_map, all_refl, all_both, map_same}
use Rattle.arena.proofs.BackStores.{word_stays, built_stays, trues_stay, stored_beside}
use Rattle.building.proofs.ClearLaws.{cleared_first}
use Rattle.loading.proofs.Written.{Loaded1, loaded_beside}
use Rattle.loading.proofs.LoadedBacks.{Waiting, backed_none, waiting_has, waiting_other, waiting_kept, waiting_stored}

abbrev ms : List Item → List ℕ
ms zs = map (λ (z : Item). z.m) zs

abbrev ps : List Item → List ℕ
ps zs = map (λ (z : Item). z.p) zs

-- The records of the places from i on, and their levels.
abbrev pub records_from : ℕ → List Item → ℕ → List ℕ
records_from first s i = map (λ (k : ℕ). first + k) (drop i (list_places s))

abbrev pub levels_from : List ℕ → List Item → ℕ → List ℕ
levels_from levels s i = map (λ (k : ℕ). get_or levels k 0) (drop i (list_places s))

-- A place that is none of some places has a record that is none of theirs.
places_away : (first k : ℕ) (l : List ℕ) → ((i : ℕ) → i < length l → get_or l i 0 ≡ k → ⊥) → Away (first + k) (map (λ (x : ℕ). first + x) l)
places_away first k [] other = tt
places_away first k (x ∷ l) other =
    ((λ (e : first + x ≡ first + k). other 0 (omega arith) (omega arith)), places_away first k l (λ i less. other (suc i) (omega arith)))

-- The arena a is that with the head cleared; the records of the places from i on are filled and are its list. The arena d is that with the head's first forward stored.
pub record Filled (a : List ℕ) (head first : ℕ) (s : List Item) (levels d : List ℕ) (i : ℕ) : Type 0 where
  pub outside : (x : ℕ) → (x ≡ head → ⊥) → Away x (records_from first s i) → Same a d x
  pub built : Built d head (records_from first s i)
  pub level_is : map (level d) (records_from first s i) ≡ levels_from levels s i
  pub m_is : map (m_word d) (records_from first s i) ≡ ms (drop i (gauge_shapes s))
  pub true_ps : trues d (λ k. 0) (records_from first s i) ≡ ps (drop i (gauge_shapes s))

-- The same with that forward beside the arena b, as `last`, and the word that is left. The back word of `after` waits.
pub record Loading (a : List ℕ) (head first : ℕ) (sizes levels : List ℕ) (order : ℕ) (b : List ℕ) (last after left : ℕ) : Type 0 where
  pub i : ℕ
  pub inside : i ≤ length (list_places (sizes_in (length levels) sizes))
  pub left_is : left ≡ first_digits (list_places (sizes_in (length levels) sizes)) i
  pub can : Loadable b head first sizes levels order
  pub long : length b ≡ length a
  pub filled : Filled a head first (sizes_in (length levels) sizes) levels (put b head forward_at last) i
  pub waiting : Waiting (put b head forward_at last) head after (records_from first (sizes_in (length levels) sizes) i)

-- A back word stored, of the head or of a record of the list.
module _ (a : List ℕ) (head first : ℕ) (s : List Item) (levels d : List ℕ) (i r v : ℕ) where
  filled_stays : ((x : ℕ) → (x ≡ head → ⊥) → Away x (records_from first s i) → x ≡ r → ⊥) → Filled a head first s levels d i → Filled a head first s levels (put d r back_at v) i
  filled_stays other f =
      let rs = records_from first s i in
      let e = put d r back_at v in
      record {
        outside = λ x p q. same_trans a d e x (f.outside x p q) (same_put d r back_at v x (other x p q) (omega arith));
        built = built_stays d r v head rs f.built;
        level_is = map_same (level e) (level d) rs (all_refl rs (λ x. word_stays d r v x level_at (omega arith))) ∙ f.level_is;
        m_is = map_same (m_word e) (m_word d) rs (all_refl rs (λ x. word_stays d r v x m_at (omega arith))) ∙ f.m_is;
        true_ps = trues_stay d r v (λ k. 0) rs ∙ f.true_ps;
      }

loadable_kept : (a b : List ℕ) (head first : ℕ) (sizes levels : List ℕ) (order : ℕ) → length b ≡ length a → Loadable a head first sizes levels order → Loadable b head first sizes levels order
loadable_kept a b head first sizes levels order long l =
    let x = l.head_has in
    let y = l.has in
    record {
      head_has = omega arith;
      some = l.some;
      has = omega arith;
      fits = l.fits;
      apart = l.apart;
      low = l.low;
      high = l.high;
      bytes = l.bytes;
      few = l.few;
      order_is = l.order_is;
    }

pub loading_start : (a : List ℕ) (head first : ℕ) (sizes levels : List ℕ) (order : ℕ) (b : List ℕ) → Loadable a head first sizes levels order → Cleared a head b → Loading b head first sizes levels order b 0 head order
unfolding trues order_word
loading_start a head first sizes levels order b l cleared =
    let s = sizes_in (length levels) sizes in
    let same = cleared_first a head b cleared in
    let many = places_length s in
    let no_place = drop-length (list_places s) in
    let no_size : drop (length (list_places s)) (gauge_shapes s) ≡ [] = drop_of_length-le (gauge_shapes s) {i = length (list_places s)} (omega arith) in
    record {
      i = length (list_places s);
      inside = omega arith;
      left_is = l.order_is ∙ sym (digits_all (list_places s));
      can = loadable_kept a b head first sizes levels order cleared.long l;
      long = refl;
      filled =
          subst (λ (d : List ℕ). Filled b head first s levels d (length (list_places s))) (sym same)
          (record {
            outside = λ x p q. same_refl b x;
            built = rw no_place cleared.built;
            level_is = rw no_place refl;
            m_is = rw (no_place, no_size) refl;
            true_ps = rw (no_place, no_size) refl;
          });
      waiting = rw no_place refl;
    }

pub loading_low : (b : List ℕ) (head first : ℕ) (sizes levels : List ℕ) (order k v : ℕ) → Loadable b head first sizes levels order → k < length levels → v ≡ get_or levels k 0 → 1 ≤ v
loading_low b head first sizes levels order k v l p e = let h = l.low k p in omega arith

pub loading_high : (b : List ℕ) (head first : ℕ) (sizes levels : List ℕ) (order k v : ℕ) → Loadable b head first sizes levels order → k < length levels → v ≡ get_or levels k 0 → v ≤ 8
loading_high b head first sizes levels order k v l p e = let h = l.high k p in omega arith

-- The arena has the record whose back word waits.
pub loading_after : (a : List ℕ) (head first : ℕ) (sizes levels : List ℕ) (order : ℕ) (b : List ℕ) (last after left : ℕ) → Loading a head first sizes levels order b last after left → Has b after
loading_after a head first sizes levels order b last after left t =
    let d = put b head forward_at last in
    let linked = t.filled.built.linked in
    let long = length_put b head forward_at last in
    let has : Has d after = waiting_has d head after (records_from first (sizes_in (length levels) sizes) t.i) linked.has linked.chain t.waiting in
    omega arith

-- The record of the place whose digit is the last, before those of the places after it.
module _ (a : List ℕ) (head first : ℕ) (sizes levels : List ℕ) (order : ℕ) (b : List ℕ) (last after left : ℕ) (t : Loading a head first sizes levels order b last after left) (more : 0 < left) where
  abbrev s : List Item
  s = sizes_in (length levels) sizes

  taken : Digit s left t.i
  taken = let few = t.can.few in let many = in_length (length levels) sizes in digit s left t.i (omega arith) t.inside t.left_is more

  pub loading_some : 1 ≤ left % 16
  loading_some = taken.some

  pub loading_place : left % 16 - 1 < length levels
  loading_place = let many = in_length (length levels) sizes in let low = taken.low in omega arith

  module _ (v : ℕ) (z : Size) (c : List ℕ) (v_is : v ≡ get_or levels (left % 16 - 1) 0) (here : SizeIn sizes (left % 16 - 1) z) (placed : Placed b head (first + (left % 16 - 1)) last v z.height z.width c) where
    abbrev j : ℕ
    j = taken.j

    abbrev k : ℕ
    k = left % 16 - 1

    rest : List ℕ
    rest = records_from first s (j + 1)

    -- The arenas before and after, with the head's first forward stored.
    abbrev d : List ℕ
    d = put b head forward_at last

    abbrev e : List ℕ
    e = put c head forward_at (first + k)

    before : Filled a head first s levels d (j + 1)
    before = subst (Filled a head first s levels d) taken.before_i t.filled

    away : Away (first + k) rest
    unfolding rest
    away =
        let long = length-drop (j + 1) (list_places s) in
        let place = taken.place in
        places_away first k (drop (j + 1) (list_places s))
        (λ i less same.
        let at = get_or-drop (j + 1) (list_places s) i 0 in
        places_apart s j (j + 1 + i) (omega arith) (omega arith) (omega arith))

    places_step : drop j (list_places s) ≡ k ∷ drop (j + 1) (list_places s)
    places_step =
        rest_step (list_places s) j 0 taken.in_list
        ∙ ap (λ (x : ℕ). x ∷ drop (j + 1) (list_places s)) (sym taken.place)

    sizes_read : drop j (gauge_shapes s) ≡ size z.height z.width ∷ drop (j + 1) (gauge_shapes s)
    sizes_read = size_read sizes (length levels) left t.i z taken here

    one : Loaded1 d head (first + k) v z.height z.width rest e
    unfolding rest
    one =
        let inside = loading_place in
        let some = t.can.some in
        let has = t.can.has in
        let low = t.can.low k inside in
        let high = t.can.high k inside in
        let small = here.width_fits in
        loaded_beside b head (first + k) v z.height z.width last rest c before.built (omega arith) (omega arith) (omega arith) (omega arith) (omega arith) (t.can.apart k inside) away placed

    rest_same : All (Same d e) rest
    unfolding rest
    rest_same = all_both rest one.outside before.built.linked.away away

    filled_one : Filled a head first s levels e j
    unfolding rest
    filled_one =
        record {
          outside = rw places_step
              (λ x p q. same_trans a d e x (before.outside x p q.1) (one.outside x p (λ f. q.0 (sym f))));
          built = rw places_step one.built;
          level_is =
              rw places_step
              (ap₂ ◌∷◌ (one.level_is ∙ v_is)
              (map_same (level e) (level d) rest (all_map rest (λ x (s : Same d e x). s.at level_at (omega arith)) rest_same)
              ∙ before.level_is));
          m_is =
              rw (places_step, sizes_read)
              (ap₂ ◌∷◌ one.m_is
              (map_same (m_word e) (m_word d) rest (all_map rest (λ x (s : Same d e x). s.at m_at (omega arith)) rest_same)
              ∙ before.m_is));
          true_ps =
              rw (places_step, sizes_read)
              (one.true_ps ∙ ap (λ (l : List ℕ). z.width ∷ l) before.true_ps);
        }

    -- The arena after, with the waiting back word stored too.
    abbrev o : List ℕ
    o = put e after back_at (first + k)

    old : Waiting e head after rest
    unfolding rest
    old =
        waiting_kept d e head after one.backs_kept rest
        (subst (λ (i : ℕ). Waiting d head after (records_from first s i)) taken.before_i t.waiting)

    filled_back : Filled a head first s levels o j
    unfolding rest
    filled_back =
        filled_stays a head first s levels e j after (first + k)
        (rw places_step (λ x p q. waiting_other e head after rest old x p q.1)) filled_one

    new : Waiting o head (first + k) (records_from first s j)
    unfolding rest
    new =
        let linked = one.built.linked in
        rw places_step (refl, waiting_stored e head after (first + k) rest linked.has linked.away.1 linked.chain.1 old)

    module _ (g : List ℕ) (stored : g ≡ put c after back_at (first + k)) where
      beside : o ≡ put g head forward_at (first + k)
      beside = sym (stored_beside c after (first + k) g stored head (first + k))

      pub loading_more : Loading a head first sizes levels order g (first + k) (first + k) (left / 16)
      loading_more =
          let inside = taken.in_list in
          let filled_long = one.long in
          let before_long = length_put b head forward_at last in
          let after_long = length_put c head forward_at (first + k) in
          let stored_long : length g ≡ length c = ap length stored ∙ length_put c after back_at (first + k) in
          let long : length g ≡ length b = omega arith in
          record {
            i = j;
            inside = omega arith;
            left_is = taken.rest;
            can = loadable_kept b g head first sizes levels order long t.can;
            long = long ∙ t.long;
            filled = subst (λ (l : List ℕ). Filled a head first s levels l j) beside filled_back;
            waiting = subst (λ (l : List ℕ). Waiting l head (first + k) (records_from first s j)) beside new;
          }

filled_all : (a : List ℕ) (head first : ℕ) (s : List Item) (levels b c : List ℕ) → Cleared a head b → length c ≡ length b → Filled b head first s levels c 0 → Backed c head (records_from first s 0) → Loaded a head first s levels c
unfolding records_of
filled_all a head first s levels b c cleared long f backed =
    record {
      long = long ∙ cleared.long;
      outside = λ x p q. same_trans a b c x (cleared.outside x p) (f.outside x p q);
      built = f.built;
      backed = backed;
      level_is = f.level_is;
      m_is = f.m_is;
      true_ps = f.true_ps;
    }

module _ (a : List ℕ) (head first : ℕ) (sizes levels : List ℕ) (order : ℕ) (b d : List ℕ) (last after left : ℕ) (cleared : Cleared a head b) (t : Loading b head first sizes levels order d last after left) (none : left ≤ 0) where
  pub loading_done : (c g : List ℕ) → c ≡ put d head forward_at last → g ≡ put c after back_at 0 → Loaded a head first (sizes_in (length levels) sizes) levels g
  loading_done c g c_is g_is =
      let s = sizes_in (length levels) sizes in
      let rs = records_from first s 0 in
      let e = put d head forward_at last in
      let stored : put e after back_at 0 ≡ g = sym (g_is ∙ ap (λ (l : List ℕ). put l after back_at 0) c_is) in
      let start : t.i ≡ 0 = none_left (list_places s) t.i left t.inside t.left_is none in
      let whole = subst (Filled b head first s levels e) start t.filled in
      let waiting : Waiting e head after rs = subst (λ (i : ℕ). Waiting e head after (records_from first s i)) start t.waiting in
      let linked = whole.built.linked in
      let backs = waiting_stored e head after 0 rs linked.has linked.away linked.chain waiting in
      let long = length_put e after back_at 0 ∙ length_put d head forward_at last ∙ t.long in
      subst (Loaded a head first s levels) stored
      (filled_all a head first s levels b (put e after back_at 0) cleared long
      (filled_stays b head first s levels e 0 after 0 (waiting_other e head after rs waiting) whole)
      (backed_none (put e after back_at 0) head rs backs))
