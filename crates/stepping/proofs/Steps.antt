-- A step of the merge leaves what the merge is to give as it was: a run of one list goes to the result with the other list's first p and the gap, and the rest waits.
-- The merge of the definitions makes the same run at once, since every item of it has a larger m than what waits, or the same as the other list's first.
use mathlib.Core.Path.{◌≡◌, refl, sym, ap, ap₂, subst, ◌∙◌}
use mathlib.Core.List.Memᴰ
use mathlib.Core.List.{List, [], ◌∷◌, ◌++◌, append_assoc, map-append, Memᴰ}
use mathlib.Core.Logic.{⊎_elim}
use Prim.Native.Nat.{ℕ, ◌+◌, ◌^◌, ◌≤◌, ◌<◌}
use native.Mathlib.Omega.{arith}
use mathlib.Core.Bool.{cond}
use lib.Dec.{eqb}
use lib.ListN.{length}
use borrow.Author.Tests.{le-leb, lt-leb, eq-eqb, ne_eqb}
use Rattle.slicing.specs.Item.{Item, size}
use Rattle.slicing.specs.Good.{Ordered}
use Rattle.slicing.specs.Recorded.{Recorded, merge_recorded, items}
use Rattle.slicing.proofs.Batch.{raised_older, raised_newer, left_after, batch_run, batch_newer}
use Rattle.arena.specs.Arena.{level, m_word, adjust}
use Rattle.arena.specs.inside.Chain.{growing, All, p_under, after, trues, leaving}
use Rattle.arena.specs.Lazy.{last_with}
use Rattle.arena.specs.inside.Carried.{paired, carried}
use Rattle.arena.proofs.Cases.{lt_or_ge}
use Rattle.arena.proofs.ListLaws.{all_right, last_here, last_append}
use Rattle.arena.proofs.Frames.{all_map, chain_low}
use Rattle.arena.proofs.CarriedLaws.{trues_length, carried_cons, carried_append, carried_frame}
use Rattle.searching.specs.inside.Cut.{front, behind}
use Rattle.searching.proofs.SearchLaws.{front_in}
use Rattle.searching.proofs.CutLaws.{front_behind}
use Rattle.dropping.specs.inside.Dropping.{Dropped}
use Rattle.moving.specs.inside.Advance.{MovedFront}
use Rattle.stepping.specs.inside.Trio.{Roomy}
use Rattle.stepping.specs.inside.Running.{Waiting, Running}
use Rattle.stepping.proofs.TrioLaws.{trio_swap, trio_moved, newer_carried, trio_dropped, dropped_older, dropped_result, dropped_newer}
use Rattle.stepping.proofs.MovedLaws.{Below, moved_older, moved_newer}

-- Every record in front is not below the key.
front_above : (a : List ℕ) (key : ℕ) (rs : List ℕ) → All (λ x. key ≤ m_word a x) (front a key rs)
unfolding front
front_above a key [] = tt
front_above a key (r ∷ rs) =
    lt_or_ge (m_word a r) key (λ h. simp (lt-leb key (m_word a r) h) tt)
    (λ h. simp (le-leb key (m_word a r) h) (h, front_above a key rs))

paired_above : (a : List ℕ) (key : ℕ) (rs ps : List ℕ) → All (λ x. key ≤ m_word a x) rs → (x : Recorded) → Memᴰ x (paired a rs ps) → key ≤ x.item.m
paired_above a key [] ps h x i = absurd (Memᴰ.not-nil i)
paired_above a key (r ∷ rs) [] h x i = absurd (Memᴰ.not-nil i)
paired_above a key (r ∷ rs) (p ∷ ps) h x i =
    ⊎_elim
    (λ e. subst (λ (y : Recorded). key ≤ y.item.m) (sym e) h.0)
    (λ j. paired_above a key rs ps h.1 x j)
    (Memᴰ.cases_cons i)

ordered_left : (l k : List Item) → Ordered (l ++ k) → Ordered l
ordered_left [] k o = tt
ordered_left (y ∷ l) k o = (λ z i. o.0 z (Memᴰ.append_left k i), ordered_left l k o.1)

ordered_right : (l k : List Item) → Ordered (l ++ k) → Ordered k
ordered_right [] k o = o
ordered_right (y ∷ l) k o = ordered_right l k o.1

pub all_kept : (a b rs : List ℕ) → ((x : ℕ) → m_word b x ≡ m_word a x) → All (Roomy a) rs → All (Roomy b) rs
all_kept a b rs e h =
    all_map rs
    (λ x roomy.
    let same = e x in
    let some = roomy.some in
    let small = roomy.small in
    record { some = omega arith; small = omega arith })
    h

pub waiting_swap : (gap : ℕ) (a : List ℕ) (ho hn hc : ℕ) (xs ys cs ends : List ℕ) → Waiting gap a ho hn hc xs ys cs ends → Waiting gap a hn ho hc ys xs cs ends
waiting_swap gap a ho hn hc xs ys cs ends w =
    record {
      lists = trio_swap a ho hn hc xs ys cs ends w.lists;
      older_order = w.newer_order;
      newer_order = w.older_order;
      small = λ x y i j. let less = w.small y x j i in omega arith;
      older_room = w.newer_room;
      newer_room = w.older_room;
    }

-- The first item of a list.
abbrev first_item : List ℕ → (ℕ → ℕ) → ℕ → Recorded
first_item a f r = record { number = r; item = size (m_word a r) (p_under a f r) }

carried_first : (a : List ℕ) (f : ℕ → ℕ) (r : ℕ) (rs : List ℕ) → Memᴰ (first_item a f r) (carried a f (r ∷ rs))
carried_first a f r rs = subst (λ (l : List Recorded). Memᴰ (first_item a f r) l) (sym (carried_cons a f r rs)) (Memᴰ.head refl)

-- The sum of the p of the two first items and the gap fits.
pub firsts_fit : (gap : ℕ) (a : List ℕ) (ho hn hc r s : ℕ) (xs ys cs ends : List ℕ) → Waiting gap a ho hn hc (r ∷ xs) (s ∷ ys) cs ends → p_under a (adjust a ho) r + gap + p_under a (adjust a hn) s < 2 ^ 32
firsts_fit gap a ho hn hc r s xs ys cs ends w =
    w.small (first_item a (adjust a ho) r) (first_item a (adjust a hn) s) (carried_first a (adjust a ho) r xs) (carried_first a (adjust a hn) s ys)

-- What waits after a run was moved.
module _ (gap : ℕ) (a b : List ℕ) (ho hn hc key q r : ℕ) (xs ys cs ends ends' : List ℕ) (w : Waiting gap a ho hn hc (r ∷ xs) ys cs ends) (d : MovedFront a b ho hc key q cs (r ∷ xs) ends') where
  pub older_parts : carried a (adjust a ho) (r ∷ xs) ≡ carried a (adjust a ho) (front a key (r ∷ xs)) ++ carried a (leaving a (adjust a ho) (front a key (r ∷ xs))) (behind a key (r ∷ xs))
  older_parts = ap (carried a (adjust a ho)) (front_behind a key (r ∷ xs)) ∙ carried_append a (adjust a ho) (front a key (r ∷ xs)) (behind a key (r ∷ xs))

  abbrev moved : List Recorded
  moved = carried a (adjust a ho) (front a key (r ∷ xs))

  abbrev left : List Recorded
  left = carried a (leaving a (adjust a ho) (front a key (r ∷ xs))) (behind a key (r ∷ xs))

  pub rest_carried : carried b (adjust b ho) (behind a key (r ∷ xs)) ≡ left
  rest_carried = carried_frame a b (leaving a (adjust a ho) (front a key (r ∷ xs))) (adjust b ho) (behind a key (r ∷ xs)) d.m_kept d.rest_values

  pub orders : Ordered (items moved ++ items left)
  orders = subst (λ (l : List Item). Ordered l) (ap items older_parts ∙ map-append (λ (x : Recorded). x.item) moved left) w.older_order

  pub newer_kept : carried b (adjust b hn) ys ≡ carried a (adjust a hn) ys
  newer_kept = newer_carried a b ho hn hc key q r xs ys cs ends ends' w.lists d

  room_left : All (Roomy a) (behind a key (r ∷ xs))
  room_left =
      all_right (Roomy a) (front a key (r ∷ xs)) (behind a key (r ∷ xs))
      (subst (All (Roomy a)) (front_behind a key (r ∷ xs)) w.older_room)

  pub waiting_moved : Waiting gap b ho hn hc (behind a key (r ∷ xs)) ys (cs ++ front a key (r ∷ xs)) ends'
  waiting_moved =
      record {
        lists = trio_moved a b ho hn hc key q r xs ys cs ends ends' w.lists d;
        older_order = subst (λ (l : List Recorded). Ordered (items l)) (sym rest_carried) (ordered_right (items moved) (items left) orders);
        newer_order = subst (λ (l : List Recorded). Ordered (items l)) (sym newer_kept) w.newer_order;
        small = λ x y i j.
            w.small x y
            (subst (λ (l : List Recorded). Memᴰ x l) (sym older_parts) (Memᴰ.append_right moved (subst (λ (l : List Recorded). Memᴰ x l) rest_carried i)))
            (subst (λ (l : List Recorded). Memᴰ y l) newer_kept j);
        older_room = all_kept a b (behind a key (r ∷ xs)) d.m_kept room_left;
        newer_room = all_kept a b ys d.m_kept w.newer_room;
      }

-- What waits after the newer list's first record has left.
module _ (gap : ℕ) (a b : List ℕ) (ho hn hc y : ℕ) (xs ys cs ends : List ℕ) (w : Waiting gap a ho hn hc xs (y ∷ ys) cs ends) (d : Dropped a b hn y ys) where
  abbrev first : Recorded
  first = record { number = y; item = size (m_word a y) (p_under a (adjust a hn) y) }

  abbrev older_same : carried b (adjust b ho) xs ≡ carried a (adjust a ho) xs
  older_same = dropped_older a b ho hn hc y xs ys cs ends w.lists d

  abbrev newer_same : carried b (adjust b hn) ys ≡ carried a (after a (adjust a hn) y) ys
  newer_same = dropped_newer a b ho hn hc y xs ys cs ends w.lists d

  pub waiting_dropped : Waiting gap b ho hn hc xs ys cs ends
  waiting_dropped =
      record {
        lists = trio_dropped a b ho hn hc y xs ys cs ends w.lists d;
        older_order = subst (λ (l : List Recorded). Ordered (items l)) (sym older_same) w.older_order;
        newer_order = subst (λ (l : List Recorded). Ordered (items l)) (sym newer_same) (subst (λ (l : List Recorded). Ordered (items l)) (carried_cons a (adjust a hn) y ys) w.newer_order).1;
        small = λ x z i j.
            w.small x z (subst (λ (l : List Recorded). Memᴰ x l) older_same i)
            (subst (λ (l : List Recorded). Memᴰ z l) (sym (carried_cons a (adjust a hn) y ys)) (Memᴰ.tail (subst (λ (l : List Recorded). Memᴰ z l) newer_same j)));
        older_room = all_kept a b xs d.m_kept w.older_room;
        newer_room = all_kept a b ys d.m_kept w.newer_room.1;
      }

last_nil : (b : List ℕ) (x : ℕ) → last_with b 0 x [] ≡ x
unfolding last_with
last_nil b x = refl

-- The last record moved decides whether the newer list's first goes too.
left_last : (a b : List ℕ) (z : Recorded) (k : List Recorded) (h : ℕ) (rs ps : List ℕ) → ((x : ℕ) → m_word b x ≡ m_word a x) → length ps ≡ length rs → All (λ x. 1 ≤ level b x) rs → 1 ≤ length rs
    → left_after z (paired a rs ps) k ≡ cond (eqb (m_word b (last_with b 0 h rs)) z.item.m) k (z ∷ k)
left_last a b z k h [] ps same e low some = absurd (omega arith)
left_last a b z k h (x ∷ rs) [] same e low some = absurd (omega arith)
left_last a b z k h (x ∷ []) (p ∷ []) same e low some =
    ap (λ (m : ℕ). cond (eqb m z.item.m) k (z ∷ k)) (sym (ap (m_word b) (last_here b 0 h x [] low.0 ∙ last_nil b x) ∙ same x))
left_last a b z k h (x ∷ []) (p ∷ q ∷ ps) same e low some = absurd (omega arith)
left_last a b z k h (x ∷ y ∷ rs) (p ∷ []) same e low some = absurd (omega arith)
left_last a b z k h (x ∷ y ∷ rs) (p ∷ q ∷ ps) same e low some =
    left_last a b z k x (y ∷ rs) (q ∷ ps) same (omega arith) low.1 (omega arith)
    ∙ ap (λ (t : ℕ). cond (eqb (m_word b t) z.item.m) k (z ∷ k)) (sym (last_here b 0 h x (y ∷ rs) low.0))

-- A run of the older list was moved: its records have at least the m of the newer list's first, s.
module _ (gap : ℕ) (a b : List ℕ) (ho hn hc r s : ℕ) (xs ys cs ends ends' : List ℕ) (all : List Recorded) (run : Running gap a ho hn hc (r ∷ xs) (s ∷ ys) cs ends all) (tops : m_word a s ≤ m_word a r) (d : MovedFront a b ho hc (m_word a s) (p_under a (adjust a hn) s + gap) cs (r ∷ xs) ends') where
  abbrev fr : List ℕ
  fr = front a (m_word a s) (r ∷ xs)

  abbrev back : List ℕ
  back = behind a (m_word a s) (r ∷ xs)

  -- The newer list's first item, the items of the run, those left of the older list, and those behind the newer's first.
  abbrev against : Recorded
  against = first_item a (adjust a hn) s

  abbrev gone : List Recorded
  gone = carried a (adjust a ho) fr

  abbrev stays : List Recorded
  stays = carried a (leaving a (adjust a ho) fr) back

  abbrev later : List Recorded
  later = carried a (after a (adjust a hn) s) ys

  parts : carried a (adjust a ho) (r ∷ xs) ≡ gone ++ stays
  parts = older_parts gap a b ho hn hc (m_word a s) (p_under a (adjust a hn) s + gap) r xs (s ∷ ys) cs ends ends' run.waits d

  abbrev whole_order : Ordered (items gone ++ items stays)
  whole_order = orders gap a b ho hn hc (m_word a s) (p_under a (adjust a hn) s + gap) r xs (s ∷ ys) cs ends ends' run.waits d

  above : (x : Recorded) → Memᴰ x gone → m_word a s ≤ x.item.m
  unfolding carried
  above x i = paired_above a (m_word a s) fr (trues a (adjust a ho) fr) (front_above a (m_word a s) (r ∷ xs)) x i

  below : Below (against.item.p + gap) gone
  below x i =
      let small =
      run.waits.small x against (subst (λ (l : List Recorded). Memᴰ x l) (sym parts) (Memᴰ.append_left stays i))
      (carried_first a (adjust a hn) s ys) in
      omega arith

  result_carried : carried b (adjust b hc) (cs ++ fr) ≡ carried a (adjust a hc) cs ++ raised_older gap against gone
  result_carried = moved_older gap a b (adjust a hc) (adjust b hc) (adjust a ho) cs fr against d.m_kept d.values below

  older_gives : carried b (adjust b hc) (cs ++ fr) ++ merge_recorded gap stays (left_after against gone later) ≡ all
  older_gives =
      ap (λ (l : List Recorded). l ++ merge_recorded gap stays (left_after against gone later)) result_carried
      ∙ append_assoc (carried a (adjust a hc) cs) (raised_older gap against gone) (merge_recorded gap stays (left_after against gone later))
      ∙ ap (λ (l : List Recorded). carried a (adjust a hc) cs ++ l)
      (sym (batch_run gap against gone stays later (ordered_left (items gone) (items stays) whole_order) above)
      ∙ ap₂ (λ (l k : List Recorded). merge_recorded gap l k) (sym parts) (sym (carried_cons a (adjust a hn) s ys)))
      ∙ run.gives

  some_moved : 1 ≤ length fr
  some_moved = subst (λ (l : List ℕ). 1 ≤ length l) (sym (front_in a (m_word a s) r xs tops)) (omega arith)

  -- The last record of the result.
  abbrev end : ℕ
  end = last_with b 0 hc (cs ++ fr)

  left_after_is : left_after against gone later ≡ cond (eqb (m_word b end) (m_word a s)) later (against ∷ later)
  unfolding carried
  left_after_is =
      left_last a b against later (last_with b 0 hc cs) fr (trues a (adjust a ho) fr) d.m_kept (trues_length a (adjust a ho) fr)
      (all_right (λ x. 1 ≤ level b x) cs fr (chain_low growing b (cs ++ fr) d.result.chain)) some_moved
      ∙ ap (λ (t : ℕ). cond (eqb (m_word b t) (m_word a s)) later (against ∷ later)) (sym (last_append b 0 hc cs fr))

  abbrev waits_moved : Waiting gap b ho hn hc back (s ∷ ys) (cs ++ fr) ends'
  waits_moved = waiting_moved gap a b ho hn hc (m_word a s) (p_under a (adjust a hn) s + gap) r xs (s ∷ ys) cs ends ends' run.waits d

  abbrev newer_still : carried b (adjust b hn) (s ∷ ys) ≡ carried a (adjust a hn) (s ∷ ys)
  newer_still = newer_kept gap a b ho hn hc (m_word a s) (p_under a (adjust a hn) s + gap) r xs (s ∷ ys) cs ends ends' run.waits d

  abbrev back_carried : carried b (adjust b ho) back ≡ stays
  back_carried = rest_carried gap a b ho hn hc (m_word a s) (p_under a (adjust a hn) s + gap) r xs (s ∷ ys) cs ends ends' run.waits d

  pub older_stays : (m_word b end ≡ m_word a s → ⊥) → Running gap b ho hn hc back (s ∷ ys) (cs ++ fr) ends' all
  older_stays other =
      record {
        waits = waits_moved;
        gives =
            ap₂ (λ (l k : List Recorded). carried b (adjust b hc) (cs ++ fr) ++ merge_recorded gap l k) back_carried
            (newer_still ∙ carried_cons a (adjust a hn) s ys ∙ sym (left_after_is ∙ ap (λ t. cond t later (against ∷ later)) (ne_eqb (m_word b end) (m_word a s) other)))
            ∙ older_gives;
      }

  later_still : carried b (after b (adjust b hn) s) ys ≡ later
  later_still = ap rest (sym (carried_cons b (adjust b hn) s ys) ∙ newer_still ∙ carried_cons a (adjust a hn) s ys)
    where
      rest : List Recorded → List Recorded
      rest [] = []
      rest (x ∷ l) = l

  pub older_drops : (c : List ℕ) → m_word b end ≡ m_word a s → Dropped b c hn s ys → Running gap c ho hn hc back ys (cs ++ fr) ends' all
  older_drops c equal f =
      record {
        waits = waiting_dropped gap b c ho hn hc s back ys (cs ++ fr) ends' waits_moved f;
        gives =
            ap₂ (λ (l k : List Recorded). l ++ k) (dropped_result b c ho hn hc s back ys (cs ++ fr) ends' waits_moved.lists f)
            (ap₂ (λ (l k : List Recorded). merge_recorded gap l k) (dropped_older b c ho hn hc s back ys (cs ++ fr) ends' waits_moved.lists f ∙ back_carried)
            (dropped_newer b c ho hn hc s back ys (cs ++ fr) ends' waits_moved.lists f ∙ later_still ∙ sym (left_after_is ∙ ap (λ t. cond t later (against ∷ later)) (eq-eqb (m_word b end) (m_word a s) equal))))
            ∙ older_gives;
      }

-- A run of the newer list was moved: its records have a larger m than the older list's first, r.
module _ (gap : ℕ) (a b : List ℕ) (ho hn hc r s : ℕ) (xs ys cs ends ends' : List ℕ) (all : List Recorded) (run : Running gap a ho hn hc (r ∷ xs) (s ∷ ys) cs ends all) (d : MovedFront a b hn hc (m_word a r + 1) (p_under a (adjust a ho) r + gap) cs (s ∷ ys) ends') where
  abbrev run_of : List ℕ
  run_of = front a (m_word a r + 1) (s ∷ ys)

  abbrev kept : List ℕ
  kept = behind a (m_word a r + 1) (s ∷ ys)

  abbrev swapped : Waiting gap a hn ho hc (s ∷ ys) (r ∷ xs) cs ends
  swapped = waiting_swap gap a ho hn hc (r ∷ xs) (s ∷ ys) cs ends run.waits

  -- The older list's first item, those behind it, the items of the run, and those left of the newer list.
  abbrev facing : Recorded
  facing = first_item a (adjust a ho) r

  abbrev others : List Recorded
  others = carried a (after a (adjust a ho) r) xs

  abbrev taken : List Recorded
  taken = carried a (adjust a hn) run_of

  abbrev remains : List Recorded
  remains = carried a (leaving a (adjust a hn) run_of) kept

  newer_split : carried a (adjust a hn) (s ∷ ys) ≡ taken ++ remains
  newer_split = older_parts gap a b hn ho hc (m_word a r + 1) (p_under a (adjust a ho) r + gap) s ys (r ∷ xs) cs ends ends' swapped d

  larger : (x : Recorded) → Memᴰ x taken → m_word a r < x.item.m
  unfolding carried
  larger x i =
      let least = paired_above a (m_word a r + 1) run_of (trues a (adjust a hn) run_of) (front_above a (m_word a r + 1) (s ∷ ys)) x i in
      omega arith

  fits : Below (facing.item.p + gap) taken
  fits x i =
      let small =
      swapped.small x facing (subst (λ (l : List Recorded). Memᴰ x l) (sym newer_split) (Memᴰ.append_left remains i))
      (carried_first a (adjust a ho) r xs) in
      omega arith

  finished : carried b (adjust b hc) (cs ++ run_of) ≡ carried a (adjust a hc) cs ++ raised_newer gap facing taken
  finished = moved_newer gap a b (adjust a hc) (adjust b hc) (adjust a hn) cs run_of facing d.m_kept d.values fits

  newer_gives : carried b (adjust b hc) (cs ++ run_of) ++ merge_recorded gap (facing ∷ others) remains ≡ all
  newer_gives =
      ap (λ (l : List Recorded). l ++ merge_recorded gap (facing ∷ others) remains) finished
      ∙ append_assoc (carried a (adjust a hc) cs) (raised_newer gap facing taken) (merge_recorded gap (facing ∷ others) remains)
      ∙ ap (λ (l : List Recorded). carried a (adjust a hc) cs ++ l)
      (sym (batch_newer gap facing taken others remains larger)
      ∙ ap₂ (λ (l k : List Recorded). merge_recorded gap l k) (sym (carried_cons a (adjust a ho) r xs)) (sym newer_split))
      ∙ run.gives

  pub newer_moves : Running gap b ho hn hc (r ∷ xs) kept (cs ++ run_of) ends' all
  newer_moves =
      record {
        waits =
            waiting_swap gap b hn ho hc kept (r ∷ xs) (cs ++ run_of) ends'
            (waiting_moved gap a b hn ho hc (m_word a r + 1) (p_under a (adjust a ho) r + gap) s ys (r ∷ xs) cs ends ends' swapped d);
        gives =
            ap₂ (λ (l k : List Recorded). carried b (adjust b hc) (cs ++ run_of) ++ merge_recorded gap l k)
            (newer_kept gap a b hn ho hc (m_word a r + 1) (p_under a (adjust a ho) r + gap) s ys (r ∷ xs) cs ends ends' swapped d ∙ carried_cons a (adjust a ho) r xs)
            (rest_carried gap a b hn ho hc (m_word a r + 1) (p_under a (adjust a ho) r + gap) s ys (r ∷ xs) cs ends ends' swapped d)
            ∙ newer_gives;
      }
