-- The turns of `merge_lists`, which holds the words of the first item left of each list: a turn writes the item that the two make, and reads the next item only of a list whose item goes.
-- A word that is held is that of an item of the lists as they were, with the gap added for the newer list, which the loop keeps, so it stays right while its item is left.
use mathlib.Core.Path.{◌≡◌, refl, subst, ◌∙◌}
use mathlib.Core.List.{List}
use Prim.Native.Nat.{ℕ, ◌+◌, ◌*◌, ◌-◌, ◌/◌, ◌%◌, ◌^◌, ◌≤◌, ◌<◌, max}
use native.Mathlib.Omega.{arith}
use lib.Dec.{eqb}
use lib.ListN.{length, set, length-set}
use borrow.Author.Tests.{eqb-true, eqb-false}
use Rattle.checks.proofs.Cases.{by_test}
use Rattle.slicing.specs.Item.{Item}
use Rattle.packed.specs.inside.Joining.{AtItem, Joinable, Joined}
use Rattle.packed.specs.declared.stretch.Stretch.{Stretch}
use Rattle.packed.proofs.Merging.{Reads, Raised, Goes, raised, raised_fits, merging_room, merging_past, merging_fits, one_goes, merging_turn}
use Rattle.packed.proofs.Places.{ReadAt, Moved, one_on, on_moved, not_moved, left, at_more, at_between, at_reads, at_moved, left_is}
use Rattle.packed.proofs.Walking.{Walking, walking_start, walking_older_out, walking_newer_out, older_more, newer_more, older_inside, newer_inside, older_reads, newer_reads}

-- At the start of a turn: each list has an item left, and x and y are the words of these two, y with the gap in its p.
pub record Holding (gap : ℕ) (s : List ℕ) (a b : Stretch) (to end stop : ℕ) (z : List ℕ) (i j x y at : ℕ) : Type 0 where
  pub older_passed : ℕ
  pub newer_passed : ℕ
  pub walking : Walking gap s a b to end stop z i j at older_passed newer_passed
  pub older_more : older_passed < a.count
  pub newer_more : newer_passed < b.count
  pub older_word : Reads s a older_passed x
  pub newer_word : Raised gap s b newer_passed y

-- Before the loop.
pub starts_inside : (gap : ℕ) (s : List ℕ) (a b : Stretch) (to i j : ℕ) → ((l : List Item) × (k : List Item) × Joinable gap s a b to l k) → AtItem a 0 i → AtItem b 0 j → (i < length s) × (j < length s)
starts_inside gap s a b to i j pre older newer =
    let joinable = pre.2 in
    let older_at = at_between a 0 i older joinable.older_some in
    let newer_at = at_between b 0 j newer joinable.newer_some in
    let older_before = joinable.older_before in
    let newer_before = joinable.newer_before in
    let room = joinable.room in
    (omega arith, omega arith)

pub holding_start : (gap : ℕ) (s : List ℕ) (a b : Stretch) (to end stop i j x y : ℕ) → ((l : List Item) × (k : List Item) × Joinable gap s a b to l k)
    → AtItem a 0 i → AtItem b 0 j → AtItem a a.count end → AtItem b b.count stop → ReadAt s i a.across x → ReadAt s j b.across y → Holding gap s a b to end stop s i j x (y + gap) to
holding_start gap s a b to end stop i j x y pre older newer older_end newer_end x_read y_read =
    let walking = walking_start gap s a b to end stop i j pre older newer older_end newer_end in
    record {
      older_passed = 0;
      newer_passed = 0;
      walking = walking;
      older_more = pre.2.older_some;
      newer_more = pre.2.newer_some;
      older_word = older_reads gap s a b to end stop s i j to 0 0 walking x pre.2.older_some x_read;
      newer_word = raised gap s b 0 y (newer_reads gap s a b to end stop s i j to 0 0 walking y pre.2.newer_some y_read);
    }

pub start_fits : (gap : ℕ) (s : List ℕ) (a b : Stretch) (to j y : ℕ) → ((l : List Item) × (k : List Item) × Joinable gap s a b to l k) → AtItem b 0 j → ReadAt s j b.across y → y + gap < 2 ^ 32
start_fits gap s a b to j y pre newer y_read =
    raised_fits gap s a b to pre.0 pre.1 pre.2 0 y pre.2.newer_some (at_reads b 0 j newer s y pre.2.newer_some y_read)

-- What a turn does: m and n items go, the places move on by as many, and w is the word of the item that the two make.
pub record Turn (a b : Stretch) (i j x y i' j' w m n : ℕ) : Type 0 where
  pub older_goes : Goes x y m
  pub newer_goes : Goes y x n
  pub older_moved : Moved a.across i m i'
  pub newer_moved : Moved b.across j n j'
  pub word : w ≡ 65_536 * max (x / 65_536) (y / 65_536) + (x % 65_536 + y % 65_536)

-- The item of larger m goes, or both.
pub turn_newer : (a b : Stretch) (i j x y j' m n v : ℕ) → m ≡ x / 65_536 → n ≡ y / 65_536 → m < n → v ≡ x % 65_536 → Moved b.across j 1 j' → Turn a b i j x y i j' (y + v) 0 1
turn_newer a b i j x y j' m n v em en less ev moved =
    record {
      older_goes = (λ e. absurd (omega arith), λ e. refl);
      newer_goes = (λ e. refl, λ e. absurd (omega arith));
      older_moved = not_moved a.across i;
      newer_moved = moved;
      word = omega arith;
    }

pub turn_older : (a b : Stretch) (i j x y i' m n v : ℕ) → m ≡ x / 65_536 → n ≡ y / 65_536 → n ≤ m → (m ≡ n → ⊥) → v ≡ y % 65_536 → Moved a.across i 1 i' → Turn a b i j x y i' j (x + v) 1 0
turn_older a b i j x y i' m n v em en le other ev moved =
    let less : n < m = omega arith in
    record {
      older_goes = (λ e. refl, λ e. absurd (omega arith));
      newer_goes = (λ e. absurd (omega arith), λ e. refl);
      older_moved = moved;
      newer_moved = not_moved b.across j;
      word = omega arith;
    }

pub turn_both : (a b : Stretch) (i j x y i' j' m n v : ℕ) → m ≡ x / 65_536 → n ≡ y / 65_536 → m ≡ n → v ≡ y % 65_536 → Moved a.across i 1 i' → Moved b.across j 1 j' → Turn a b i j x y i' j' (x + v) 1 1
turn_both a b i j x y i' j' m n v em en same ev i_moved j_moved =
    record {
      older_goes = (λ e. refl, λ e. absurd (omega arith));
      newer_goes = (λ e. refl, λ e. absurd (omega arith));
      older_moved = i_moved;
      newer_moved = j_moved;
      word = omega arith;
    }

module _ (gap : ℕ) (s : List ℕ) (a b : Stretch) (to end stop : ℕ) (z : List ℕ) (i j x y at : ℕ) (h : Holding gap s a b to end stop z i j x y at) where
  abbrev p : ℕ
  p = h.older_passed

  abbrev q : ℕ
  q = h.newer_passed

  pub holding_room : at < length z
  holding_room = merging_room gap s a b to z p q at h.walking.merging h.older_more h.newer_more

  pub holding_past : to ≤ at + 1
  holding_past = omega (arith, merging_past gap s a b to z p q at h.walking.merging)

  pub holding_length : (w : ℕ) → length (set z at w) ≡ length s
  holding_length w = length-set z at w ∙ h.walking.merging.length_kept

  pub holding_fits : (x + y % 65_536 < 2 ^ 32) × (y + x % 65_536 < 2 ^ 32)
  holding_fits = merging_fits gap s a b to z p q at h.walking.merging h.older_more h.newer_more x y h.older_word h.newer_word

  pub holding_older : (1 ≤ i) × (i < to)
  holding_older = older_inside gap s a b to end stop z i j at p q h.walking h.older_more

  pub holding_newer : (1 ≤ j) × (j < to)
  holding_newer = newer_inside gap s a b to end stop z i j at p q h.walking h.newer_more

  module _ (i' j' w m n : ℕ) (t : Turn a b i j x y i' j' w m n) where
    older_moves : AtItem a (p + m) i'
    older_moves =
        at_moved a p i h.walking.older_at m i' h.walking.merging.joinable.older_after h.older_more
        (one_goes x y m n t.older_goes t.newer_goes).0 t.older_moved

    newer_moves : AtItem b (q + n) j'
    newer_moves =
        at_moved b q j h.walking.newer_at n j' h.walking.merging.joinable.newer_after h.newer_more
        (one_goes x y m n t.older_goes t.newer_goes).1 t.newer_moved

    turned : Walking gap s a b to end stop (set z at w) i' j' (at + 1) (p + m) (q + n)
    turned =
        record {
          merging =
              merging_turn gap s a b to z p q at h.walking.merging h.older_more h.newer_more x y h.older_word h.newer_word
              w m n t.word t.older_goes t.newer_goes;
          older_at = older_moves;
          newer_at = newer_moves;
          older_end = h.walking.older_end;
          newer_end = h.walking.newer_end;
        }

    pub turn_older_out : i' ≡ end → (l k : List Item) → Joinable gap s a b to l k → Joined gap s a b to l k (set z at w) (at + 1 - to)
    turn_older_out = walking_older_out gap s a b to end stop (set z at w) i' j' (at + 1) (p + m) (q + n) turned

    pub turn_newer_out : j' ≡ stop → (l k : List Item) → Joinable gap s a b to l k → Joined gap s a b to l k (set z at w) (at + 1 - to)
    turn_newer_out = walking_newer_out gap s a b to end stop (set z at w) i' j' (at + 1) (p + m) (q + n) turned

    pub turn_less : left a i' + left b j' < left a i + left b j
    turn_less =
        let goes = one_goes x y m n t.older_goes t.newer_goes in
        let older = h.older_more in
        let newer = h.newer_more in
        let older_first = h.walking.merging.joinable.older_after in
        let newer_first = h.walking.merging.joinable.newer_after in
        let i_left : left a i ≡ a.count - p = left_is a p i h.walking.older_at older_first (omega arith) in
        let j_left : left b j ≡ b.count - q = left_is b q j h.walking.newer_at newer_first (omega arith) in
        let i_next : left a i' ≡ a.count - (p + m) = left_is a (p + m) i' older_moves older_first (omega arith) in
        let j_next : left b j' ≡ b.count - (q + n) = left_is b (q + n) j' newer_moves newer_first (omega arith) in
        omega arith

    turn_again : (x' y' : ℕ) → p + m < a.count → q + n < b.count → Reads s a (p + m) x' → Raised gap s b (q + n) y' → Holding gap s a b to end stop (set z at w) i' j' x' y' (at + 1)
    turn_again x' y' older newer x_is y_is =
        record { older_passed = p + m; newer_passed = q + n; walking = turned; older_more = older; newer_more = newer; older_word = x_is; newer_word = y_is }

    -- An item that goes: the next one is read.
    next_older : (x' : ℕ) → (i' ≡ end → ⊥) → ReadAt (set z at w) i' a.across x' → (p + m < a.count) × Reads s a (p + m) x'
    next_older x' on read =
        let more = older_more gap s a b to end stop (set z at w) i' j' (at + 1) (p + m) (q + n) turned on in
        (more, older_reads gap s a b to end stop (set z at w) i' j' (at + 1) (p + m) (q + n) turned x' more read)

    next_newer : (y' : ℕ) → (j' ≡ stop → ⊥) → ReadAt (set z at w) j' b.across y' → (q + n < b.count) × Reads s b (q + n) y'
    next_newer y' on read =
        let more = newer_more gap s a b to end stop (set z at w) i' j' (at + 1) (p + m) (q + n) turned on in
        (more, newer_reads gap s a b to end stop (set z at w) i' j' (at + 1) (p + m) (q + n) turned y' more read)

    pub next_fits : (y' : ℕ) → (j' ≡ stop → ⊥) → ReadAt (set z at w) j' b.across y' → y' + gap < 2 ^ 32
    next_fits y' on read =
        let newer = next_newer y' on read in
        raised_fits gap s a b to _ _ h.walking.merging.joinable (q + n) y' newer.0 newer.1

  -- An item that stays: its word stays.
  same_older : (p + 0 < a.count) × Reads s a (p + 0) x
  same_older = let same : p ≡ p + 0 = omega arith in subst (λ (k : ℕ). (k < a.count) × Reads s a k x) same (h.older_more, h.older_word)

  same_newer : (q + 0 < b.count) × Raised gap s b (q + 0) y
  same_newer = let same : q ≡ q + 0 = omega arith in subst (λ (k : ℕ). (k < b.count) × Raised gap s b k y) same (h.newer_more, h.newer_word)

  pub newer_again : (j' w y' : ℕ) → Turn a b i j x y i j' w 0 1 → (j' ≡ stop → ⊥) → ReadAt (set z at w) j' b.across y' → Holding gap s a b to end stop (set z at w) i j' x (y' + gap) (at + 1)
  newer_again j' w y' t on read =
      let newer = next_newer i j' w 0 1 t y' on read in
      turn_again i j' w 0 1 t x (y' + gap) same_older.0 newer.0 same_older.1 (raised gap s b _ y' newer.1)

  pub older_again : (i' w x' : ℕ) → Turn a b i j x y i' j w 1 0 → (i' ≡ end → ⊥) → ReadAt (set z at w) i' a.across x' → Holding gap s a b to end stop (set z at w) i' j x' y (at + 1)
  older_again i' w x' t on read =
      let older = next_older i' j w 1 0 t x' on read in
      turn_again i' j w 1 0 t x' y older.0 same_newer.0 older.1 same_newer.1

  pub both_again : (i' j' w x' y' : ℕ) → Turn a b i j x y i' j' w 1 1 → (i' ≡ end → ⊥) → (j' ≡ stop → ⊥) → ReadAt (set z at w) i' a.across x' → ReadAt (set z at w) j' b.across y' → Holding gap s a b to end stop (set z at w) i' j' x' (y' + gap) (at + 1)
  both_again i' j' w x' y' t i_on j_on i_read j_read =
      let older = next_older i' j' w 1 1 t x' i_on i_read in
      let newer = next_newer i' j' w 1 1 t y' j_on j_read in
      turn_again i' j' w 1 1 t x' (y' + gap) older.0 newer.0 older.1 (raised gap s b _ y' newer.1)

  -- The place after one is in the scratch, before the end.
  pub older_next : (i' w : ℕ) → Moved a.across i 1 i' → (i' ≡ end → ⊥) → i' < length (set z at w)
  older_next i' w moved on =
      let first = h.walking.merging.joinable.older_after in
      let at_next = at_moved a p i h.walking.older_at 1 i' first h.older_more (omega arith) moved in
      let more = at_more a (p + 1) i' at_next end h.walking.older_end on (let more = h.older_more in omega arith) in
      let between = at_between a (p + 1) i' at_next more in
      let before = h.walking.merging.joinable.older_before in
      let room = h.walking.merging.joinable.room in
      let same = h.walking.merging.length_kept in
      omega (arith, length-set z at w)

  pub newer_next : (j' w : ℕ) → Moved b.across j 1 j' → (j' ≡ stop → ⊥) → j' < length (set z at w)
  newer_next j' w moved on =
      let first = h.walking.merging.joinable.newer_after in
      let at_next = at_moved b q j h.walking.newer_at 1 j' first h.newer_more (omega arith) moved in
      let more = at_more b (q + 1) j' at_next stop h.walking.newer_end on (let more = h.newer_more in omega arith) in
      let between = at_between b (q + 1) j' at_next more in
      let before = h.walking.merging.joinable.newer_before in
      let room = h.walking.merging.joinable.room in
      let same = h.walking.merging.length_kept in
      omega (arith, length-set z at w)

  -- The older list at its end, after a turn in which its item went, alone or with the other.
  pub older_last : (i' m n v : ℕ) → m ≡ x / 65_536 → n ≡ y / 65_536 → n ≤ m → v ≡ y % 65_536 → Moved a.across i 1 i' → i' ≡ end
      → (l k : List Item) → Joinable gap s a b to l k → Joined gap s a b to l k (set z at (x + v)) (at + 1 - to)
  older_last i' m n v em en le ev moved out =
      by_test (eqb m n)
      (λ e. turn_older_out i' (one_on b.across j) (x + v) 1 1 (turn_both a b i j x y i' (one_on b.across j) m n v em en (eqb-true m n e) ev moved (on_moved b.across j)) out)
      (λ e. turn_older_out i' j (x + v) 1 0 (turn_older a b i j x y i' m n v em en le (eqb-false m n e) ev moved) out)
