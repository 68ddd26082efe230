-- What the walk of a reading call keeps: the records passed make due the records that the row of links names, the sums lead to the next one, their items stand in the row, and the arena holds a list just where what is left of the walk can follow them.
-- A turn settles the links of one record more, puts its forwards in their places of the row of links, renews the sums below its level, and lays its item out.
use mathlib.Core.Path.{◌≡◌, refl, sym, ap, subst, ◌∙◌}
use mathlib.Core.Bool.{Bool, true, false}
use mathlib.Core.List.{List, [], ◌∷◌, ◌++◌, append-nil, append_assoc, map-append}
use Prim.Native.Nat.{ℕ, suc, ◌+◌, ◌-◌, ◌≤◌, ◌<◌}
use native.Mathlib.Omega.{arith}
use lib.ListN.{length, get_or, set, replicate, length-append, length-map, length-set, get_or-append}
use lib.Seq.{get_or_at, get_or-set_same, get_or-set_other}
use Rattle.checks.specs.Limits.{buffer_words, most_sizes}
use Rattle.std.specs.Prelude.{Option, Some, None, take, slice_get}
use Rattle.std.proofs.lemmas.List.{take_more_set}
use Rattle.std.proofs.lemmas.Option.{slice_get_read}
use Rattle.checks.specs.declared.Check.TheVariants.{LazyList}
use Rattle.checks.specs.Answer.{refused, taken}
use Rattle.slicing.specs.Item.{Item, size}
use Rattle.slicing.specs.Recorded.{Recorded, items}
use Rattle.holding.specs.declared.items.Item.{Item as Laid}
use Rattle.arena.specs.Arena.{word, level, m_word, adjust, back}
use Rattle.arena.specs.Lazy.{last_with, true_p, held, lazy_list}
use Rattle.arena.specs.inside.Chain.{p_under, after}
use Rattle.arena.specs.inside.Sums.{Summable, Enterable, Suffixes, TrueP, Renewed}
use Rattle.arena.specs.inside.Backs.{last_of}
use Rattle.arena.proofs.Cases.{lt_or_ge}
use Rattle.arena.proofs.Summing.{suffixes_agree}
use Rattle.arena.proofs.ListLaws.{held_length}
use Rattle.arena.proofs.HeldLaws.{passed_sums, sums_on}
use Rattle.arena.proofs.BackLaws.{last_of_more}
use Rattle.forwards.specs.inside.Due.{Decides, Are, Passed}
use Rattle.holding.specs.inside.Pass.{in_row, Lies, LaidOut, Stands, Follows}
use Rattle.forwards.proofs.Decisions.{decided, refuted}
use Rattle.holding.proofs.Following.{due, due_here, due_past, come, Rest, Meets, Turn, turn, turn_back, rest_full, rest_over, rest_back, rest_none}
use Rattle.holding.proofs.Answering.{lazy_rest, rest_lazy, no_list, list_laid}

-- The row of links names the records that are due after those passed.
abbrev pub Dues : List ℕ → List ℕ → List ℕ → Type 0
Dues a passed e = (k : ℕ) → 1 ≤ k → k < 8 → get_or e k 0 ≡ due a passed k

dues_first : (a first e : List ℕ) → level a 0 ≡ 8 → Passed a 0 first e → Dues a [] e
unfolding last_with
dues_first a first e head z k low high = z.here k low (omega arith)

dues_more : (a : List ℕ) (r : ℕ) (passed first e : List ℕ) → Dues a passed first → Passed a r first e → Dues a (passed ++ (r ∷ [])) e
dues_more a r passed first e f z k low high =
    lt_or_ge k (level a r) (λ b. z.here k low b ∙ sym (due_here a passed k r b))
    (λ b. z.past k b ∙ f k low high ∙ sym (due_past a passed k r b))

-- The sums behind the records passed.
sums_first : (a s : List ℕ) → Suffixes (adjust a 0) s → Suffixes (passed_sums a 0 []) s
unfolding last_with
sums_first a s entered = entered

sums_more : (a : List ℕ) (r : ℕ) (passed s : List ℕ) → Suffixes (after a (passed_sums a 0 passed) r) s → Suffixes (passed_sums a 0 (passed ++ (r ∷ []))) s
sums_more a r passed s t =
    suffixes_agree (after a (passed_sums a 0 passed) r) (passed_sums a 0 (passed ++ (r ∷ []))) s (λ k low high. sums_on a 0 passed r k) t

-- One more item.
abbrev item_of : List ℕ → List ℕ → ℕ → Recorded
item_of a before r = record { number = r; item = record { m = m_word a r; p = true_p a 0 before r } }

held_more : (a before xs : List ℕ) (r : ℕ) → held a 0 before (xs ++ (r ∷ [])) ≡ held a 0 before xs ++ (item_of a (before ++ xs) r ∷ [])
unfolding held
held_more a before [] r = rw append-nil
held_more a before (x ∷ xs) r =
    ap (λ (l : List Recorded). item_of a before x ∷ l)
    (held_more a (before ++ (x ∷ [])) xs r
    ∙ ap (λ (l : List ℕ). held a 0 (before ++ (x ∷ [])) xs ++ (item_of a l r ∷ [])) (append_assoc before (x ∷ []) xs))

size_items : (a xs : List ℕ) → length (items (held a 0 [] xs)) ≡ length xs
size_items a xs = length-map (held a 0 [] xs) (λ (r : Recorded). r.item) ∙ held_length a 0 [] xs

-- One more item in the row.
lies_more : (l : List Item) (row : List Laid) (n : ℕ) (x : Laid) → length l ≡ n → n < length row → Lies l row → Lies (l ++ (size x.m x.p ∷ [])) (set row n x)
lies_more l row n x long room k =
    record {
      at =
          λ i d h.
          let all = length-append l (size x.m x.p ∷ []) in
          lt_or_ge i n
          (λ b.
          get_or-set_other row n i x d (λ e. omega arith) ∙ k.at i d (omega arith)
          ∙ ap in_row (sym (get_or-append l (size x.m x.p ∷ []) (size 0 0) i (omega arith))))
          (λ b.
          let here : n ≡ i = omega arith in
          subst (λ (j : ℕ). get_or (set row n x) j d ≡ in_row (get_or (l ++ (size x.m x.p ∷ [])) j (size 0 0))) here
          (get_or-set_same row n x d room ∙ ap in_row (sym (get_or_at l (size x.m x.p) [] (size 0 0) n long))));
    }

-- The newest item in the row, where one is laid out.
abbrev pub newest : List Laid → ℕ → Option Laid
newest row n = slice_get (take n row) (length (take n row) - 1)

pub newest_more : (row : List Laid) (n : ℕ) (x : Laid) → n < length row → Some x ≡ newest (set row n x) (n + 1)
newest_more row n x room =
    let cut = take_more_set row n x room in
    let all = length-append (take n row) (x ∷ []) in
    rw cut (sym (slice_get_read (take n row ++ (x ∷ [])) _ _ x refl (omega arith) (sym (get_or_at (take n row) x [] x _ (omega arith)))))

-- What the walk keeps, come to the record `next` after `count` others, of which `last` is the last.
pub record Walking (a : List ℕ) (row : List Laid) (e s : List ℕ) (next last count : ℕ) (before : Option Laid) : Type 0 where
  pub passed : List ℕ
  pub long : buffer_words ≤ length a
  pub few : count ≤ 512
  pub counted : length passed ≡ count
  pub due_long : length e ≡ 8
  pub first : due a passed 0 ≡ next
  pub dues : Dues a passed e
  pub sums : Suffixes (passed_sums a 0 passed) s
  pub down : (l : List Recorded) → lazy_list a ≡ taken l → (rs : List ℕ) × Rest a (512 - count) passed before rs
  pub up : (rs : List ℕ) → Rest a (512 - count) passed before rs → lazy_list a ≡ taken (held a 0 [] (passed ++ rs))
  pub last_is : last ≡ last_of 0 passed
  pub row_long : length row ≡ most_sizes
  pub lies : Lies (items (held a 0 [] passed)) row

module _ (a : List ℕ) (long : buffer_words ≤ length a) (head : level a 0 ≡ 8) where
  pub head_enterable : Enterable a 0 (replicate 9 0)
  head_enterable = record { has = omega arith; nine = refl; none = refl }

  pub walking_start : (row : List Laid) (e₀ e s : List ℕ) (next : ℕ) → length row ≡ most_sizes → length e₀ ≡ 8 → Passed a 0 e₀ e → Suffixes (adjust a 0) s → next ≡ word a 0 3 → Walking a row e s next 0 0 None
  unfolding last_with last_of held
  walking_start row e₀ e s next row_long eight links entered next_is =
      record {
        passed = [];
        long = long;
        few = omega arith;
        counted = refl;
        due_long = links.long ∙ eight;
        first = sym next_is;
        dues = dues_first a e₀ e head links;
        sums = sums_first a s entered;
        down = lazy_rest a head;
        up = rest_lazy a head;
        last_is = refl;
        row_long = row_long;
        lies = record { at = λ i d h. absurd (omega arith) };
      }

module _ (a : List ℕ) (row : List Laid) (e s : List ℕ) (next last count : ℕ) (before : Option Laid) (w : Walking a row e s next last count before) where
  module _ (more : next ≡ 0 → ⊥) where
    -- Where the arena holds a list, the walk may meet one record more,
    room : (l : List Recorded) → lazy_list a ≡ taken l → count < 512
    room l t =
        let k = w.down l t in
        lt_or_ge count 512 (λ h. h)
        (λ h.
        let none : 512 - count ≡ 0 = omega arith in
        absurd
        (rest_full a (512 - count) w.passed before k.0 (λ n. more (sym w.first ∙ n))
        (subst (λ (n : ℕ). Rest a n w.passed before k.0) none k.1)))

    left : count < 512 → 512 - count ≡ suc (512 - (count + 1))
    left h = omega arith

    -- and the record that is due can come next.
    met_next : (l : List Recorded) → lazy_list a ≡ taken l → Turn a (512 - (count + 1)) w.passed before next
    met_next l t =
        let k = w.down l t in
        turn a (512 - (count + 1)) w.passed before next w.first more k.0
        (subst (λ (n : ℕ). Rest a n w.passed before k.0) (left (room l t)) k.1)

    pub walk_barred : (b : Bool) → Decides b (Stands a count last next) → b ≡ false → LaidOut (lazy_list a) row (refused LazyList)
    walk_barred b d h =
        no_list a row
        (λ l t.
        let meets = (met_next l t).meets in
        refuted b (Stands a count last next) d h
        (record {
          room = room l t;
          few = meets.few;
          behind = meets.behind ∙ sym w.last_is;
          some = meets.some;
          most = meets.most;
        }))

    -- What the calls on the record ask for.
    pub walk_summable : (b : Bool) → Decides b (Stands a count last next) → b ≡ true → Summable a next s
    walk_summable b d h =
        let stands = decided b (Stands a count last next) d h in
        let few = stands.few in
        let long = w.long in
        record { has = omega arith; low = stands.some; high = stands.most; nine = w.sums.nine }

    pub walk_undue : (b : Bool) → Decides b (Are e (level a next) next) → b ≡ false → LaidOut (lazy_list a) row (refused LazyList)
    unfolding Are
    walk_undue b d h =
        no_list a row
        (λ l t.
        let meets = (met_next l t).meets in
        let most = meets.most in
        refuted b (Are e (level a next) next) d h (λ k low high. w.dues k low (omega arith) ∙ meets.links k high))

    module _ (x : Laid) (has_m : x.m ≡ m_word a next) (has_p : TrueP a next s x.p) where
      true_ps : x.p ≡ true_p a 0 w.passed next
      unfolding true_p p_under
      true_ps = has_p (passed_sums a 0 w.passed) w.sums

      came : x ≡ come a w.passed next
      came = rw (has_m, true_ps) refl

      meets_follows : Meets a w.passed before next → Follows before x
      meets_follows z = subst (Follows before) (sym came) z.follows

      pub walk_unordered : (b : Bool) → Decides b (Follows before x) → b ≡ false → LaidOut (lazy_list a) row (refused LazyList)
      walk_unordered b d h =
          no_list a row
          (λ l t. refuted b (Follows before x) d h (meets_follows (met_next l t).meets))

      -- The turn: the record is passed, and what is left is one record less.
      module _ (stands : Stands a count last next) (follows : Follows before x) (named : Are e (level a next) next) where
        abbrev longer : List ℕ
        longer = w.passed ++ (next ∷ [])

        meets : Meets a w.passed before next
        unfolding Are
        meets =
            let most = stands.most in
            let t = true_ps in
            record {
              few = stands.few;
              behind = stands.behind ∙ w.last_is;
              some = stands.some;
              most = most;
              links =
                  λ k h. lt_or_ge 0 k (λ low. sym (w.dues k low (omega arith)) ∙ named k low h)
                  (λ low. let none : 0 ≡ k = omega arith in subst (λ (i : ℕ). due a w.passed i ≡ next) none w.first);
              follows = subst (Follows before) came follows;
            }

        same_item : size (m_word a next) (true_p a 0 w.passed next) ≡ size x.m x.p
        same_item = rw (has_m, true_ps)

        down_on : (l : List Recorded) → lazy_list a ≡ taken l → (rs : List ℕ) × Rest a (512 - (count + 1)) longer (Some x) rs
        down_on l t = let k = met_next l t in (k.rest, rw (has_m, true_ps) k.after)

        up_on : (rs : List ℕ) → Rest a (512 - (count + 1)) longer (Some x) rs → lazy_list a ≡ taken (held a 0 [] (longer ++ rs))
        up_on rs k =
            let back = turn_back a (512 - (count + 1)) w.passed before next w.first more rs meets (rw (has_m, true_ps) at k) in
            w.up (next ∷ rs) (subst (λ (n : ℕ). Rest a n w.passed before (next ∷ rs)) (sym (left stands.room)) back)
            ∙ ap (λ (l : List ℕ). taken (held a 0 [] l)) (sym (append_assoc w.passed (next ∷ []) rs))

        longer_held : items (held a 0 [] longer) ≡ items (held a 0 [] w.passed) ++ (size x.m x.p ∷ [])
        longer_held =
            ap items (held_more a [] w.passed next)
            ∙ map-append (λ (r : Recorded). r.item) (held a 0 [] w.passed) (item_of a w.passed next ∷ [])
            ∙ ap (λ (z : Item). items (held a 0 [] w.passed) ++ (z ∷ [])) same_item

        lies_on : Lies (items (held a 0 [] longer)) (set row count x)
        lies_on =
            let room = stands.room in
            let long = w.row_long in
            let size_is : length (items (held a 0 [] w.passed)) ≡ count = size_items a w.passed ∙ w.counted in
            rw longer_held (lies_more (items (held a 0 [] w.passed)) row count x size_is (omega arith) w.lies)

        module _ (e₂ s₂ : List ℕ) (links : Passed a next e e₂) (renewed : Renewed a next s s₂) where
          pub walk_on : (onward : ℕ) → onward ≡ word a next 3 → Walking a (set row count x) e₂ s₂ onward next (count + 1) (Some x)
          walk_on onward onward_is =
              let room = stands.room in
              record {
                passed = longer;
                long = w.long;
                few = omega arith;
                counted = length-append w.passed (next ∷ []) ∙ ap (λ (n : ℕ). n + 1) w.counted;
                due_long = links.long ∙ w.due_long;
                first = due_here a w.passed 0 next stands.some ∙ sym onward_is;
                dues = dues_more a next w.passed e e₂ w.dues links;
                sums = sums_more a next w.passed s₂ (renewed (passed_sums a 0 w.passed) w.sums);
                down = down_on;
                up = up_on;
                last_is = sym (last_of_more 0 w.passed next);
                row_long = length-set row count x ∙ w.row_long;
                lies = lies_on;
              }

  module _ (over : next ≡ 0) where
    -- The head's back word is the last record passed,
    pub walk_unturned : (v : ℕ) → v ≡ back a 0 → (v ≡ last → ⊥) → LaidOut (lazy_list a) row (refused LazyList)
    walk_unturned v v_is h =
        no_list a row
        (λ l t.
        let k = w.down l t in
        let behind = rest_back a (512 - count) w.passed before k.0 (w.first ∙ over) k.1 in
        h (v_is ∙ behind ∙ sym w.last_is))

    -- and no link is due.
    pub walk_loose : (b : Bool) → Decides b (Are e 8 0) → b ≡ false → LaidOut (lazy_list a) row (refused LazyList)
    unfolding Are
    walk_loose b d h =
        no_list a row
        (λ l t.
        let k = w.down l t in
        let none = rest_over a (512 - count) w.passed before k.0 (w.first ∙ over) k.1 in
        refuted b (Are e 8 0) d h (λ i low high. w.dues i low high ∙ none i high))

    module _ (b : Bool) (ends : Decides b (Are e 8 0)) (all : b ≡ true) where
      none_left : (k : ℕ) → k < 8 → due a w.passed k ≡ 0
      unfolding Are
      none_left k h =
          lt_or_ge 0 k (λ low. sym (w.dues k low h) ∙ decided b (Are e 8 0) ends all k low h)
          (λ low. let none : 0 ≡ k = omega arith in subst (λ (i : ℕ). due a w.passed i ≡ 0) none (w.first ∙ over))

      holds : back a 0 ≡ last_of 0 w.passed → lazy_list a ≡ taken (held a 0 [] w.passed)
      holds behind =
          w.up [] (rest_none a (512 - count) w.passed before none_left behind)
          ∙ ap (λ (l : List ℕ). taken (held a 0 [] l)) (append-nil w.passed)

      size_held : length (held a 0 [] w.passed) ≡ count
      size_held = held_length a 0 [] w.passed ∙ w.counted

      pub walk_laid : (v : ℕ) → v ≡ back a 0 → v ≡ last → LaidOut (lazy_list a) row (taken count)
      walk_laid v v_is h =
          list_laid a row (held a 0 [] w.passed) count (holds (sym v_is ∙ h ∙ w.last_is)) size_held w.few w.lies
