-- What the reader does at an entry is what the definition says of the state that its cursor stands for: a law for each way out of each function.
-- Each question of the definition is answered by the test that the code made, since the cursor has the state's bytes and counts.
use mathlib.Core.Path.{◌≡◌, refl, sym, ap, ◌∙◌}
use mathlib.Core.Bool.{Bool, true, false, not}
use mathlib.Core.Logic.{◌⊎◌, inl, inr}
use mathlib.Core.List.{List, [], ◌∷◌}
use Prim.Native.Nat.{ℕ, ◌+◌, ◌-◌, ◌*◌, ◌≤◌, ◌<◌}
use native.Mathlib.Nat.{add-zero}
use native.Mathlib.Omega.{arith}
use lib.ListN.{length, get_or, drop, length-drop, length-append}
use lib.Dec.{ltb}
use lib.Seq.{drop-drop, get_or-drop}
use borrow.Author.Tests.{le-leb, lt-leb, lt-ltb, le-ltb, ltb-true, ltb-false, not-true, not-false}
use Rattle.checks.specs.declared.Check.{Check}
use Rattle.checks.specs.declared.Check.TheVariants.{SizeCount, Present, Gauges, Join}
use Rattle.checks.specs.Answer.{Answer, refused, taken, next, Asked}
use Rattle.checks.proofs.Answers.{not_both, same_taken, ask_taken}
use Rattle.slicing.specs.Item.{Item}
use Rattle.slicing.specs.Tree.{Tree, gauge, beside, stacked, gauges_of, sizes_of}
use Rattle.entries.specs.declared.Cursor.{Cursor}
use Rattle.entries.specs.declared.kinds.Kind.{Kind}
use Rattle.entries.specs.declared.kinds.Kind.TheVariants.{Gauge, Beside, Stacked}
use Rattle.sizes.specs.Rules.{Rules}
use Rattle.sizes.specs.GaugeSizes.{within, sizes_from}
use Rattle.entries.specs.Entry.{State, skip, gauge_taken, gauge_sizes, gauge_entry, join_parts, join_entry, kind_entry, entry}
use Rattle.entries.specs.inside.Tracking.{flat, Fair, Tracks, Follows, Does, advance, unit_at}
use Rattle.entries.specs.inside.Kinds.{kind_numbered, Cut}
use Rattle.sizes.proofs.SizeChecks.{within_true, same_refused, asked_refused, asked_taken}
use Rattle.sizes.specs.inside.Sizes.{asked}
use Rattle.entries.proofs.KindLaws.{number_is, kind_unknown}
use Rattle.entries.proofs.Took.{state}
use Rattle.sizes.proofs.GoodSizes.{sizes_taken as taken_sizes}
use Rattle.entries.proofs.Stacks.{join_flat, gauges_join, sizes_join}

follows_stop : (file : List ℕ) (a : Answer State) (k : Check) → a ≡ refused k → Follows file a (refused k)
follows_stop file a k e = rw e refl

follows_next : (file : List ℕ) (a : Answer State) (s : State) (c : Cursor) → a ≡ taken s → Fair file c → Tracks file c s → Follows file a (taken c)
follows_next file a s c e f t = rw e (f, t)

-- The state some bytes on, for the cursor as many bytes on.
tracks_skip : (file : List ℕ) (c : Cursor) (s : State) (k : ℕ) → Tracks file c s → Tracks file (advance c k) (skip k s)
tracks_skip file c s k t =
    record {
      rest = ap (drop k) t.rest ∙ drop-drop k c.at file;
      parts = t.parts;
      gauges = t.gauges;
      gauge_total = t.gauge_total;
      size_total = t.size_total;
    }

fair_on : (file : List ℕ) (c : Cursor) → Fair file c → c.at < length file → Fair file (advance c 1)
fair_on file c f h =
    record { inside = omega arith; parts_few = f.parts_few; gauges_few = f.gauges_few; sizes_few = f.sizes_few }

-- The byte or word n at the cursor, and the cursor d after it.
pub record UnitRead (file : List ℕ) (c : Cursor) (n : ℕ) (d : Cursor) : Type 0 where
  pub present : c.at < length file
  pub is : n ≡ get_or file c.at 0
  pub after : d ≡ advance c 1

pub unit_read : (file : List ℕ) (c d : Cursor) (n : ℕ) → taken (n, d) ≡ unit_at file c → UnitRead file c n d
unit_read file c d n e =
    let passed = ask_taken (ltb c.at (length file)) Present (taken (get_or file c.at 0, advance c 1)) (n, d) (sym e) in
    let same = same_taken (get_or file c.at 0, advance c 1) (n, d) passed.1 in
    record {
      present = ltb-true c.at (length file) passed.0;
      is = sym (ap (λ (x : ℕ × Cursor). x.0) same);
      after = sym (ap (λ (x : ℕ × Cursor). x.1) same);
    }

pub unit_lacks : (file : List ℕ) (c : Cursor) (e : Check) → refused e ≡ unit_at file c → (length file ≤ c.at) × (e ≡ Present)
unit_lacks file c e h = by (ltb c.at (length file)) refl
  where
    by : (b : Bool) → ltb c.at (length file) ≡ b → (length file ≤ c.at) × (e ≡ Present)
    by true p = absurd (not_both {A = ℕ × Cursor} e _ (rw p at h))
    by false p = (ltb-false c.at (length file) p, same_refused {A = ℕ × Cursor} e Present (rw p at h))

pub fair_next : (file : List ℕ) (c d : Cursor) (n : ℕ) → Fair file c → UnitRead file c n d → Fair file d
fair_next file c d n f u = let h = u.present in rw u.after (fair_on file c f h)

pub few_next : (file : List ℕ) (c d : Cursor) (n : ℕ) → c.gauges < 64 → UnitRead file c n d → d.gauges < 64
few_next file c d n h u = rw u.after h

left : (file : List ℕ) (c : Cursor) (s : State) → Tracks file c s → length s.rest ≡ length file - c.at
left file c s t = ap length t.rest ∙ length-drop c.at file

first : (file : List ℕ) (c : Cursor) (s : State) → Tracks file c s → get_or s.rest 0 0 ≡ get_or file c.at 0
first file c s t = ap (λ (l : List ℕ). get_or l 0 0) t.rest ∙ get_or-drop c.at file 0 0 ∙ ap (λ (n : ℕ). get_or file n 0) (add-zero c.at)

-- The count of sizes, tested by b.
pub in_range : (count : ℕ) (b : Bool) → b ≡ within 1 8 count → not b ≡ false → (1 ≤ count) × (count ≤ 8)
in_range count b e h = within_true 1 8 count (sym e ∙ not-false b h)

-- The sizes of a gauge, each of which takes so many bytes or words.
module _ (rules : Rules) (file : List ℕ) (c : Cursor) (count : ℕ) where
  pub sizes_count : (b : Bool) → b ≡ within 1 8 count → not b ≡ true → Does (gauge_sizes rules count) file c (refused SizeCount)
  unfolding Does gauge_sizes
  sizes_count b e h s t =
      let outside : within 1 8 count ≡ false = sym e ∙ not-true b h in
      follows_stop file (gauge_sizes rules count s) SizeCount (simp outside)

  module _ (b : Bool) (range : b ≡ within 1 8 count) (good : not b ≡ false) where
    inside : within 1 8 count ≡ true
    inside = sym range ∙ not-false b good

    sizes_short : length file - c.at < rules.step * count → Does (gauge_sizes rules count) file c (refused Present)
    unfolding Does gauge_sizes
    sizes_short h s t =
        let few : length s.rest < rules.step * count = omega (arith, left file c s t) in
        follows_stop file (gauge_sizes rules count s) Present (simp (inside, lt-leb (rules.step * count) (length s.rest) few))

    -- What checks 8 and 9 on the sizes answer, as the code has it.
    module _ (present : rules.step * count ≤ length file - c.at) (r : Asked) (checked : r ≡ asked (sizes_from rules count (drop c.at file))) where
      sized : (s : State) → Tracks file c s → gauge_sizes rules count s ≡ next (sizes_from rules count s.rest) (gauge_taken (skip (rules.step * count) s))
      unfolding gauge_sizes
      sized s t =
          let enough : rules.step * count ≤ length s.rest = omega (arith, left file c s t) in
          simp (inside, le-leb (rules.step * count) (length s.rest) enough)

      at_rest : (s : State) → Tracks file c s → r ≡ asked (sizes_from rules count s.rest)
      at_rest s t = checked ∙ ap (λ (l : List ℕ). asked (sizes_from rules count l)) (sym t.rest)

      sizes_bad : (e : Check) → r ≡ refused e → Does (gauge_sizes rules count) file c (refused e)
      unfolding Does
      sizes_bad e h s t =
          follows_stop file (gauge_sizes rules count s) e
          (sized s t ∙ ap (λ (a : Answer (List Item)). next a (gauge_taken (skip (rules.step * count) s))) (asked_refused (sizes_from rules count s.rest) e (sym (at_rest s t) ∙ h)))

      sizes_taken : Fair file c → c.gauges < 64 → (u : Unit {0}) → r ≡ taken u → Does (gauge_sizes rules count) file c (taken (record { at = c.at + rules.step * count; parts = c.parts + 1; gauges = c.gauges + 1; sizes = c.sizes + count }))
      unfolding Does
      sizes_taken f few u h s t =
          let passed = asked_taken (sizes_from rules count s.rest) u (sym (at_rest s t) ∙ h) in
          let zs = passed.0 in
          let gauges = length-append (flat gauges_of s.stack) (zs ∷ []) in
          let sizes = length-append (flat sizes_of s.stack) zs in
          let counts = in_range count b range good in
          let counted = (taken_sizes rules count s.rest zs counts.0 counts.1 passed.1).as_many in
          follows_next file (gauge_sizes rules count s)
          (record { rest = drop (rules.step * count) s.rest; stack = gauge zs ∷ s.stack; gauges = s.gauges + 1 })
          (record { at = c.at + rules.step * count; parts = c.parts + 1; gauges = c.gauges + 1; sizes = c.sizes + count })
          (sized s t ∙ ap (λ (a : Answer (List Item)). next a (gauge_taken (skip (rules.step * count) s))) passed.1)
          (record { inside = omega (arith, f.inside); parts_few = omega (arith, f.parts_few); gauges_few = omega arith; sizes_few = omega (arith, f.sizes_few) })
          (record {
            rest = (tracks_skip file c s (rules.step * count) t).rest;
            parts = omega (arith, t.parts);
            gauges = omega (arith, t.gauges);
            gauge_total = omega (arith, gauges, t.gauge_total);
            size_total = omega (arith, sizes, counted, t.size_total);
          })

-- The same of a step that the code has asked for.
module _ (rules : Rules) (file : List ℕ) (c : Cursor) (count step : ℕ) (same : step ≡ rules.step) (b : Bool) (range : b ≡ within 1 8 count) (good : not b ≡ false) where
  pub step_short : length file - c.at < step * count → Does (gauge_sizes rules count) file c (refused Present)
  step_short h = sizes_short rules file c count b range good (rw (← same) h)

  module _ (present : step * count ≤ length file - c.at) (r : Asked) (checked : r ≡ asked (sizes_from rules count (drop c.at file))) where
    pub step_bad : (e : Check) → r ≡ refused e → Does (gauge_sizes rules count) file c (refused e)
    step_bad e h = sizes_bad rules file c count b range good (rw (← same) present) r checked e h

    pub step_taken : Fair file c → c.gauges < 64 → (u : Unit {0}) → r ≡ taken u → Does (gauge_sizes rules count) file c (taken (record { at = c.at + step * count; parts = c.parts + 1; gauges = c.gauges + 1; sizes = c.sizes + count }))
    step_taken f few u h = rw same (sizes_taken rules file c count b range good (rw (← same) present) r checked f few u h)

-- A gauge, after its kind.
module _ (rules : Rules) (file : List ℕ) (c : Cursor) where
  pub gauge_many : 64 ≤ c.gauges → Does (gauge_entry rules) file c (refused Gauges)
  unfolding Does gauge_entry
  gauge_many h s t =
      let many : 64 ≤ s.gauges = omega (arith, t.gauges) in
      follows_stop file (gauge_entry rules s) Gauges (simp (le-ltb s.gauges 64 many))

  module _ (few : c.gauges < 64) where
    pub gauge_cut : (e : Check) → refused e ≡ unit_at file c → Does (gauge_entry rules) file c (refused e)
    unfolding Does gauge_entry
    gauge_cut e h s t =
        let lacks = unit_lacks file c e h in
        let none : length s.rest ≤ 0 = omega (arith, lacks.0, left file c s t) in
        let one : s.gauges < 64 = omega (arith, t.gauges) in
        follows_stop file (gauge_entry rules s) e (rw lacks.1 (simp (lt-ltb s.gauges 64 one, le-ltb 0 (length s.rest) none)))

    pub gauge_read : (count : ℕ) (d : Cursor) (r : Answer Cursor) → UnitRead file c count d → Does (gauge_sizes rules count) file d r → Does (gauge_entry rules) file c r
    unfolding Does gauge_entry
    gauge_read count d r u does s t =
        let some : 0 < length s.rest = omega (arith, u.present, left file c s t) in
        let one : s.gauges < 64 = omega (arith, t.gauges) in
        let found : get_or s.rest 0 0 ≡ count = first file c s t ∙ sym u.is in
        simp (lt-ltb s.gauges 64 one, lt-ltb 0 (length s.rest) some, found)
        (does (skip 1 s) (rw u.after (tracks_skip file c s 1 t)))

-- A join, after its kind.
module _ (file : List ℕ) (c : Cursor) (cut : Tree → Tree → Tree) where
  parts_lack : (parts : List Tree) → length parts < 2 → join_parts cut parts ≡ refused Join
  unfolding join_parts
  parts_lack [] h = refl
  parts_lack (b ∷ []) h = refl
  parts_lack (b ∷ a ∷ parts) h = absurd (omega arith)

  pub join_lacks : c.parts < 2 → Does (join_entry cut) file c (refused Join)
  unfolding Does join_entry
  join_lacks h s t =
      follows_stop file (join_entry cut s) Join
      (ap (λ (a : Answer (List Tree)). next a (λ parts. taken (record { rest = s.rest; stack = parts; gauges = s.gauges })))
      (parts_lack s.stack (omega (arith, t.parts))))

  module _ (kind : ℕ) (is_cut : Cut kind cut) (f : Fair file c) (two : 2 ≤ c.parts) where
    joined : (rest : List ℕ) (parts : List Tree) (g : ℕ) → Tracks file c (state rest parts g) → Follows file (join_entry cut (state rest parts g)) (taken (record { at = c.at; parts = c.parts - 1; gauges = c.gauges; sizes = c.sizes }))
    unfolding join_entry join_parts
    joined rest [] g t = absurd (omega (arith, t.parts))
    joined rest (b ∷ []) g t = absurd (omega (arith, t.parts))
    joined rest (b ∷ a ∷ parts) g t = (
      record { inside = f.inside; parts_few = omega (arith, f.parts_few); gauges_few = f.gauges_few; sizes_few = f.sizes_few },
      record {
        rest = t.rest;
        parts = omega (arith, t.parts);
        gauges = t.gauges;
        gauge_total = ap length (join_flat gauges_of gauges_join kind cut a b parts is_cut) ∙ t.gauge_total;
        size_total = ap length (join_flat sizes_of sizes_join kind cut a b parts is_cut) ∙ t.size_total;
      },
    )

    pub join_taken : Does (join_entry cut) file c (taken (record { at = c.at; parts = c.parts - 1; gauges = c.gauges; sizes = c.sizes }))
    unfolding Does
    join_taken s t = joined s.rest s.stack s.gauges t

-- A whole entry.
module _ (rules : Rules) (file : List ℕ) (c : Cursor) where
  pub entry_cut : (e : Check) → refused e ≡ unit_at file c → Does (entry rules) file c (refused e)
  unfolding Does entry
  entry_cut e h s t =
      let lacks = unit_lacks file c e h in
      let none : length s.rest ≤ 0 = omega (arith, lacks.0, left file c s t) in
      follows_stop file (entry rules s) e (rw lacks.1 (simp (le-ltb 0 (length s.rest) none)))

  module _ (n : ℕ) (d : Cursor) (u : UnitRead file c n d) where
    by_kind : (s : State) → Tracks file c s → entry rules s ≡ kind_entry rules n (skip 1 s)
    unfolding entry
    by_kind s t =
        let some : 0 < length s.rest = omega (arith, u.present, left file c s t) in
        let found : get_or s.rest 0 0 ≡ n = first file c s t ∙ sym u.is in
        simp (lt-ltb 0 (length s.rest) some, found)

    pub entry_unknown : (e : Check) → refused e ≡ kind_numbered n → Does (entry rules) file c (refused e)
    unfolding Does
    entry_unknown e k s t =
        follows_stop file (entry rules s) e (by_kind s t ∙ kind_unknown rules n e (skip 1 s) k)

    after : (s : State) → Tracks file c s → Tracks file d (skip 1 s)
    after s t = rw u.after (tracks_skip file c s 1 t)

    pub entry_gauge : (k : Kind) (r : Answer Cursor) → taken k ≡ kind_numbered n → k ≡ Gauge → Does (gauge_entry rules) file d r → Does (entry rules) file c r
    unfolding Does kind_entry
    entry_gauge k r found is does s t =
        rw (by_kind s t, number_is n Gauge (sym found ∙ ap (λ (x : Kind). taken x) is)) (does (skip 1 s) (after s t))

    -- A join, of which the code does the same for both kinds.
    pub entry_join : (k : Kind) (r : Answer Cursor) → taken k ≡ kind_numbered n → (k ≡ Beside) ⊎ (k ≡ Stacked) → Fair file c → (Fair file d → Does (join_entry beside) file d r) → (Fair file d → Does (join_entry stacked) file d r) → Does (entry rules) file c r
    unfolding Does kind_entry
    entry_join k r found (inl is) f as_beside as_stacked s t =
        rw (by_kind s t, number_is n Beside (sym found ∙ ap (λ (x : Kind). taken x) is))
        (as_beside (fair_next file c d n f u) (skip 1 s) (after s t))
    entry_join k r found (inr is) f as_beside as_stacked s t =
        rw (by_kind s t, number_is n Stacked (sym found ∙ ap (λ (x : Kind). taken x) is))
        (as_stacked (fair_next file c d n f u) (skip 1 s) (after s t))
