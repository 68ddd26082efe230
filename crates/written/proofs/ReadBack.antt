-- What a tree is written as is read as that tree, entry by entry.
-- Each gauge puts itself on the stack and each join takes its two parts off it, so a part's entries leave that part on what was there before.
use mathlib.Core.Path.{◌≡◌, refl, sym, ap, subst, ◌∙◌}
use mathlib.Core.Bool.{true}
use mathlib.Core.List.{List, [], ◌∷◌, ◌++◌, append_assoc, Memᴰ}
use Prim.Native.Nat.{ℕ, zero, suc, ◌+◌, ◌*◌, ◌≤◌, ◌<◌}
use native.Mathlib.Nat.{zero-add, suc-add, mul-add}
use native.Mathlib.Omega.{arith}
use lib.ListN.{length, drop, length-append}
use lib.Seq.{drop_at}
use borrow.Author.Tests.{le-leb, lt-ltb, ne_eqb}
use Rattle.checks.specs.Answer.{Answer, taken, next}
use Rattle.checks.proofs.Answers.{next_same, next_next}
use Rattle.slicing.specs.Item.{Item}
use Rattle.slicing.specs.Tree.{Tree, gauge, beside, stacked, gauge_count, size_count}
use Rattle.slicing.specs.Good.{Limited, GoodGauge, Good}
use Rattle.slicing.proofs.Counts.{gauges_joined, sizes_joined}
use Rattle.sizes.specs.Rules.{Rules}
use Rattle.sizes.specs.GaugeSizes.{in_order, sizes_after, sizes_from}
use Rattle.sizes.proofs.SizeChecks.{within_of}
use Rattle.sizes.proofs.GoodSizes.{limited_of}
use Rattle.entries.specs.Entry.{State, gauge_sizes, gauge_entry, join_parts, join_entry, kind_entry, entry, entries}
use Rattle.entries.specs.inside.Kinds.{Cut, cut_beside, cut_stacked}
use Rattle.entries.proofs.Took.{state}
use Rattle.written.specs.EntriesOf.{entries_of, entry_count}

-- By the rules, sizes that are coded as `code` says are read as they are, in any order.
pub record Codes (rules : Rules) (code : List Item → List ℕ) : Type 0 where
  pub any_order : rules.version ≡ 1 → ⊥
  pub long : (s : List Item) → length (code s) ≡ rules.step * length s
  pub first : (z : Item) (s : List Item) (rest : List ℕ) → rules.size_of (code (z ∷ s) ++ rest) ≡ z
  pub after : (z : Item) (s : List Item) (rest : List ℕ) → drop rules.step (code (z ∷ s) ++ rest) ≡ code s ++ rest

-- A run of entries and a run after it.
entries_add : (rules : Rules) (j k : ℕ) (s : State) → entries rules (j + k) s ≡ next (entries rules j s) (entries rules k)
unfolding entries
entries_add rules zero k s = ap (λ (n : ℕ). entries rules n s) (zero-add k)
entries_add rules (suc j) k s =
    ap (λ (n : ℕ). entries rules n s) (suc-add j k)
    ∙ next_same (entry rules s) (entries rules (j + k)) (λ u. next (entries rules j u) (entries rules k)) (entries_add rules j k)
    ∙ sym (next_next (entry rules s) (entries rules j) (entries rules k))

module _ (rules : Rules) (code : List Item → List ℕ) (codes : Codes rules code) where
  -- How long a tree's entries are.
  abbrev Long : Tree → ℕ → Type 0
  Long t n = n ≡ entry_count t + gauge_count t + rules.step * size_count t

  joined_long : (kind : ℕ) (a b : Tree) → Long a (length (entries_of code a)) → Long b (length (entries_of code b)) → Long (beside a b) (length (entries_of code a ++ (entries_of code b ++ (kind ∷ []))))
  joined_long kind a b long_a long_b =
      let sizes : rules.step * size_count (beside a b) ≡ rules.step * size_count a + rules.step * size_count b = ap (λ (n : ℕ). rules.step * n) (sizes_joined a b) ∙ mul-add rules.step (size_count a) (size_count b) in
      let all = length-append (entries_of code a) (entries_of code b ++ (kind ∷ [])) in
      let last = length-append (entries_of code b) (kind ∷ []) in
      omega (arith, gauges_joined a b)

  pub entries_long : (t : Tree) → length (entries_of code t) ≡ entry_count t + gauge_count t + rules.step * size_count t
  entries_long (gauge s) = omega (arith, codes.long s)
  entries_long (beside a b) = joined_long 0x02 a b (entries_long a) (entries_long b)
  entries_long (stacked a b) = joined_long 0x03 a b (entries_long a) (entries_long b)

  free : (y z : Item) → in_order rules y z ≡ true
  free y z = simp (ne_eqb rules.version 1 codes.any_order)

  after_read : (y : Item) (s : List Item) (rest : List ℕ) → ((z : Item) → Memᴰ z s → Limited z) → sizes_after rules y (length s) (code s ++ rest) ≡ taken s
  unfolding sizes_after
  after_read y [] rest l = refl
  after_read y (z ∷ s) rest l =
      rw (codes.first z s rest, codes.after z s rest)
      (simp (limited_of z (l z (Memᴰ.head refl)), free y z, after_read z s rest (λ x i. l x (Memᴰ.tail i))))

  sizes_read : (s : List Item) (rest : List ℕ) → ((z : Item) → Memᴰ z s → Limited z) → sizes_from rules (length s) (code s ++ rest) ≡ taken s
  unfolding sizes_from
  sizes_read [] rest l = refl
  sizes_read (z ∷ s) rest l =
      rw (codes.first z s rest, codes.after z s rest)
      (simp (limited_of z (l z (Memᴰ.head refl)), after_read z s rest (λ x i. l x (Memᴰ.tail i))))

  gauge_sizes_read : (s : List Item) (rest : List ℕ) (parts : List Tree) (g : ℕ) → GoodGauge s → gauge_sizes rules (length s) (state (code s ++ rest) parts g) ≡ taken (state rest (gauge s ∷ parts) (g + 1))
  unfolding gauge_sizes
  gauge_sizes_read s rest parts g h =
      let long = codes.long s in
      let present : rules.step * length s ≤ length (code s ++ rest) = omega (arith, length-append (code s) rest) in
      simp (
        within_of 1 8 (length s) h.some h.few,
        le-leb (rules.step * length s) (length (code s ++ rest)) present,
        sizes_read s rest h.limited,
        drop_at (code s) rest (rules.step * length s) long,
      )

  gauge_read : (s : List Item) (rest : List ℕ) (parts : List Tree) (g : ℕ) → GoodGauge s → g < 64 → entry rules (state (entries_of code (gauge s) ++ rest) parts g) ≡ taken (state rest (gauge s ∷ parts) (g + 1))
  unfolding entry kind_entry gauge_entry
  gauge_read s rest parts g h few =
      let n = length (code s ++ rest) in
      simp (
        lt-ltb 0 (suc (suc n)) (omega arith),
        lt-ltb 0 (suc n) (omega arith),
        lt-ltb g 64 few,
        gauge_sizes_read s rest parts g h,
      )

  join_read : (kind : ℕ) (cut : Tree → Tree → Tree) (rest : List ℕ) (a b : Tree) (parts : List Tree) (g : ℕ) → Cut kind cut → entry rules (state (kind ∷ rest) (b ∷ a ∷ parts) g) ≡ taken (state rest (cut a b ∷ parts) g)
  unfolding entry kind_entry join_entry join_parts
  join_read kind cut rest a b parts g cut_beside = simp (lt-ltb 0 (suc (length rest)) (omega arith))
  join_read kind cut rest a b parts g cut_stacked = simp (lt-ltb 0 (suc (length rest)) (omega arith))

  -- From any state, so many entries of this code put a tree of so many gauges on the stack.
  abbrev PutsAs : Tree → ℕ → List ℕ → ℕ → Type 0
  PutsAs t count coded gauges =
      (rest : List ℕ) (parts : List Tree) (g : ℕ) → g + gauges ≤ 64 → entries rules count (state (coded ++ rest) parts g) ≡ taken (state rest (t ∷ parts) (g + gauges))

  abbrev Puts : Tree → Type 0
  Puts t = PutsAs t (entry_count t) (entries_of code t) (gauge_count t)

  puts_join : (kind : ℕ) (cut : Tree → Tree → Tree) (a b : Tree) → Cut kind cut → Puts a → Puts b → PutsAs (cut a b) (entry_count a + (entry_count b + 1)) (entries_of code a ++ (entries_of code b ++ (kind ∷ []))) (gauge_count a + gauge_count b)
  unfolding entries
  puts_join kind cut a b c put_a put_b rest parts g few =
      let g_a = g + gauge_count a in
      let after_a = entries_of code b ++ (kind ∷ rest) in
      let parted : (entries_of code a ++ (entries_of code b ++ (kind ∷ []))) ++ rest ≡ entries_of code a ++ after_a = simp append_assoc in
      let all : g_a + gauge_count b ≡ g + (gauge_count a + gauge_count b) = omega arith in
      ap (λ (l : List ℕ). entries rules (entry_count a + (entry_count b + 1)) (state l parts g)) parted
      ∙ entries_add rules (entry_count a) (entry_count b + 1) (state (entries_of code a ++ after_a) parts g)
      ∙ ap (λ (x : Answer State). next x (entries rules (entry_count b + 1))) (put_a after_a parts g (omega arith))
      ∙ entries_add rules (entry_count b) 1 (state after_a (a ∷ parts) g_a)
      ∙ ap (λ (x : Answer State). next x (entries rules 1)) (put_b (kind ∷ rest) (a ∷ parts) g_a (omega arith))
      ∙ ap (λ (x : Answer State). next x (entries rules 0)) (join_read kind cut rest a b parts (g_a + gauge_count b) c)
      ∙ ap (λ (n : ℕ). taken (state rest (cut a b ∷ parts) n)) all

  pub tree_puts : (t : Tree) → Good t → Puts t
  unfolding entries
  tree_puts (gauge s) h =
      λ rest parts g few. ap (λ (x : Answer State). next x (entries rules 0)) (gauge_read s rest parts g h (omega arith))
  tree_puts (beside a b) h =
      subst (PutsAs (beside a b) (entry_count (beside a b)) (entries_of code (beside a b))) (sym (gauges_joined a b))
      (puts_join 0x02 beside a b cut_beside (tree_puts a h.0) (tree_puts b h.1))
  tree_puts (stacked a b) h =
      subst (PutsAs (stacked a b) (entry_count (stacked a b)) (entries_of code (stacked a b))) (sym (gauges_joined a b))
      (puts_join 0x03 stacked a b cut_stacked (tree_puts a h.0) (tree_puts b h.1))
