-- Adding a join to the stored parts: its calls are ready, and what they leave is the join's list and its words in the table, whichever of the two parts is merged first.
-- The two parts stand before it, the merge is written after all lists, and the merge of the two exchanged is the same list.
use mathlib.Core.Path.{◌≡◌, refl, sym, ap, ap₂, subst, ◌∙◌}
use mathlib.Core.Bool.{Bool, true, false, cond, not}
use mathlib.Core.Logic.{◌⊎◌, inl, inr, ⊎_elim}
use mathlib.Core.List.{List, Memᴰ}
use Prim.Native.Nat.{ℕ, ◌+◌, ◌*◌, ◌-◌, ◌^◌, ◌≤◌, ◌<◌}
use native.Mathlib.Omega.{arith}
use lib.Dec.{eqb}
use lib.ListN.{length, get_or}
use Rattle.checks.specs.Limits.{buffer_words}
use Rattle.slicing.specs.Item.{Item}
use Rattle.slicing.specs.Tree.{Tree, gauge_count}
use Rattle.slicing.specs.Good.{Good}
use Rattle.slicing.specs.Merge.{merge}
use Rattle.entries.specs.inside.Kinds.{byte_of, kind_of, across}
use Rattle.packed.specs.inside.Packed.{facing, HasList}
use Rattle.packed.specs.inside.Joining.{merge_of, Joinable, Joined}
use Rattle.packed.specs.declared.stretch.Stretch.{Stretch}
use Rattle.packed.proofs.Merging.{sums_low}
use Rattle.stored.specs.inside.Store.{own_shapes, Entry}
use Rattle.entries.specs.declared.kinds.Kind.{Kind}
use Rattle.entries.specs.declared.kinds.Kind.TheVariants.{Gauge, Beside, Stacked}
use Rattle.stored.specs.declared.table.Part.{Part}
use Rattle.stored.specs.inside.PartWords.{kind_read, part_at, stretch_from, stretch_of, entry_at}
use Rattle.stored.specs.inside.Filling.{Between, Added}
use Rattle.stored.specs.inside.Adding.{JoinRoom, JoinAdded}
use Rattle.stored.proofs.EntryLaws.{entry_added}
use Rattle.stored.proofs.PartLists.{own_merge, own_exchanged, own_low, own_filled, cut_short}

abbrev pub Joins : ℕ → List ℕ → ℕ → ℕ → ℕ → Type 0
Joins gap s e to kind = (cut : Tree → Tree → Tree) × (a : Tree) × (b : Tree) × JoinRoom gap s e to kind cut a b

-- The parts i and j are the two parts of the join e, the newer or the older one first.
abbrev pub TwoParts : ℕ → ℕ → ℕ → ℕ → Type 0
TwoParts e rest i j = ((i ≡ e - 1) × (j ≡ e - 2 * rest)) ⊎ ((i ≡ e - 2 * rest) × (j ≡ e - 1))

-- The parts P and Q are these two, as their words say.
record Pair (s : List ℕ) (e rest : ℕ) (P Q : Part) : Type 0 where
  first : ℕ
  second : ℕ
  two : TwoParts e rest first second
  first_is : P ≡ part_at s first
  second_is : Q ≡ part_at s second

paired : (s : List ℕ) (e rest : ℕ) (O N P Q : Part) → O ≡ part_at s (e - 2 * rest) → N ≡ part_at s (e - 1) → ((P ≡ O) × (Q ≡ N)) ⊎ ((P ≡ N) × (Q ≡ O)) → Pair s e rest P Q
paired s e rest O N P Q o n (inl p) =
    record { first = e - 2 * rest; second = e - 1; two = inr (refl, refl); first_is = p.0 ∙ o; second_is = p.1 ∙ n }
paired s e rest O N P Q o n (inr p) =
    record { first = e - 1; second = e - 2 * rest; two = inl (refl, refl); first_is = p.0 ∙ n; second_is = p.1 ∙ o }

-- A part that a join takes.
record Operand (gap : ℕ) (s : List ℕ) (to i : ℕ) (t : Tree) : Type 0 where
  entry : Entry s i (kind_of t) (gauge_count t) (own_shapes gap t)
  between : Between gap s to i t
  good : Good t

-- Both of them, in the order in which they are merged: the merge is the list of the join.
record Operands (gap : ℕ) (s : List ℕ) (to kind : ℕ) (joined : Tree) (i j : ℕ) : Type 0 where
  first : Tree
  second : Tree
  first_is : Operand gap s to i first
  second_is : Operand gap s to j second
  few : gauge_count first + gauge_count second ≤ 64
  items : to + (length (own_shapes gap first) + length (own_shapes gap second)) ≤ buffer_words
  merge_is : merge gap (facing (across (kind_of first) kind) (own_shapes gap first)) (facing (across (kind_of second) kind) (own_shapes gap second)) ≡ own_shapes gap joined

stretch_is : (f c f' c' : ℕ) (x x' : ℕ) (j : ℕ) → f ≡ f' → c ≡ c' → x ≡ x' → ◌≡◌ {A = Stretch} (record { from = f; count = c; across = across x j }) (record { from = f'; count = c'; across = across x' j })
stretch_is f c f' c' x x' j p q r =
    ap (λ (y : ℕ). record { from = y; count = c; across = across x j }) p
    ∙ ap (λ (y : ℕ). record { from = f'; count = y; across = across x j }) q
    ∙ ap (λ (y : ℕ). record { from = f'; count = c'; across = across y j }) r

-- A word that no kind has runs as a gauge's.
across_read : (n j : ℕ) → across (byte_of (kind_read n)) j ≡ across n j
unfolding across
across_read n j = step (eqb n 0x03) (eqb n 0x02) refl
  where
    step : (b c : Bool) → eqb n 0x03 ≡ b → cond (eqb j 0x03) (not (eqb (byte_of (cond b Stacked (cond c Beside Gauge))) 0x03)) (eqb (byte_of (cond b Stacked (cond c Beside Gauge))) 0x03) ≡ cond (eqb j 0x03) (not (eqb n 0x03)) (eqb n 0x03)
    step true c e = rw e
    step false true e = rw e
    step false false e = rw e

-- The stretch of a part that was read is that of its words.
pub read_stretch : (s : List ℕ) (e : ℕ) (join : Kind) (p : Part) (a : Stretch) → p ≡ part_at s e → a ≡ stretch_from p join → a ≡ stretch_of s e (byte_of join)
read_stretch s e join p a p_is a_is =
    a_is
    ∙ ap (λ (v : Part). stretch_from v join) p_is
    ∙ ap (λ (v : Bool). record { from = get_or s (4 * e) 0; count = get_or s (4 * e + 1) 0; across = v }) (across_read (get_or s (4 * e + 2) 0) (byte_of join))

module _ (gap : ℕ) (s : List ℕ) (e to kind : ℕ) (cut : Tree → Tree → Tree) (a b : Tree) (g : JoinRoom gap s e to kind cut a b) where
  newer : Operand gap s to (e - 1) b
  newer = record { entry = g.newer; between = g.newer_between; good = g.newer_good }

  module _ (rest : ℕ) (r : rest ≡ get_or s (4 * (e - 1) + 3) 0) where
    rest_is : rest ≡ gauge_count b
    rest_is = r ∙ g.newer.gauges_is

    older : Operand gap s to (e - 2 * rest) a
    older =
        subst (λ (n : ℕ). Operand gap s to (e - 2 * n) a) (sym rest_is)
        (record { entry = g.older; between = g.older_between; good = g.older_good })

    operands : (i j : ℕ) → TwoParts e rest i j → Operands gap s to kind (cut a b) i j
    operands i j =
        let few = g.few in
        let items = g.room.items in
        ⊎_elim
        (λ w.
        record {
          first = b;
          second = a;
          first_is = subst (λ (x : ℕ). Operand gap s to x b) (sym w.0) newer;
          second_is = subst (λ (x : ℕ). Operand gap s to x a) (sym w.1) older;
          few = omega arith;
          items = omega arith;
          merge_is = own_exchanged gap kind cut g.is_cut a b g.older_good g.newer_good;
        })
        (λ w.
        record {
          first = a;
          second = b;
          first_is = subst (λ (x : ℕ). Operand gap s to x a) (sym w.0) older;
          second_is = subst (λ (x : ℕ). Operand gap s to x b) (sym w.1) newer;
          few = few;
          items = items;
          merge_is = own_merge gap kind cut g.is_cut a b;
        })

  module _ (i j : ℕ) (h : Operands gap s to kind (cut a b) i j) (A B : Stretch) (A-is : A ≡ stretch_of s i kind) (B-is : B ≡ stretch_of s j kind) where
    abbrev l : List Item
    l = own_shapes gap h.first

    abbrev k : List Item
    k = own_shapes gap h.second

    abbrev A-read : Stretch
    A-read = record { from = get_or s (4 * i) 0; count = get_or s (4 * i + 1) 0; across = across (kind_of h.first) kind }

    abbrev B-read : Stretch
    B-read = record { from = get_or s (4 * j) 0; count = get_or s (4 * j + 1) 0; across = across (kind_of h.second) kind }

    A-own : A ≡ A-read
    A-own = A-is ∙ stretch_is _ _ _ _ _ _ kind refl refl h.first_is.entry.kind_is

    B-own : B ≡ B-read
    B-own = B-is ∙ stretch_is _ _ _ _ _ _ kind refl refl h.second_is.entry.kind_is

    -- No item of a part is wider or higher than its gauges and the ribs between them.
    low_p : (t : Tree) → Good t → (z : Item) → Memᴰ z (facing (across (kind_of t) kind) (own_shapes gap t)) → z.p ≤ 1_020 * gauge_count t - 20
    low_p t good z inside = let low = own_low gap kind cut g.is_cut t g.narrow good z inside in omega arith

    joinable : Joinable gap s A B to l k
    joinable =
        let c = h.first_is.entry.count_is in
        let d = h.second_is.entry.count_is in
        let x = h.first_is.between in
        let y = h.second_is.between in
        subst (λ (v : Stretch). Joinable gap s A v to l k) (sym B-own)
        (subst (λ (u : Stretch). Joinable gap s u B-read to l k) (sym A-own)
        (record {
          older = h.first_is.entry.list;
          older_count = c;
          older_some = let filled = own_filled gap h.first h.first_is.good in omega arith;
          older_after = omega arith;
          older_before = omega arith;
          newer = h.second_is.entry.list;
          newer_count = d;
          newer_some = let filled = own_filled gap h.second h.second_is.good in omega arith;
          newer_after = omega arith;
          newer_before = omega arith;
          room = let items = h.items in let long = g.room.long in omega arith;
          low =
              let few = h.few in
              let narrow = g.narrow in
              sums_low A-read B-read l k gap (1_020 * gauge_count h.first - 20) (1_020 * gauge_count h.second - 20) (low_p h.first h.first_is.good) (low_p h.second h.second_is.good) (omega arith);
        }))

    merge_is : merge_of gap A B l k ≡ own_shapes gap (cut a b)
    merge_is = ap₂ (λ (u v : Stretch). merge_of gap u v l k) A-own B-own ∙ h.merge_is

    module _ (z : List ℕ) (count : ℕ) (made : Joined gap s A B to l k z count) where
      join_count : count ≡ length (own_shapes gap (cut a b))
      join_count = made.count_is ∙ ap length merge_is

      join_added : (gauges : ℕ) → gauges ≡ gauge_count a + gauge_count b → (v : List ℕ) → v ≡ entry_at z e to count kind gauges → Added s v e to kind (gauge_count a + gauge_count b) (own_shapes gap (cut a b))
      join_added gauges total v stored =
          let long = g.room.long in
          let same = made.length_kept in
          let few = g.room.part in
          subst (λ (n : ℕ). Added s v e to kind n (own_shapes gap (cut a b))) total
          (subst (λ (x : List ℕ). Added s x e to kind gauges (own_shapes gap (cut a b))) (sym stored)
          (entry_added z e to count kind gauges (omega arith) s (own_shapes gap (cut a b)) few g.room.from join_count
          (subst (λ (x : List Item). HasList z to x) merge_is made.list) same made.before_kept))

-- The function's calls, and its way out.
module _ (gap : ℕ) (s : List ℕ) (e to : ℕ) (join : Kind) (N : Part) (n : N ≡ part_at s (e - 1)) where
  abbrev kind : ℕ
  kind = byte_of join

  abbrev rest : ℕ
  rest = N.gauges

  rest_read : rest ≡ get_or s (4 * (e - 1) + 3) 0
  rest_read = ap (λ (p : Part). p.gauges) n

  -- The newer part stands in the table, and the older one before all entries of it.
  pub join_newer : Joins gap s e to kind → (1 ≤ e) × (4 * (e - 1) + 3 < length s)
  join_newer p =
      let g = p.3 in
      let long = g.room.long in
      let few = g.newer.inside in
      (g.newer_before, omega arith)

  pub join_older : Joins gap s e to kind → (2 * rest ≤ e) × (4 * (e - 2 * rest) + 3 < length s)
  join_older p =
      let g = p.3 in
      let long = g.room.long in
      let few = g.room.part in
      let gauges = rest_is gap s e to kind p.0 p.1 p.2 g rest rest_read in
      let before = g.older_before in
      (omega arith, omega arith)

  module _ (O : Part) (o : O ≡ part_at s (e - 2 * rest)) where
    total : (cut : Tree → Tree → Tree) (a b : Tree) → JoinRoom gap s e to kind cut a b → O.gauges + rest ≡ gauge_count a + gauge_count b
    total cut a b g =
        ap₂ ◌+◌ (ap (λ (p : Part). p.gauges) o ∙ (older gap s e to kind cut a b g rest rest_read).entry.gauges_is) (rest_is gap s e to kind cut a b g rest rest_read)

    pub join_gauges : Joins gap s e to kind → O.gauges + rest ≤ 64
    join_gauges p = let few = p.3.few in let all = total p.0 p.1 p.2 p.3 in omega arith

    module _ (P Q : Part) (order : ((P ≡ O) × (Q ≡ N)) ⊎ ((P ≡ N) × (Q ≡ O))) (A B : Stretch) (A-from : A ≡ stretch_from P join) (B-from : B ≡ stretch_from Q join) where
      pair : Pair s e rest P Q
      pair = paired s e rest O N P Q o n order

      abbrev i : ℕ
      i = pair.first

      abbrev j : ℕ
      j = pair.second

      abbrev both : (p : Joins gap s e to kind) → Operands gap s to kind (p.0 p.1 p.2) i j
      both p = operands gap s e to kind p.0 p.1 p.2 p.3 rest rest_read i j pair.two

      A-is : A ≡ stretch_of s i kind
      A-is = read_stretch s i join P A pair.first_is A-from

      B-is : B ≡ stretch_of s j kind
      B-is = read_stretch s j join Q B pair.second_is B-from

      pub join_merges : Joins gap s e to kind → (l : List Item) × (k : List Item) × Joinable gap s A B to l k
      join_merges p = (_, _, joinable gap s e to kind p.0 p.1 p.2 p.3 i j (both p) A B A-is B-is)

      module _ (z : List ℕ) (count : ℕ) (made : (l k : List Item) → Joinable gap s A B to l k → Joined gap s A B to l k z count) where
        join_made : (p : Joins gap s e to kind) → Joined gap s A B to (own_shapes gap (both p).first) (own_shapes gap (both p).second) z count
        join_made p = made _ _ (joinable gap s e to kind p.0 p.1 p.2 p.3 i j (both p) A B A-is B-is)

        as_many : (p : Joins gap s e to kind) → count ≡ length (own_shapes gap (p.0 p.1 p.2))
        as_many p = join_count gap s e to kind p.0 p.1 p.2 p.3 i j (both p) A B A-is B-is z count (join_made p)

        pub join_stores : Joins gap s e to kind → (4 * e + 4 ≤ length z) × (to < 65_536) × (count < 65_536) × (e < 127) × (O.gauges + rest < 2 ^ 32)
        join_stores p =
            let g = p.3 in
            let same = (join_made p).length_kept in
            let long = g.room.long in
            let few = g.room.part in
            let items = g.room.items in
            let n = as_many p in
            let short = cut_short gap kind p.0 g.is_cut p.1 p.2 g.older_good g.newer_good g.few in
            let gauges = join_gauges p in
            (omega arith, omega arith, omega arith, few, omega arith)

        pub join_done : (v : List ℕ) → v ≡ entry_at z e to count kind (O.gauges + rest) → (cut : Tree → Tree → Tree) (a b : Tree) → JoinRoom gap s e to kind cut a b → JoinAdded gap s v e to kind count cut a b
        join_done v stored cut a b g =
            let p : Joins gap s e to kind = (cut, a, b, g) in
            (join_added gap s e to kind cut a b g i j (both p) A B A-is B-is z count (join_made p) (O.gauges + rest) (total cut a b g) v stored, as_many p)
