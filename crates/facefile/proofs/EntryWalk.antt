-- The run of the entries of a taken file: where it begins, which entry comes next and what is left behind it, and where it ends.
-- The reading took the entry that comes, so it is what the bytes there say, and what is left after it still gives the face.
use mathlib.Core.Path.{◌≡◌, refl, sym, ap, ap₂, subst, ◌∙◌}
use mathlib.Core.List.{List, [], ◌∷◌, cons≢nil}
use Prim.Native.Nat.{ℕ, zero, suc, ◌+◌, ◌*◌, ◌/◌, ◌≤◌}
use native.Mathlib.Omega.{arith}
use lib.ListN.{length, take, drop}
use lib.Seq.{drop-drop, get_or-take, length-take-le}
use Rattle.checks.specs.Answer.{Answer, taken, next}
use Rattle.checks.proofs.Answers.{same_taken, next_taken}
use Rattle.slicing.specs.Item.{Item}
use Rattle.slicing.specs.Tree.{Tree, gauge}
use Rattle.slicing.specs.Good.{Ordered}
use Rattle.sizes.specs.Rules.{Rules}
use Rattle.sizes.specs.GaugeSizes.{sizes_from}
use Rattle.sizes.specs.inside.Sizes.{sizes_in}
use Rattle.sizes.proofs.SizesIn.{from_in, in_same}
use Rattle.sizes.proofs.GoodSizes.{sizes_taken}
use Rattle.entries.specs.Entry.{State, entry, entries}
use Rattle.entries.specs.inside.Kinds.{byte_of, kind_numbered, Cut, cut_beside, cut_stacked}
use Rattle.entries.specs.declared.kinds.Kind.{Kind}
use Rattle.entries.specs.declared.kinds.Kind.TheVariants.{Gauge, Beside, Stacked}
use Rattle.entries.proofs.Took.{state, Took, took_gauge, took_join, entry_took, Reads, reads_none, reads_more}
use Rattle.facefile.specs.Format.{rules_of, start, at_end, face_of, header}
use Rattle.facefile.specs.inside.Entries.{Run, Walk, Stands, count_of, gauge_of, GaugeNext, JoinNext}
use Rattle.entries.proofs.KindLaws.{number_is, cut_number, cut_no_gauge, kind_same}
use Rattle.facefile.proofs.Taken.{header_taken, end_taken, end_read}

pub walk_start : (file : List ℕ) (t : Tree) → face_of file ≡ taken t → Walk file t (drop 7 file) []
unfolding face_of entries
walk_start file t e =
    let head = next_taken (header file) (λ count. next (entries (rules_of file) count (start file)) at_end) t e in
    record { means = e; gauges = 0; done = 0; read = refl; left = head.0; gives = head.2 }

pub stands_start : (file : List ℕ) → (t : Tree) × (face_of file ≡ taken t) → Stands (drop 7 file)
stands_start file t = (file, t.0, [], walk_start file t.0 t.1)

pub file_long : (file : List ℕ) → (t : Tree) × (face_of file ≡ taken t) → 7 ≤ length file
unfolding face_of
file_long file t =
    let head = next_taken (header file) (λ count. next (entries (rules_of file) count (start file)) at_end) t.0 t.1 in
    (header_taken file head.0 head.1).0.long

-- One entry more after a run of entries.
pub entries_more : (rules : Rules) (k : ℕ) (s t u : State) → entries rules k s ≡ taken t → entry rules t ≡ taken u → entries rules (suc k) s ≡ taken u
unfolding entries
entries_more rules zero s t u e f =
    ap (λ (x : State). next (entry rules x) (entries rules zero)) (same_taken s t e)
    ∙ ap (λ (a : Answer State). next a (entries rules zero)) f
entries_more rules (suc k) s t u e f =
    let first = next_taken (entry rules s) (entries rules k) t e in
    ap (λ (a : Answer State). next a (entries rules (suc k))) first.1 ∙ entries_more rules k first.0 t u first.2 f

-- The next entry is taken, and what is left after it gives the face.
pub record Taking (rules : Rules) (face : Tree) (s : State) : Type 0 where
  pub after : State
  pub takes : entry rules s ≡ taken after
  pub left : ℕ
  pub gives : next (entries rules left after) at_end ≡ taken face

pub taking : (rules : Rules) (k : ℕ) (face : Tree) (s : State) → next (entries rules k s) at_end ≡ taken face → (s.rest ≡ [] → ⊥) → Taking rules face s
unfolding entries at_end
taking rules zero face s e some = absurd (some (end_taken s.stack s.rest face e).1)
taking rules (suc k) face s e some =
    let all = next_taken (next (entry rules s) (entries rules k)) at_end face e in
    let first = next_taken (entry rules s) (entries rules k) all.0 all.1 in
    record {
      after = first.0;
      takes = first.1;
      left = k;
      gives = ap (λ (a : Answer State). next a at_end) first.2 ∙ all.2;
    }

no_took : {rules : Rules} (s u : State) → Took rules s u → s.rest ≡ [] → ⊥
no_took s u (took_gauge count bytes parts g z few some most present sized) e = cons≢nil e
no_took s u (took_join kind cut bytes a b parts g c) e = cons≢nil e

pub no_entry : {rules : Rules} (k : ℕ) (s f : State) → Reads rules k s f → s.rest ≡ [] → s.stack ≡ f.stack
no_entry k s f (reads_none x) e = refl
no_entry k s f (reads_more j x u y first rest) e = absurd (no_took s u first e)

cut_kind : (k : ℕ) (f : Tree → Tree → Tree) → Cut k f → (kind : Kind) × (kind_numbered k ≡ taken kind)
cut_kind k f cut_beside = (Beside, refl)
cut_kind k f cut_stacked = (Stacked, refl)

no_gauge : (cut : Tree → Tree → Tree) (k : ℕ) → Cut k cut → k ≡ 0x01 → ⊥
no_gauge cut k c e = cut_no_gauge cut (subst (λ (n : ℕ). Cut n cut) e c)

-- A gauge was taken, with so many sizes, of what follows its count.
pub record GaugeRead (rules : Rules) (count : ℕ) (bytes : List ℕ) (s u : State) : Type 0 where
  pub some : 1 ≤ count
  pub few : count ≤ 8
  pub present : rules.step * count ≤ length bytes
  pub sizes : List Item
  pub sized : sizes_from rules count bytes ≡ taken sizes
  pub after : u ≡ state (drop (rules.step * count) bytes) (gauge sizes ∷ s.stack) (s.gauges + 1)

-- A join was taken, of this kind.
record JoinRead (kind : ℕ) (bytes : List ℕ) (s u : State) : Type 0 where
  cut : Tree → Tree → Tree
  older : Tree
  newer : Tree
  rest : List Tree
  is_cut : Cut kind cut
  two : s.stack ≡ newer ∷ older ∷ rest
  after : u ≡ state bytes (cut older newer ∷ rest) s.gauges

-- What a taken entry says of the bytes or words that it had: the first is a kind's, and a gauge's is followed by a count and the sizes.
kind_read : {rules : Rules} (s u : State) → Took rules s u → (first : ℕ) (bytes : List ℕ) → s.rest ≡ first ∷ bytes → (kind : Kind) × (kind_numbered first ≡ taken kind)
kind_read s u (took_gauge count l parts g z few some most present sized) first bytes e =
    let same : 0x01 ≡ first = cc in (Gauge, ap kind_numbered (sym same))
kind_read s u (took_join kind cut l a b parts g c) first bytes e =
    let same : kind ≡ first = cc in
    let n = cut_kind kind cut c in
    (n.0, ap kind_numbered (sym same) ∙ n.1)

count_read : {rules : Rules} (s u : State) → Took rules s u → (bytes : List ℕ) → s.rest ≡ 0x01 ∷ bytes → bytes ≡ [] → ⊥
count_read s u (took_gauge count l parts g z few some most present sized) bytes e none =
    let same : count ∷ l ≡ bytes = cc in cons≢nil (same ∙ none)
count_read s u (took_join kind cut l a b parts g c) bytes e none = let same : kind ≡ 0x01 = cc in no_gauge cut kind c same

gauge_read : {rules : Rules} (s u : State) → Took rules s u → (count : ℕ) (bytes : List ℕ) → s.rest ≡ 0x01 ∷ count ∷ bytes → GaugeRead rules count bytes s u
gauge_read {rules} s u (took_gauge count l parts g z few some most present sized) n bytes e =
    let same : count ≡ n = cc in
    let left : l ≡ bytes = cc in
    record {
      some = omega arith;
      few = omega arith;
      present = subst (λ (k : ℕ). rules.step * k ≤ length bytes) same (subst (λ (x : List ℕ). rules.step * count ≤ length x) left present);
      sizes = z;
      sized = sym (ap₂ (sizes_from rules) same left) ∙ sized;
      after = ap₂ (λ (k : ℕ) (x : List ℕ). state (drop (rules.step * k) x) (gauge z ∷ parts) (g + 1)) same left;
    }
gauge_read s u (took_join kind cut l a b parts g c) n bytes e = let same : kind ≡ 0x01 = cc in absurd (no_gauge cut kind c same)

join_read : {rules : Rules} (s u : State) → Took rules s u → (kind : ℕ) (bytes : List ℕ) → s.rest ≡ kind ∷ bytes → (kind ≡ 0x01 → ⊥) → JoinRead kind bytes s u
join_read s u (took_gauge count l parts g z few some most present sized) kind bytes e other =
    let same : kind ≡ 0x01 = cc in absurd (other same)
join_read s u (took_join first cut l a b parts g c) kind bytes e other =
    let same : first ≡ kind = cc in
    let left : l ≡ bytes = cc in
    record {
      cut = cut;
      older = a;
      newer = b;
      rest = parts;
      is_cut = rw (← same) c;
      two = refl;
      after = ap (λ (x : List ℕ). state x (cut a b ∷ parts) g) left;
    }

-- A kind's number that is neither a gauge's nor that of a stacked join.
beside_left : (n : ℕ) → (kind : Kind) × (kind_numbered n ≡ taken kind) → (n ≡ 0x01 → ⊥) → (n ≡ 0x03 → ⊥) → kind_numbered n ≡ taken Beside
beside_left n (Gauge, is) other not_three = absurd (other (number_is n Gauge is))
beside_left n (Beside, is) other not_three = is
beside_left n (Stacked, is) other not_three = absurd (not_three (number_is n Stacked is))

-- The entry that comes in a run, and the run behind it.
module _ (whole : Answer Tree) (rules : Rules) (begin : State) (face : Tree) (rest : List ℕ) (stack : List Tree) (w : Run whole rules begin face rest stack) where
  abbrev here : State
  here = state rest stack w.gauges

  -- The entries that are left.
  pub run_reads : (last : ℕ) × Reads rules w.left here (state [] (face ∷ []) last)
  run_reads = end_read rules w.left here face w.gives

  -- Where nothing is left, the face is the one part on the stack.
  pub run_end : rest ≡ [] → stack ≡ face ∷ []
  run_end none = let left = run_reads in no_entry w.left here (state [] (face ∷ []) left.0) left.1 none

  module _ (some : rest ≡ [] → ⊥) where
    pub taken_here : Taking rules face here
    taken_here = taking rules w.left face here w.gives some

    took_here : Took rules here taken_here.after
    took_here = entry_took rules rest stack w.gauges taken_here.after taken_here.takes

    pub run_behind : (l : List ℕ) (parts : List Tree) (g : ℕ) → taken_here.after ≡ state l parts g → Run whole rules begin face l parts
    run_behind l parts g e =
        record {
          means = w.means;
          gauges = g;
          done = suc w.done;
          read = entries_more rules w.done begin here (state l parts g) w.read (taken_here.takes ∙ ap taken e);
          left = taken_here.left;
          gives = subst (λ (s : State). next (entries rules taken_here.left s) at_end ≡ taken face) e taken_here.gives;
        }

  module _ (first : ℕ) (bytes : List ℕ) (e : rest ≡ first ∷ bytes) where
    pub some_left : rest ≡ [] → ⊥
    some_left none = cons≢nil (sym e ∙ none)

    pub run_kind : (kind : Kind) × (kind_numbered first ≡ taken kind)
    run_kind = kind_read here (taken_here some_left).after (took_here some_left) first bytes e

    pub run_join : (kind : Kind) → kind_numbered first ≡ taken kind → (kind ≡ Gauge → ⊥) → JoinNext (Run whole rules begin face) stack rest kind bytes
    run_join kind is other =
        let number = number_is first kind is in
        let r = join_read here (taken_here some_left).after (took_here some_left) first bytes e (λ (one : first ≡ 0x01). other (kind_same kind Gauge (sym number ∙ one))) in
        record {
          after = sym (ap (drop 1) e);
          cut = r.cut;
          older = r.older;
          newer = r.newer;
          below = r.rest;
          is_cut = cut_number first r.cut kind r.is_cut number;
          two = r.two;
          walk = run_behind some_left bytes (r.cut r.older r.newer ∷ r.rest) w.gauges r.after;
        }

    -- A join of the one kind or of the other, by its number.
    pub run_stacked : first ≡ 0x03 → JoinNext (Run whole rules begin face) stack rest Stacked bytes
    run_stacked three =
        run_join Stacked (rw three refl) (λ (same : Stacked ≡ Gauge). let number = ap byte_of same in omega arith)

    pub run_beside : (first ≡ 0x01 → ⊥) → (first ≡ 0x03 → ⊥) → JoinNext (Run whole rules begin face) stack rest Beside bytes
    run_beside other not_three =
        run_join Beside (beside_left first run_kind other not_three)
        (λ (same : Beside ≡ Gauge). let number = ap byte_of same in omega arith)

    module _ (is : kind_numbered first ≡ taken Gauge) where
      pub run_count : bytes ≡ [] → ⊥
      run_count = count_read here (taken_here some_left).after (took_here some_left) bytes (rw (← number_is first Gauge is) e)

      pub run_gauge : (count : ℕ) (l : List ℕ) → bytes ≡ count ∷ l → GaugeRead rules count l here (taken_here some_left).after
      run_gauge count l c =
          gauge_read here (taken_here some_left).after (took_here some_left) count l
          (e ∙ ap₂ ◌∷◌ (number_is first Gauge is) c)

-- The gauge that comes in a file, with the bytes of its sizes.
four_times : (n k : ℕ) → n ≡ 4 * k → n / 4 ≡ k
four_times n k e = omega arith

module _ (file : List ℕ) (face : Tree) (stack : List Tree) (rest : List ℕ) (w : Walk file face rest stack) (first : ℕ) (bytes : List ℕ) (e : rest ≡ first ∷ bytes) (is : kind_numbered first ≡ taken Gauge) (count : ℕ) (l : List ℕ) (c : bytes ≡ count ∷ l) where
  read : GaugeRead (rules_of file) count l (state rest stack w.gauges) (taken_here (face_of file) (rules_of file) (start file) face rest stack w (some_left (face_of file) (rules_of file) (start file) face rest stack w first bytes e)).after
  read = run_gauge (face_of file) (rules_of file) (start file) face rest stack w first bytes e is count l c

  pub gauge_present : 4 * count ≤ length l
  gauge_present = read.present

  abbrev own : List ℕ
  own = take (4 * count) l

  own_long : length own ≡ 4 * count
  own_long = length-take-le (4 * count) l gauge_present

  own_count : count_of own ≡ count
  own_count = four_times (length own) count own_long

  own_sizes : read.sizes ≡ sizes_in (count_of own) own
  own_sizes =
      from_in _ count l read.sizes read.sized
      ∙ in_same count l own (λ i less. sym (get_or-take (4 * count) l i 0 less))
      ∙ ap (λ (k : ℕ). sizes_in k own) (sym own_count)

  pub gauge_next : GaugeNext file face stack rest own (drop (4 * count) l)
  gauge_next =
      let r = read in
      let counted = own_count in
      let whole : rest ≡ first ∷ count ∷ l = e ∙ ap (λ (x : List ℕ). first ∷ x) c in
      record {
        own = ap₂ (λ (k : ℕ) (x : List ℕ). take k (drop 2 x)) (sym own_long) (sym whole);
        after = sym (ap₂ (λ (k : ℕ) (x : List ℕ). drop (2 + k) x) own_long whole ∙ sym (drop-drop (4 * count) 2 (first ∷ count ∷ l)));
        sized = own_long ∙ ap (λ (k : ℕ). 4 * k) (sym own_count);
        some = omega arith;
        few = omega arith;
        order = λ asked. subst Ordered own_sizes ((sizes_taken _ count l r.sizes r.some r.few r.sized).order asked);
        walk =
            run_behind (face_of file) (rules_of file) (start file) face rest stack w
            (some_left (face_of file) (rules_of file) (start file) face rest stack w first bytes e)
            (drop (4 * count) l) (gauge_of own ∷ stack) (w.gauges + 1)
            (r.after ∙ ap (λ (z : List Item). state (drop (4 * count) l) (gauge z ∷ stack) (w.gauges + 1)) own_sizes);
      }
