-- What the loop over the entries keeps: the parts of the stack stand in the arena, and the array has their kinds.
-- A gauge is loaded after all that is there, and a join takes the last two parts off and puts one in their place.
use mathlib.Core.Path.{◌≡◌, refl, sym, ap, ap₂, subst, ◌∙◌}
use mathlib.Core.Bool.{Bool, true}
use mathlib.Core.List.{List, [], ◌∷◌}
use Prim.Native.Nat.{ℕ, suc, ◌+◌, ◌-◌, ◌≤◌, ◌<◌}
use native.Mathlib.Omega.{arith}
use lib.ListN.{length, get_or, set, take, drop, length-append, length-drop}
use lib.Seq.{get_or-take, get_or-drop, length-take-le}
use Rattle.checks.specs.Limits.{buffer_words}
use Rattle.checks.specs.Answer.{taken}
use Rattle.slicing.specs.Item.{Item}
use Rattle.slicing.specs.Tree.{Tree, gauge, sizes_of, gauge_count, size_count}
use Rattle.slicing.specs.Good.{Good}
use Rattle.slicing.specs.Recorded.{Recorded, merge_recorded, part_recorded}
use Rattle.slicing.proofs.PartLists.{part_few}
use Rattle.slicing.proofs.Depths.{depth_few}
use Rattle.std.specs.Prelude.{Option, Some, None}
use Rattle.std.specs.Borrow.{Bor}
use Rattle.facefile.specs.declared.entry.Entry.{Entry}
use Rattle.facefile.specs.declared.entry.Entry.TheVariants.{Gauge, Join}
use Rattle.facefile.specs.declared.entry.Entries.{Entries}
use Rattle.facefile.specs.Format.{face_of, rules_of}
use Rattle.entries.specs.inside.Kinds.{byte_of, last_kind, kind_of, Cut, across}
use Rattle.entries.specs.declared.kinds.Kind.{Kind}
use Rattle.entries.specs.declared.kinds.Kind.TheVariants.{Gauge as a_gauge}
use Rattle.entries.proofs.KindLaws.{last_number}
use Rattle.sizes.specs.Rules.{asks_order}
use Rattle.sizes.specs.inside.Sizes.{sizes_in}
use Rattle.useful.specs.inside.Order.{GaugeBytes, order_word, counting_word}
use Rattle.useful.proofs.FirstDigits.{first_word_is}
use Rattle.entries.specs.inside.Tracking.{flat}
use Rattle.facefile.specs.inside.Entries.{Walk, count_of, GaugeNext, JoinNext}
use Rattle.facefile.specs.inside.Entries.Gives.{rest_of, Gives}
use Rattle.sizes.proofs.SizesIn.{in_length}
use Rattle.facefile.proofs.Taken.{face_taken}
use Rattle.facefile.proofs.PartArray.{Column, column_start, column_push, column_older, column_newer, column_join}
use Rattle.facefile.proofs.EntryWalk.{file_long}
use Rattle.facefile.proofs.EntrySteps.{came_none, came_gauge, came_join}
use Rattle.facefile.proofs.EntryStack.{walk_sizes, walk_face, walk_end, join_good, join_gauges, Counted, counted_start, counted_room, counted_gauge, counted_two, counted_below, counted_join}
use Rattle.arena.specs.inside.Chain.{Away}
use Rattle.loading.specs.inside.Loading.{records_of, Loadable, Loaded}
use Rattle.parts.specs.inside.Part.{first_head, head_of, Part, Suits, Parts}
use Rattle.parts.specs.inside.Copying.{Copied}
use Rattle.parts.specs.inside.Joining.{turned_if, crosses, Joinable, Joined}
use Rattle.parts.specs.inside.Building.{Buildable, Whole}
use Rattle.parts.proofs.PartLaws.{away_out, part_copied}
use Rattle.parts.proofs.PartStack.{parts_some, parts_total, parts_frame}
use Rattle.parts.proofs.LoadedPart.{records_inside, loaded_part}
use Rattle.parts.proofs.FacingLists.{faces_suit, cut_part, cut_sizes, cut_kind}

-- The kinds of the parts, and what stands past the end.
abbrev KindsHeld : List Kind → List Tree → Type 0
KindsHeld kinds stack = Column a_gauge last_kind kinds stack

pub record Standing (file levels : List ℕ) (rib : ℕ) (a₀ a : List ℕ) (kinds : List Kind) (rest : List ℕ) (parts done : ℕ) : Type 0 where
  pub ready : Buildable file levels rib a₀
  pub stack : List Tree
  pub walked : Counted file ready.tree rest stack parts
  pub records : done ≤ 512
  pub length_kept : length a ≡ length a₀
  pub kinds_held : KindsHeld kinds stack
  pub stands : Parts rib levels a stack (done + 1)

-- A taken file has its header.
pub file_headed : (file levels : List ℕ) (rib : ℕ) (a : List ℕ) → Buildable file levels rib a → 7 ≤ length file
file_headed file levels rib a ready = file_long file (ready.tree, ready.face)

pub file_taken : (file levels : List ℕ) (rib : ℕ) (a : List ℕ) → Buildable file levels rib a → (t : Tree) × (face_of file ≡ taken t)
file_taken file levels rib a ready = (ready.tree, ready.face)

pub standing_start : (file levels : List ℕ) (rib : ℕ) (a : List ℕ) (kinds : List Kind) (of it : Entries) → Buildable file levels rib a → length kinds ≡ 64 → rest_of of ≡ drop 7 file → it ≡ of → Standing file levels rib a a kinds (rest_of it) 0 0
standing_start file levels rib a kinds of it ready long r same =
    record {
      ready = ready;
      stack = [];
      walked = rw (same, r) (counted_start file ready.tree ready.face);
      records = omega arith;
      length_kept = refl;
      kinds_held = column_start a_gauge last_kind kinds long;
      stands = refl;
    }

pub standing_long : (file levels : List ℕ) (rib : ℕ) (a₀ a : List ℕ) (kinds : List Kind) (rest : List ℕ) (parts done : ℕ) → Standing file levels rib a₀ a kinds rest parts done → buffer_words ≤ length a
standing_long file levels rib a₀ a kinds rest parts done k = let long = k.ready.long in let same = k.length_kept in omega arith

module _ (file levels : List ℕ) (rib : ℕ) (a₀ a : List ℕ) (kinds : List Kind) (parts done : ℕ) (it behind : Entries) (k : Standing file levels rib a₀ a kinds (rest_of it) parts done) where
  abbrev face : Tree
  face = k.ready.tree

  long : buffer_words ≤ length a
  long = standing_long file levels rib a₀ a kinds (rest_of it) parts done k

  few_sizes : size_count face ≤ 512
  few_sizes = (face_taken file face k.ready.face).most

  module _ (r : Entry) (came : Gives it (Some r) behind) where
    module _ (own_sizes : Bor (List ℕ)) (e : r ≡ Gauge own_sizes) (count : ℕ) (counted : count ≡ count_of own_sizes.now) where
      abbrev bytes : List ℕ
      bytes = own_sizes.now

      here : GaugeNext file face k.stack (rest_of it) bytes (rest_of behind)
      here = came_gauge file face k.stack it behind k.walked.walk r came own_sizes e

      abbrev sizes : List Item
      sizes = sizes_in count bytes

      abbrev stack : List Tree
      stack = gauge sizes ∷ k.stack

      walk : Walk file face (rest_of behind) stack
      walk = rw counted here.walk

      pub gauge_room : parts < 64
      gauge_room = counted_room file face (rest_of it) k.stack parts k.walked (rest_of behind) bytes here

      -- The gauge's sizes have levels, and records.
      pub levels_left : done + count ≤ length levels
      levels_left =
          let whole = walk_sizes file face (rest_of behind) stack walk in
          let both = length-append (flat sizes_of k.stack) sizes in
          let many = in_length count bytes in
          let total = parts_total rib levels a k.stack (done + 1) k.stands in
          let all = k.ready.as_many in
          omega arith

      pub records_left : done + count < first_head
      records_left = let l = levels_left in let all = k.ready.as_many in let f = few_sizes in omega arith

      abbrev own : List ℕ
      own = take (done + count - done) (drop done levels)

      own_long : length own ≡ count
      own_long =
          let left = length-drop done levels in
          let l = levels_left in
          length-take-le (done + count - done) (drop done levels) (omega arith) ∙ omega arith

      own_at : (i : ℕ) → i < count → get_or own i 0 ≡ get_or levels (done + i) 0
      own_at i less = get_or-take (done + count - done) (drop done levels) i 0 (omega arith) ∙ get_or-drop done levels i 0

      -- The word of the gauge's list can be asked for, and the list loaded by it.
      pub gauge_bytes : GaugeBytes count bytes
      gauge_bytes = rw counted (record { sized = here.sized; some = here.some; few = here.few })

      -- The sizes of a gauge that was asked for its order stand in order.
      pub gauge_in_order : (known : Bool) → known ≡ asks_order (rules_of file) → known ≡ true → (word : ℕ) → word ≡ counting_word count → word ≡ order_word sizes
      gauge_in_order known Known-is asked word word_is =
          first_word_is count bytes word (rw counted (here.order (sym Known-is ∙ asked))) word_is

      pub gauge_loads : (order : ℕ) → order ≡ order_word sizes → Loadable a (first_head + parts) (done + 1) bytes own order
      gauge_loads order order_is =
          let enough_words = long in
          let room = gauge_room in
          let l = levels_left in
          let records = records_left in
          let many = own_long in
          let sized = gauge_bytes.sized in
          let few = gauge_bytes.few in
          record {
            head_has = omega arith;
            some = omega arith;
            has = omega arith;
            fits = omega arith;
            apart = λ i less same. omega arith;
            low = λ i less. subst (λ (v : ℕ). 1 ≤ v) (sym (own_at i (omega arith))) (k.ready.low (done + i) (omega arith));
            high = λ i less. subst (λ (v : ℕ). v ≤ 8) (sym (own_at i (omega arith))) (k.ready.high (done + i) (omega arith));
            bytes = omega arith;
            few = omega arith;
            order_is = order_is ∙ ap (λ (n : ℕ). order_word (sizes_in n bytes)) (sym own_long);
          }

      -- The parts below stand as they did, and the gauge on them.
      module _ (b : List ℕ) (got : Loaded a (first_head + parts) (done + 1) (sizes_in (length own) bytes) own b) where
        d : Loaded a (first_head + parts) (done + 1) sizes own b
        d = subst (λ (n : ℕ). Loaded a (first_head + parts) (done + 1) (sizes_in n bytes) own b) own_long got

        abbrev loaded : List ℕ
        loaded = records_of (done + 1) sizes

        away : (x : ℕ) → ((done + 1 ≤ x) × (x < done + 1 + count) → ⊥) → Away x loaded
        away x out =
            let many = in_length count bytes in
            away_out (done + 1) (done + 1 + length sizes) x loaded (λ i. let less = i.1 in out (i.0, omega arith)) (records_inside (done + 1) sizes)

        below : Parts rib levels b k.stack (done + 1)
        below =
            let room = gauge_room in
            let records = records_left in
            let c = k.walked.count in
            parts_frame rib levels a b k.stack (done + 1) d.long (omega arith)
            (λ x u w. d.outside x (λ e. omega arith) (away x (λ i. let v = i.0 in omega arith)))
            (λ i less. d.outside (head_of i) (λ e. omega arith) (away (head_of i) (λ i. let v = i.1 in omega arith)))
            k.stands

        on_top : Part levels b (head_of (length k.stack)) (done + 1) (done + count + 1) (part_recorded rib (done + 1) (gauge sizes))
        on_top =
            let head : first_head + parts ≡ head_of (length k.stack) = ap (λ (i : ℕ). first_head + i) (sym k.walked.count) in
            let many = in_length count bytes in
            let end : done + 1 + length sizes ≡ done + count + 1 = omega arith in
            rw (← head, ← end) (loaded_part levels a b (first_head + parts) done own sizes (λ i less. own_at i (omega arith)) d rib)

        pub standing_gauge : (l : List Kind) → l ≡ set kinds parts a_gauge → Standing file levels rib a₀ b l (rest_of behind) (parts + 1) (done + count)
        standing_gauge l stored =
            let many = in_length count bytes in
            record {
              ready = k.ready;
              stack = stack;
              walked = rw counted (counted_gauge file face (rest_of it) k.stack parts k.walked (rest_of behind) bytes here);
              records = let left = records_left in omega arith;
              length_kept = d.long ∙ k.length_kept;
              kinds_held = column_push a_gauge last_kind kinds k.stack parts k.walked.count k.kinds_held l a_gauge (gauge sizes) gauge_room stored refl;
              stands = (done + 1, omega arith, on_top, below);
            }

    module _ (kind : Kind) (e : r ≡ Join kind) where
      joining : JoinNext (Walk file face) k.stack (rest_of it) kind (rest_of behind)
      joining = came_join file face k.stack it behind k.walked.walk r came kind e

      abbrev older : Tree
      older = joining.older

      abbrev newer : Tree
      newer = joining.newer

      abbrev rest : List Tree
      rest = joining.below

      pub join_parts : 2 ≤ parts
      join_parts = counted_two file face (rest_of it) k.stack parts k.walked (rest_of behind) kind joining

      below_two : parts - 1 - 1 ≡ length rest
      below_two = let b = counted_below file face (rest_of it) k.stack parts k.walked (rest_of behind) kind joining in omega arith

      newest : parts - 1 - 1 + 1 ≡ suc (length rest)
      newest = let n = below_two in omega arith

      older_kind : get_or kinds (parts - 1 - 1) a_gauge ≡ last_kind older
      older_kind = column_older a_gauge last_kind kinds k.stack parts k.walked.count k.kinds_held older newer rest joining.two

      newer_kind : get_or kinds (parts - 1) a_gauge ≡ last_kind newer
      newer_kind = column_newer a_gauge last_kind kinds k.stack parts k.walked.count k.kinds_held older newer rest joining.two

      stand : Parts rib levels a (newer ∷ older ∷ rest) (done + 1)
      stand = subst (λ (s : List Tree). Parts rib levels a s (done + 1)) joining.two k.stands

      abbrev mid : ℕ
      mid = stand.0

      abbrev lo : ℕ
      lo = stand.3.0

      good : Good newer × Good older
      good = join_good file face (rest_of it) k.stack k.walked.walk kind (rest_of behind) joining

      gauges_few : gauge_count older + gauge_count newer ≤ 64
      gauges_few = join_gauges file face (rest_of it) k.stack k.walked.walk kind (rest_of behind) joining

      -- Which of the two runs the other way.
      abbrev s : Bool
      s = crosses (get_or kinds (parts - 1 - 1) a_gauge) kind

      abbrev t : Bool
      t = crosses (get_or kinds (parts - 1) a_gauge) kind

      cut : Cut (byte_of kind) joining.cut
      cut = joining.is_cut

      same_across : (x : Kind) (tree : Tree) → x ≡ last_kind tree → across (kind_of tree) (byte_of kind) ≡ crosses x kind
      same_across x tree is = rw (is, last_number tree)

      older_across : across (kind_of older) (byte_of kind) ≡ s
      older_across = same_across _ older older_kind

      newer_across : across (kind_of newer) (byte_of kind) ≡ t
      newer_across = same_across _ newer newer_kind

      joinable : Joinable levels a (parts - 1 - 1) lo mid (done + 1) (part_recorded rib lo older) (part_recorded rib mid newer) s t
      joinable =
          let enough_words = long in
          let some = parts_some rib levels a rest lo stand.3.3 in
          let few = k.walked.few in
          let enough = join_parts in
          let records = k.records in
          let gauges = gauges_few in
          let first = stand.3.1 in
          let second = stand.1 in
          let x = depth_few older in
          let y = depth_few newer in
          let u = part_few rib lo older good.1 in
          let v = part_few rib mid newer good.0 in
          record {
            low_place = omega arith;
            older_range = record { long = enough_words; some = some; upward = omega arith; most = omega arith };
            newer_range = record { long = enough_words; some = omega arith; upward = omega arith; most = omega arith };
            older = subst (λ (i : ℕ). Part levels a (head_of i) lo mid (part_recorded rib lo older)) (sym below_two) stand.3.2;
            newer =
                subst (λ (i : ℕ). Part levels a (head_of i) mid (done + 1) (part_recorded rib mid newer)) (sym newest)
                stand.2;
            older_few = omega arith;
            newer_few = omega arith;
            older_suits =
                subst (λ (b : Bool). Suits (turned_if b (part_recorded rib lo older))) older_across
                (faces_suit rib (byte_of kind) joining.cut k.ready.narrow cut lo older good.1 (omega arith) (omega arith));
            newer_suits =
                subst (λ (b : Bool). Suits (turned_if b (part_recorded rib mid newer))) newer_across
                (faces_suit rib (byte_of kind) joining.cut k.ready.narrow cut mid newer good.0 (omega arith) (omega arith));
          }

      pub join_ready : (lv : List ℕ) × (from : ℕ) × (middle : ℕ) × (to : ℕ) × (l : List Recorded) × (r : List Recorded) × Joinable lv a (parts - 1 - 1) from middle to l r s t
      join_ready = (levels, lo, mid, done + 1, part_recorded rib lo older, part_recorded rib mid newer, joinable)

      -- The parts below stand as they did, and the join on them.
      module _ (b : List ℕ) (join : (lv : List ℕ) (from middle to : ℕ) (u v : List Recorded) → Joinable lv a (parts - 1 - 1) from middle to u v s t → Joined rib lv a b (parts - 1 - 1) from middle to u v s t) where
        done_join : Joined rib levels a b (parts - 1 - 1) lo mid (done + 1) (part_recorded rib lo older) (part_recorded rib mid newer) s t
        done_join = join levels lo mid (done + 1) (part_recorded rib lo older) (part_recorded rib mid newer) joinable

        joined_list : merge_recorded rib (turned_if s (part_recorded rib lo older)) (turned_if t (part_recorded rib mid newer)) ≡ part_recorded rib lo (joining.cut older newer)
        joined_list =
            ap₂ (merge_recorded rib) (ap (λ (c : Bool). turned_if c (part_recorded rib lo older)) (sym older_across)) (ap (λ (c : Bool). turned_if c (part_recorded rib mid newer)) (sym newer_across))
            ∙ cut_part rib (byte_of kind) joining.cut cut lo mid older newer stand.3.1

        join_below : Parts rib levels b rest lo
        join_below =
            let few = k.walked.few in
            let enough = join_parts in
            let records = k.records in
            let first = stand.3.1 in
            let second = stand.1 in
            let n = below_two in
            parts_frame rib levels a b rest lo done_join.length_kept (omega arith)
            (λ x u v. (done_join.outside x u).0 v)
            (λ i less. (done_join.outside (head_of i) (omega arith)).1 (omega arith) (omega arith))
            stand.3.3

        join_on_top : Part levels b (head_of (length rest)) lo (done + 1) (part_recorded rib lo (joining.cut older newer))
        join_on_top =
            subst (λ (i : ℕ). Part levels b (head_of i) lo (done + 1) (part_recorded rib lo (joining.cut older newer))) below_two
            (subst (λ (z : List Recorded). Part levels b (head_of (parts - 1 - 1)) lo (done + 1) z) joined_list done_join.part)

        pub standing_join : (l : List Kind) → l ≡ set kinds (parts - 1 - 1) kind → Standing file levels rib a₀ b l (rest_of behind) (parts - 1) done
        standing_join l stored =
            let first = stand.3.1 in
            let second = stand.1 in
            let whole = cut_sizes (byte_of kind) joining.cut cut older newer in
            record {
              ready = k.ready;
              stack = joining.cut older newer ∷ rest;
              walked = counted_join file face (rest_of it) k.stack parts k.walked (rest_of behind) kind joining;
              records = k.records;
              length_kept = done_join.length_kept ∙ k.length_kept;
              kinds_held =
                  column_join a_gauge last_kind kinds k.stack parts k.walked.count k.kinds_held older newer rest joining.two l kind (joining.cut older newer)
                  k.walked.few stored (cut_kind kind joining.cut cut older newer);
              stands = (lo, omega arith, join_on_top, join_below);
            }

  module _ (r : Option Entry) (none : r ≡ None) (came : Gives it r behind) where
    last_stack : k.stack ≡ face ∷ []
    last_stack = walk_end file face (rest_of it) k.stack k.walked.walk (came_none file face k.stack it behind k.walked.walk r none came)

    root : Parts rib levels a (face ∷ []) (done + 1)
    root = subst (λ (s : List Tree). Parts rib levels a s (done + 1)) last_stack k.stands

    pub standing_whole : (b : List ℕ) (kind : Kind) → Copied a first_head 0 b → kind ≡ get_or kinds 0 a_gauge → (t : Tree) → face_of file ≡ taken t → Whole file levels rib a₀ b kind t
    standing_whole b kind c kind_is t e =
        let same = walk_face file face (rest_of it) k.stack k.walked.walk t e in
        let from : root.0 ≡ 1 = root.3 in
        let to : done + 1 ≡ 1 + size_count face = root.1 ∙ ap (λ (x : ℕ). x + size_count face) from in
        let here : Part levels a first_head 1 (1 + size_count face) (part_recorded rib 1 face) = subst (λ (x : ℕ). Part levels a first_head 1 x (part_recorded rib 1 face)) to (subst (λ (x : ℕ). Part levels a first_head x (done + 1) (part_recorded rib x face)) from root.2) in
        let holds = subst (λ (s : List Tree). KindsHeld kinds s) last_stack k.kinds_held in
        subst (λ (x : Tree). Whole file levels rib a₀ b kind x) same
        (record {
          length_kept = c.length_kept ∙ k.length_kept;
          kind_is = kind_is ∙ holds.held.0;
          part = part_copied levels a b first_head 0 1 (1 + size_count face) (part_recorded rib 1 face) here (let enough_words = long in omega arith) (λ i. let w = i.0 in omega arith) c;
        })
