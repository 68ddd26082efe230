-- What the loop over the entries keeps: the parts of the stack are the last parts of the table, and their lists follow it.
-- A gauge and a join each add one part after those that are there.
use mathlib.Core.Path.{◌≡◌, refl, sym, ap, subst, ◌∙◌}
use mathlib.Core.Bool.{Bool, true}
use mathlib.Core.List.{List, [], ◌∷◌}
use Prim.Native.Nat.{ℕ, ◌+◌, ◌*◌, ◌-◌, ◌≤◌, ◌<◌}
use native.Mathlib.Omega.{arith}
use lib.ListN.{length, get_or, drop, length-append}
use Rattle.checks.specs.Limits.{buffer_words}
use Rattle.checks.specs.Answer.{taken}
use Rattle.slicing.specs.Item.{Item}
use Rattle.slicing.specs.Tree.{Tree, gauge, beside, stacked, gauges_of, gauge_count}
use Rattle.slicing.specs.Good.{Good}
use Rattle.slicing.specs.Useful.{gauge_shapes}
use Rattle.slicing.proofs.Counts.{gauges_joined, sizes_joined}
use Rattle.slicing.proofs.Depths.{depth_few}
use Rattle.std.specs.Prelude.{Option, Some, None}
use Rattle.std.specs.Borrow.{Bor}
use Rattle.facefile.specs.declared.entry.Entry.{Entry as FileEntry}
use Rattle.facefile.specs.declared.entry.Entry.TheVariants.{Gauge, Join}
use Rattle.facefile.specs.declared.entry.Entries.{Entries}
use Rattle.sizes.specs.Rules.{asks_order}
use Rattle.facefile.specs.Format.{rules_of, face_of}
use Rattle.entries.specs.declared.kinds.Kind.{Kind}
use Rattle.entries.specs.inside.Kinds.{byte_of, Cut, cut_beside, cut_stacked}
use Rattle.sizes.specs.inside.Sizes.{sizes_in}
use Rattle.entries.specs.inside.Tracking.{flat}
use Rattle.facefile.specs.inside.Entries.{Walk, count_of, GaugeNext, JoinNext}
use Rattle.facefile.specs.inside.Entries.Gives.{rest_of, Gives}
use Rattle.sizes.proofs.SizesIn.{in_length}
use Rattle.useful.specs.inside.Order.{GaugeBytes, order_word, counting_word}
use Rattle.useful.proofs.FirstDigits.{first_word_is}
use Rattle.facefile.proofs.EntryWalk.{walk_start, file_long}
use Rattle.facefile.proofs.EntrySteps.{came_none, came_gauge, came_join}
use Rattle.facefile.proofs.EntryStack.{walk_good, walk_gauges, walk_face, walk_end, join_good, join_gauges}
use Rattle.stored.specs.inside.Store.{own_shapes, Entry, Named, Stored}
use Rattle.stored.specs.inside.Filling.{Between, Lies, Added, Rows, Fillable, Filled}
use Rattle.stored.specs.inside.Adding.{Room, GaugeAdded, JoinRoom}
use Rattle.stored.proofs.PartLists.{entry_of, own_gauge, own_length, own_few, cut_gauges, cut_short}
use Rattle.stored.proofs.StoredRows.{stored_frame, lies_frame, rows_frame, rows_total, part_words, used, used_few}

pub record Filling (gap : ℕ) (file s₀ s rest : List ℕ) (part to : ℕ) : Type 0 where
  pub ready : Fillable file gap s₀
  pub stack : List Tree
  pub walk : Walk file ready.tree rest stack
  pub length_kept : length s ≡ length s₀
  pub rows : Rows gap s to stack part
  pub used_is : to ≡ 508 + used gap stack

-- A taken file has its header.
pub filling_head : (gap : ℕ) (file s : List ℕ) → Fillable file gap s → 7 ≤ length file
filling_head gap file s ready = file_long file (ready.tree, ready.face)

pub filling_taken : (gap : ℕ) (file s : List ℕ) → Fillable file gap s → (t : Tree) × (face_of file ≡ taken t)
filling_taken gap file s ready = (ready.tree, ready.face)

pub filling_start : (gap : ℕ) (file s : List ℕ) (of it : Entries) → Fillable file gap s → rest_of of ≡ drop 7 file → it ≡ of → Filling gap file s s (rest_of it) 0 508
filling_start gap file s of it ready r same =
    record {
      ready = ready;
      stack = [];
      walk = rw (same, r) (walk_start file ready.tree ready.face);
      length_kept = refl;
      rows = refl;
      used_is = refl;
    }

lies_between : (gap : ℕ) (s : List ℕ) (to x : ℕ) (t : Tree) → Lies gap s to x t → Between gap s to x t
lies_between gap s to x (gauge z) l = l.0
lies_between gap s to x (beside a b) l = l.0
lies_between gap s to x (stacked a b) l = l.0

-- The same of both joins.
cut_used : (gap kind : ℕ) (cut : Tree → Tree → Tree) → Cut kind cut → (a b : Tree) → part_words gap (cut a b) ≡ part_words gap a + part_words gap b + length (own_shapes gap (cut a b))
cut_used gap kind cut cut_beside a b =
    let n = sizes_joined a b in
    let g = gauges_joined a b in
    let m = own_length gap (beside a b) in
    omega arith
cut_used gap kind cut cut_stacked a b =
    let n = sizes_joined a b in
    let g = gauges_joined a b in
    let m = own_length gap (stacked a b) in
    omega arith

cut_stored : (gap kind : ℕ) (cut : Tree → Tree → Tree) → Cut kind cut → (a b : Tree) (z : List ℕ) (e : ℕ) → Entry z e kind (gauge_count a + gauge_count b) (own_shapes gap (cut a b))
    → 2 * (gauge_count a + gauge_count b) ≤ e + 2 → Stored gap z (e - 1) b → Stored gap z (e - 2 * gauge_count b) a → Stored gap z e (cut a b)
cut_stored gap kind cut cut_beside a b z e h n x y =
    let g = gauges_joined a b in
    (subst (λ (m : ℕ). Entry z e 0x02 m (own_shapes gap (beside a b))) (sym g) h, omega arith, x, y)
cut_stored gap kind cut cut_stacked a b z e h n x y =
    let g = gauges_joined a b in
    (subst (λ (m : ℕ). Entry z e 0x03 m (own_shapes gap (stacked a b))) (sym g) h, omega arith, x, y)

cut_lies : (gap kind : ℕ) (cut : Tree → Tree → Tree) → Cut kind cut → (a b : Tree) (z : List ℕ) (to e : ℕ) → Between gap z to e (cut a b) → Lies gap z to (e - 1) b → Lies gap z to (e - 2 * gauge_count b) a → Lies gap z to e (cut a b)
cut_lies gap kind cut cut_beside a b z to e h x y = (h, x, y)
cut_lies gap kind cut cut_stacked a b z to e h x y = (h, x, y)

module _ (gap : ℕ) (file s₀ s : List ℕ) (part to : ℕ) (it behind : Entries) (k : Filling gap file s₀ s (rest_of it) part to) where
  abbrev face : Tree
  face = k.ready.tree

  long : buffer_words ≤ length s
  long = let l = k.ready.long in let same = k.length_kept in omega arith

  place_few : (508 ≤ to) × (to ≤ 15_708)
  place_few =
      let u = k.used_is in
      let few = used_few gap k.stack (walk_good file face (rest_of it) k.stack k.walk) (walk_gauges file face (rest_of it) k.stack k.walk) in
      (omega arith, omega arith)

  module _ (r : FileEntry) (came : Gives it (Some r) behind) where
    module _ (own_sizes : Bor (List ℕ)) (e : r ≡ Gauge own_sizes) (count : ℕ) (counted : count ≡ count_of own_sizes.now) where
      abbrev bytes : List ℕ
      bytes = own_sizes.now

      abbrev here : GaugeNext file face k.stack (rest_of it) bytes (rest_of behind)
      here = came_gauge file face k.stack it behind k.walk r came own_sizes e

      abbrev sizes : List Item
      sizes = sizes_in count bytes

      walk : Walk file face (rest_of behind) (gauge sizes ∷ k.stack)
      walk = rw counted here.walk

      pub gauge_part : part + 1 < 128
      gauge_part =
          let total = rows_total gap s to k.stack part k.rows in
          let few = walk_gauges file face (rest_of behind) (gauge sizes ∷ k.stack) walk in
          let one_more = length-append (flat gauges_of k.stack) (sizes ∷ []) in
          omega arith

      pub gauge_bytes : GaugeBytes count bytes
      gauge_bytes = rw counted (record { sized = here.sized; some = here.some; few = here.few })

      -- The sizes of a gauge that was asked for its order stand in order.
      pub gauge_in_order : (known : Bool) → known ≡ asks_order (rules_of file) → known ≡ true → (word : ℕ) → word ≡ counting_word count → word ≡ order_word sizes
      gauge_in_order known Known-is asked word word_is =
          first_word_is count bytes word (rw counted (here.order (sym Known-is ∙ asked))) word_is

      pub gauge_room : Room s part to (count + 1)
      gauge_room =
          let p = place_few in
          let few = gauge_bytes.few in
          record { long = long; part = (let fits = gauge_part in omega arith); from = p.0; items = omega arith }

      pub gauge_fits : to + (count + 1) < 65_536
      gauge_fits = let p = place_few in let few = gauge_bytes.few in omega arith

      pub filling_gauge : (z : List ℕ) → GaugeAdded s z part to (to + count) sizes → Filling gap file s₀ z (rest_of behind) (part + 1) (to + (count + 1))
      filling_gauge z added =
          let d = added.added in
          let up = to + (count + 1) in
          let p = place_few in
          let low = added.low in
          let to_end = added.to_end in
          let back : part ≡ part + 1 - 1 = omega arith in
          let list : gauge_shapes sizes ≡ own_shapes gap (gauge sizes) = sym (own_gauge gap sizes) in
          let as_long = ap length list in
          let many = in_length count bytes in
          let f = d.from_is in
          let entry : Entry z part 0x01 1 (own_shapes gap (gauge sizes)) = subst (λ (l : List Item). Entry z part 0x01 1 l) list d.entry in
          let place : get_or z (4 * part) 0 + length (own_shapes gap (gauge sizes)) ≡ to + count = omega arith in
          let named : Named gap z part sizes = ap (λ (i : ℕ). get_or z i 0) place ∙ added.named in
          let lies : Lies gap z up part (gauge sizes) = ((omega arith, omega arith), omega arith) in
          let below : Rows gap z up k.stack part = rows_frame gap s z part to up d.length_kept d.table_kept (λ i from less. d.lists_kept i from (omega arith)) (omega arith) k.stack part (omega arith) k.rows in
          record {
            ready = k.ready;
            stack = gauge sizes ∷ k.stack;
            walk = walk;
            length_kept = d.length_kept ∙ k.length_kept;
            rows = (
              part,
              omega arith,
              subst (λ (x : ℕ). Stored gap z x (gauge sizes)) back (entry, named),
              subst (λ (x : ℕ). Lies gap z up x (gauge sizes)) back lies,
              below,
            );
            used_is = let u = k.used_is in omega arith;
          }

    module _ (join : Kind) (e : r ≡ Join join) where
      abbrev joining : JoinNext (Walk file face) k.stack (rest_of it) join (rest_of behind)
      joining = came_join file face k.stack it behind k.walk r came join e

      abbrev kind : ℕ
      kind = byte_of join

      abbrev older : Tree
      older = joining.older

      abbrev newer : Tree
      newer = joining.newer

      abbrev rest : List Tree
      rest = joining.below

      stand : Rows gap s to (newer ∷ older ∷ rest) part
      stand = subst (λ (x : List Tree). Rows gap s to x part) joining.two k.rows

      abbrev mid : ℕ
      mid = stand.0

      abbrev lo : ℕ
      lo = stand.4.0

      good : Good newer × Good older
      good = join_good file face (rest_of it) k.stack k.walk join (rest_of behind) joining

      gauges_few : gauge_count older + gauge_count newer ≤ 64
      gauges_few = join_gauges file face (rest_of it) k.stack k.walk join (rest_of behind) joining

      numbers : (mid - 1 ≡ part - 2 * gauge_count newer) × (1 ≤ part) × (2 * gauge_count newer ≤ part) × (part < 127)
      numbers =
          let first = stand.1 in
          let second = stand.4.1 in
          let x = depth_few older in
          let y = depth_few newer in
          let few = gauges_few in
          let total = rows_total gap s to k.stack part k.rows in
          let all = walk_gauges file face (rest_of it) k.stack k.walk in
          let two = ap length joining.two in
          (omega arith, omega arith, omega arith, omega arith)

      older_stored : Stored gap s (part - 2 * gauge_count newer) older × Lies gap s to (part - 2 * gauge_count newer) older
      older_stored =
          subst (λ (x : ℕ). Stored gap s x older × Lies gap s to x older) numbers.0 (stand.4.2, stand.4.3)

      abbrev cut : Cut kind joining.cut
      cut = joining.is_cut

      join_room : JoinRoom gap s part to kind joining.cut older newer
      join_room =
          let p = place_few in
          let n = numbers in
          let few = gauges_few in
          let u = own_few gap older good.1 in
          let v = own_few gap newer good.0 in
          record {
            narrow = k.ready.narrow;
            is_cut = cut;
            room = record { long = long; part = n.3; from = p.0; items = omega arith };
            newer_before = n.1;
            older_before = n.2;
            older = entry_of gap s (part - 2 * gauge_count newer) older older_stored.0;
            newer = entry_of gap s (part - 1) newer stand.2;
            older_between = lies_between gap s to (part - 2 * gauge_count newer) older older_stored.1;
            newer_between = lies_between gap s to (part - 1) newer stand.3;
            older_good = good.1;
            newer_good = good.0;
            few = few;
          }

      pub join_part : part + 1 < 128
      join_part = let n = numbers in omega arith

      pub join_ready : (c : Tree → Tree → Tree) × (a : Tree) × (b : Tree) × JoinRoom gap s part to kind c a b
      join_ready = (joining.cut, older, newer, join_room)

      abbrev Joined : List ℕ → ℕ → Type 0
      Joined z n =
          (c : Tree → Tree → Tree) (a b : Tree) → JoinRoom gap s part to kind c a b → Added s z part to kind (gauge_count a + gauge_count b) (own_shapes gap (c a b)) × (n ≡ length (own_shapes gap (c a b)))

      module _ (z : List ℕ) (n : ℕ) (joined : Joined z n) where
        abbrev added : Added s z part to kind (gauge_count older + gauge_count newer) (own_shapes gap (joining.cut older newer))
        added = (joined joining.cut older newer join_room).0

        item_count : n ≡ length (own_shapes gap (joining.cut older newer))
        item_count = (joined joining.cut older newer join_room).1

        pub join_fits : to + n < 65_536
        join_fits =
            let p = place_few in
            let m = item_count in
            let short = cut_short gap kind joining.cut cut older newer good.1 good.0 gauges_few in
            omega arith

        new_stored : Stored gap z part (joining.cut older newer)
        new_stored =
            cut_stored gap kind joining.cut cut older newer z part added.entry (let w = numbers.2 in let second = stand.4.1 in let first = stand.1 in omega arith)
            (stored_frame gap s z part to (to + n) added.length_kept added.table_kept added.lists_kept (omega arith) newer (part - 1) (let w = numbers.1 in omega arith) stand.2 stand.3)
            (stored_frame gap s z part to (to + n) added.length_kept added.table_kept added.lists_kept (omega arith) older (part - 2 * gauge_count newer) (let w = numbers.2 in let y = depth_few newer in omega arith) older_stored.0 older_stored.1)

        new_lies : Lies gap z (to + n) part (joining.cut older newer)
        new_lies =
            cut_lies gap kind joining.cut cut older newer z (to + n) part
            (let f = added.from_is in let p = place_few in let m = item_count in (omega arith, omega arith))
            (lies_frame gap s z part to (to + n) added.length_kept added.table_kept added.lists_kept (omega arith) newer (part - 1) (let w = numbers.1 in omega arith) stand.3)
            (lies_frame gap s z part to (to + n) added.length_kept added.table_kept added.lists_kept (omega arith) older (part - 2 * gauge_count newer) (let w = numbers.2 in let y = depth_few newer in omega arith) older_stored.1)

        pub filling_join : Filling gap file s₀ z (rest_of behind) (part + 1) (to + n)
        filling_join =
            let back : part ≡ part + 1 - 1 = omega arith in
            let first = stand.1 in
            let second = stand.4.1 in
            let g = cut_gauges kind joining.cut cut older newer in
            let below : Rows gap z (to + n) rest lo = rows_frame gap s z part to (to + n) added.length_kept added.table_kept added.lists_kept (omega arith) rest lo (let x = depth_few older in let y = depth_few newer in omega arith) stand.4.4 in
            record {
              ready = k.ready;
              stack = joining.cut older newer ∷ rest;
              walk = joining.walk;
              length_kept = added.length_kept ∙ k.length_kept;
              rows = (
                lo,
                omega arith,
                subst (λ (x : ℕ). Stored gap z x (joining.cut older newer)) back new_stored,
                subst (λ (x : ℕ). Lies gap z (to + n) x (joining.cut older newer)) back new_lies,
                below,
              );
              used_is =
                  let u = k.used_is in
                  let before = ap (used gap) joining.two in
                  let m = item_count in
                  let w = cut_used gap kind joining.cut cut older newer in
                  omega arith;
            }

  module _ (r : Option FileEntry) (none : r ≡ None) (came : Gives it r behind) where
    last_stack : k.stack ≡ face ∷ []
    last_stack = walk_end file face (rest_of it) k.stack k.walk (came_none file face k.stack it behind k.walk r none came)

    root : Rows gap s to (face ∷ []) part
    root = subst (λ (x : List Tree). Rows gap s to x part) last_stack k.rows

    pub filled_some : 1 ≤ part
    filled_some = let n = root.1 in let alone = root.4 in let x = depth_few face in omega arith

    pub filled : (t : Tree) → face_of file ≡ taken t → Filled gap s₀ s (part - 1) t
    filled t e =
        let same = walk_face file face (rest_of it) k.stack k.walk t e in
        let n = root.1 in
        let alone = root.4 in
        let some = filled_some in
        subst (λ (x : Tree). Filled gap s₀ s (part - 1) x) same
        (record { length_kept = k.length_kept; last = omega arith; stored = root.2 })
