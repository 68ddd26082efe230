-- `laying::lay::lay` meets its contract.
-- A gauge's five words are stored; at a join each part takes its item and lays itself out, the newer in the stretch after the older's words.
use mathlib.Core.Path.{◌≡◌, ap}
use Prim.Native.Nat.{◌+◌, ◌*◌}
use lib.ListN.{get_or}
use native.Mathlib.Omega.{arith}
use borrow.Author.Rules.{rules}
use Rattle.stored.specs.declared.table.Part.{Part}
use Rattle.laying.proofs.GaugeLaws.{is_gauge, not_gauge, ready_inside, ready_item, gauge_room, gauge_place, gauge_laid}
use Rattle.laying.proofs.LayLaws.{seen_join, join_some, newer_inside, newer_count, older_inside, first_fits, older_takes, newer_takes, past_fits, right_fits, above_fits, lay_older, lay_newer, join_laid}
use Rattle.laying.proofs.lay.+lay.Goals as goal

pub read-join-requires : goal.read-join-requires
read-join-requires t c =
    let inside = ready_inside c.requires in search rules

pub item_at-z-requires : goal.item_at-z-requires
item_at-z-requires t c =
    ready_item c.requires

-- A gauge.

pub size_number-requires : goal.size_number-requires
size_number-requires t c =
    gauge_place (ap (λ (p : Part). p.kind) c.read-join.ensures) (is_gauge _ _ c.eq.ensures c.if-eq.true) c.requires

pub write_gauge-requires : goal.write_gauge-requires
write_gauge-requires t c =
    gauge_room (ap (λ (p : Part). p.kind) c.read-join.ensures) (is_gauge _ _ c.eq.ensures c.if-eq.true) c.requires

pub returns-then-eq : goal.returns-then-eq
returns-then-eq t c =
    gauge_laid (ap (λ (p : Part). p.kind) c.read-join.ensures) (is_gauge _ _ c.eq.ensures c.if-eq.true) c.item_at-z.ensures c.size_number.ensures c.write_gauge.ensures

-- A join.

pub overflow_sub-newer : goal.overflow_sub-newer
overflow_sub-newer t c =
    let join = seen_join c.requires (ap (λ (p : Part). p.kind) c.read-join.ensures) (not_gauge _ _ c.eq.ensures c.if-eq.false) c.item_at-z.ensures c.along-limit.ensures in
    join_some join

pub read-rest-requires : goal.read-rest-requires
read-rest-requires t c =
    let join = seen_join c.requires (ap (λ (p : Part). p.kind) c.read-join.ensures) (not_gauge _ _ c.eq.ensures c.if-eq.false) c.item_at-z.ensures c.along-limit.ensures in
    let inside = newer_inside join in search rules

pub overflow_mul-older : goal.overflow_mul-older
overflow_mul-older t c =
    let join = seen_join c.requires (ap (λ (p : Part). p.kind) c.read-join.ensures) (not_gauge _ _ c.eq.ensures c.if-eq.false) c.item_at-z.ensures c.along-limit.ensures in
    let n = newer_count join (ap (λ (p : Part). p.gauges) c.read-rest.ensures) in search rules

pub overflow_sub-older : goal.overflow_sub-older
overflow_sub-older t c =
    let join = seen_join c.requires (ap (λ (p : Part). p.kind) c.read-join.ensures) (not_gauge _ _ c.eq.ensures c.if-eq.false) c.item_at-z.ensures c.along-limit.ensures in
    let n = newer_count join (ap (λ (p : Part). p.gauges) c.read-rest.ensures) in search rules

pub read-first-requires : goal.read-first-requires
read-first-requires t c =
    let join = seen_join c.requires (ap (λ (p : Part). p.kind) c.read-join.ensures) (not_gauge _ _ c.eq.ensures c.if-eq.false) c.item_at-z.ensures c.along-limit.ensures in
    let inside = older_inside join (ap (λ (p : Part). p.gauges) c.read-rest.ensures) in search rules

pub take_item-a-requires : goal.take_item-a-requires
take_item-a-requires t c =
    let join = seen_join c.requires (ap (λ (p : Part). p.kind) c.read-join.ensures) (not_gauge _ _ c.eq.ensures c.if-eq.false) c.item_at-z.ensures c.along-limit.ensures in
    older_takes join (ap (λ (p : Part). p.gauges) c.read-rest.ensures)

pub take_item-b-requires : goal.take_item-b-requires
take_item-b-requires t c =
    let join = seen_join c.requires (ap (λ (p : Part). p.kind) c.read-join.ensures) (not_gauge _ _ c.eq.ensures c.if-eq.false) c.item_at-z.ensures c.along-limit.ensures in
    newer_takes join (ap (λ (p : Part). p.gauges) c.read-rest.ensures)

-- Both parts have taken their items.

pub overflow_add-past : goal.overflow_add-past
overflow_add-past t c =
    let join = seen_join c.requires (ap (λ (p : Part). p.kind) c.read-join.ensures) (not_gauge _ _ c.eq.ensures c.if-eq.false) c.item_at-z.ensures c.along-limit.ensures in
    record { fits = past_fits join (ap (λ (p : Part). p.gauges) c.read-rest.ensures) c.take_item-a.ensures c.take_item-b.ensures }

pub beyond-beyond-requires : goal.beyond-beyond-requires
beyond-beyond-requires t c =
    let join = seen_join c.requires (ap (λ (p : Part). p.kind) c.read-join.ensures) (not_gauge _ _ c.eq.ensures c.if-eq.false) c.item_at-z.ensures c.along-limit.ensures in
    (right_fits join (ap (λ (p : Part). p.gauges) c.read-rest.ensures) c.take_item-a.ensures c.take_item-b.ensures, above_fits join (ap (λ (p : Part). p.gauges) c.read-rest.ensures) c.take_item-a.ensures c.take_item-b.ensures)

pub lay-requires : goal.lay-requires
lay-requires t c =
    let join = seen_join c.requires (ap (λ (p : Part). p.kind) c.read-join.ensures) (not_gauge _ _ c.eq.ensures c.if-eq.false) c.item_at-z.ensures c.along-limit.ensures in
    let same : get_or c.args.scratch.now (4 * c.args.part + 3) 0 ≡ t = omega arith in
    lay_older join (ap (λ (p : Part). p.gauges) c.read-rest.ensures) c.take_item-a.ensures c.take_item-b.ensures same

-- The older part is laid out.

pub overflow_mul-first : goal.overflow_mul-first
overflow_mul-first t c =
    let join = seen_join c.requires (ap (λ (p : Part). p.kind) c.read-join.ensures) (not_gauge _ _ c.eq.ensures c.if-eq.false) c.item_at-z.ensures c.along-limit.ensures in
    let n = first_fits join (ap (λ (p : Part). p.gauges) c.read-rest.ensures) (ap (λ (p : Part). p.gauges) c.read-first.ensures) in search rules

pub slice_bounds-lay-count : goal.slice_bounds-lay-count
slice_bounds-lay-count t c =
    let join = seen_join c.requires (ap (λ (p : Part). p.kind) c.read-join.ensures) (not_gauge _ _ c.eq.ensures c.if-eq.false) c.item_at-z.ensures c.along-limit.ensures in
    let n = first_fits join (ap (λ (p : Part). p.gauges) c.read-rest.ensures) (ap (λ (p : Part). p.gauges) c.read-first.ensures) in search rules

pub slice_bounds-lay-start : goal.slice_bounds-lay-start
slice_bounds-lay-start t c =
    let join = seen_join c.requires (ap (λ (p : Part). p.kind) c.read-join.ensures) (not_gauge _ _ c.eq.ensures c.if-eq.false) c.item_at-z.ensures c.along-limit.ensures in
    let n = first_fits join (ap (λ (p : Part). p.gauges) c.read-rest.ensures) (ap (λ (p : Part). p.gauges) c.read-first.ensures) in search rules

pub slice_bounds-lay-end : goal.slice_bounds-lay-end
slice_bounds-lay-end t c =
    let join = seen_join c.requires (ap (λ (p : Part). p.kind) c.read-join.ensures) (not_gauge _ _ c.eq.ensures c.if-eq.false) c.item_at-z.ensures c.along-limit.ensures in
    let n = first_fits join (ap (λ (p : Part). p.gauges) c.read-rest.ensures) (ap (λ (p : Part). p.gauges) c.read-first.ensures) in search rules

pub lay-requires-2 : goal.lay-requires-2
lay-requires-2 t c =
    let join = seen_join c.requires (ap (λ (p : Part). p.kind) c.read-join.ensures) (not_gauge _ _ c.eq.ensures c.if-eq.false) c.item_at-z.ensures c.along-limit.ensures in
    let same : get_or c.args.scratch.now (4 * c.args.part + 3) 0 ≡ t = omega arith in
    lay_newer join (ap (λ (p : Part). p.gauges) c.read-rest.ensures) c.take_item-a.ensures c.take_item-b.ensures (ap (λ (p : Part). p.gauges) c.read-first.ensures) c.beyond-beyond.ensures.across c.beyond-beyond.ensures.up c.lay.new.out c.lay.auto.out same

pub returns : goal.returns
returns t c =
    let join = seen_join c.requires (ap (λ (p : Part). p.kind) c.read-join.ensures) (not_gauge _ _ c.eq.ensures c.if-eq.false) c.item_at-z.ensures c.along-limit.ensures in
    join_laid join (ap (λ (p : Part). p.gauges) c.read-rest.ensures) c.take_item-a.ensures c.take_item-b.ensures (ap (λ (p : Part). p.gauges) c.read-first.ensures) c.beyond-beyond.ensures.across c.beyond-beyond.ensures.up c.lay.new.out c.lay.auto.out c.lay.ensures c.lay-2.ensures
