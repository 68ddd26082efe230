-- `holding::items::lay_out` meets its contract.
-- The loop keeps `Walking`; the measure is the records that the walk may still meet.
use mathlib.Core.Path.{subst}
use borrow.Author.Rules.{rules}
use Rattle.std.specs.Prelude.{Option}
use Rattle.forwards.specs.inside.Due.{Decides}
use Rattle.holding.specs.declared.items.Item.{Item}
use native.Mathlib.Omega.{arith}
use Rattle.holding.specs.inside.Pass.{Stands, Follows}
use Rattle.forwards.proofs.Decisions.{decided}
use Rattle.holding.proofs.ReadingWalk.{Walking, newest_more, head_enterable, walking_start, walk_barred, walk_summable, walk_unordered, walk_undue, walk_on, walk_unturned, walk_loose, walk_laid}
use Rattle.holding.proofs.items.lay_out.Goals as goal

pub enter-requires : goal.enter-requires
enter-requires c = search (rules, head_enterable)

pub loop-next-init : goal.loop-next-init
loop-next-init c = search (rules, walking_start)

pub returns-then-not-may_stand : goal.returns-then-not-may_stand
returns-then-not-may_stand c = search (rules, walk_barred)

pub item_at-item-requires : goal.item_at-item-requires
item_at-item-requires c = search (rules, walk_summable)

pub returns-then-not-may_follow : goal.returns-then-not-may_follow
returns-then-not-may_follow c =
    let last = c.last.ensures.value in
    let decides = subst (λ (before : Option Item). Decides c.may_follow.result (Follows before c.item_at-item.result)) last c.may_follow.ensures in
    search (rules, walk_unordered)

pub pass_links-requires : goal.pass_links-requires
pass_links-requires c = (search (rules, walk_summable), search rules)

pub returns-then-not-pass_links : goal.returns-then-not-pass_links
returns-then-not-pass_links c = search (rules, walk_undue)

pub bounds-items-count : goal.bounds-items-count
bounds-items-count c =
    let stood : Stands c.args.arena.now c.loop-next.count c.loop-next.last c.loop-next.next = decided c.may_stand.result _ c.may_stand.ensures c.if-not-may_stand.false in
    let room = (stood).room in
    let long = c.loop-next.invariant.row_long in
    omega arith

pub get-next-requires-in-loop-next : goal.get-next-requires-in-loop-next
get-next-requires-in-loop-next c =
    let stood : Stands c.args.arena.now c.loop-next.count c.loop-next.last c.loop-next.next = decided c.may_stand.result _ c.may_stand.ensures c.if-not-may_stand.false in
    let few = (stood).few in
    let long = c.loop-next.invariant.long in
    (omega arith, search rules)

pub loop-next-smaller : goal.loop-next-smaller
loop-next-smaller c =
    let stood : Stands c.args.arena.now c.loop-next.count c.loop-next.last c.loop-next.next = decided c.may_stand.result _ c.may_stand.ensures c.if-not-may_stand.false in
    let room = (stood).room in omega arith

pub loop-next-preserved : goal.loop-next-preserved
loop-next-preserved c =
    let stood : Stands c.args.arena.now c.loop-next.count c.loop-next.last c.loop-next.next = decided c.may_stand.result _ c.may_stand.ensures c.if-not-may_stand.false in
    let last = c.last.ensures.value in
    let follows = subst (λ (before : Option Item). Follows before c.item_at-item.result) last (decided c.may_follow.result (Follows _ _) c.may_follow.ensures c.if-not-may_follow.false) in
    let room = (stood).room in
    let long = c.loop-next.invariant.row_long in
    let named = decided c.pass_links.result _ c.pass_links.ensures.decides c.if-not-pass_links.false in
    subst (Walking c.args.arena.now _ _ _ _ _ _) (newest_more c.loop-next.items c.loop-next.count c.item_at-item.result (omega arith))
    (walk_on _ _ _ _ _ _ _ _ c.loop-next.invariant c.loop-next-test.true _ c.item_at-item.ensures.m_value c.item_at-item.ensures.true_p
    (stood) follows named _ _ (c.pass_links.ensures.passed c.if-not-pass_links.false) (c.pass_links.ensures.renewed c.if-not-pass_links.false) _ c.get-next-in-loop-next.ensures)

pub returns-then-get-last : goal.returns-then-get-last
returns-then-get-last c = search (rules, walk_unturned)

pub returns-then-not-none_due : goal.returns-then-not-none_due
returns-then-not-none_due c = search (rules, walk_loose)

pub returns : goal.returns
returns c = search (rules, walk_laid)
