-- `useful::narrowest::narrowest_below` meets its contract: the next size of the list.
-- The loop keeps `Best`, the narrowest of the sizes that it has looked at.
use Rattle.std.proofs.Common.{rules, lt-ltb, le-ltb}
use Rattle.useful.proofs.NarrowestSeen.{none_seen, seen_better, seen_tall, seen_worse, all_seen}
use Rattle.useful.proofs.narrowest.narrowest_below.Goals as goal
use Rattle.useful.proofs.narrowest.narrowest_below.Goals.{then-z-height+then-is_narrower, else-z-height, else-z-height-via-then-z-height+else-is_narrower, else-z-height-via-else-z-height}

pub loop-k-init : goal.loop-k-init
loop-k-init c = search (rules, none_seen)

pub loop-k-preserved : goal.loop-k-preserved
loop-k-preserved c =
    let known = c.loop-k.invariant in
    let more = c.loop-k-test.true in
    let read = c.size_in-z.ensures in
    elim c.if-z-height.branch [
      | then-z-height+then-is_narrower w ↦
          rw (w.best-is, w.place-is) (seen_better _ _ _ _ _ more read _ _ _ known w.if-z-height.true w.is_narrower.ensures w.if-is_narrower.true)
      | else-z-height w ↦
          elim w.else-z-height.branch [
            | else-z-height-via-then-z-height+else-is_narrower v ↦
                rw (w.best-is, w.place-is) (seen_worse _ _ _ _ _ more read _ _ _ known v.is_narrower.ensures v.if-is_narrower.false)
            | else-z-height-via-else-z-height v ↦ rw (w.best-is, w.place-is) (seen_tall _ _ _ _ _ more read _ known v.if-z-height.false)
          ]
    ]

pub returns-then-best-lt-ABOVE : goal.returns-then-best-lt-ABOVE
returns-then-best-lt-ABOVE c =
    rw (lt-ltb c.loop-k.best.width 65_536 c.if-best-lt-ABOVE.true) at (all_seen _ _ _ _ _ c.loop-k.invariant c.loop-k-test.false)

pub returns-else-best-lt-ABOVE : goal.returns-else-best-lt-ABOVE
returns-else-best-lt-ABOVE c =
    rw (le-ltb c.loop-k.best.width 65_536 c.if-best-lt-ABOVE.false) at (all_seen _ _ _ _ _ c.loop-k.invariant c.loop-k-test.false)
