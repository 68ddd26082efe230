-- `walking::walk::walk` meets its contract.
-- The loop keeps `Walking`, that the heights left, walked from the present item on, give with what is so far the whole walk.
use borrow.Author.Rules.{rules}
use Prim.Native.Nat.{◌+◌, ◌-◌, ◌≤◌}
use native.Mathlib.Omega.{arith}
use lib.ListN.{length}
use Rattle.walking.proofs.Zeros.{zeros_fill}
use Rattle.walking.proofs.Walking.{walking_more, walking_end, walking_done}
use Rattle.walking.proofs.walk.walk.Goals as goal

pub returns-then-item-items : goal.returns-then-item-items
returns-then-item-items c =
    let room : c.loop-i.i + (length c.args.heights.now - c.loop-i.i) ≤ length c.loop-i.output = omega arith in
    walking_end _ _ _ _ _ _ _ _ c.loop-i.invariant c.loop-i-test.true _ _ c.pass_taller-stop.ensures.0 c.if-item-items.true _ c.close.ensures (search rules) _
    (zeros_fill _ _ _ _ room (c.fill.ensures.after (λ y same. same)))

pub loop-i-preserved : goal.loop-i-preserved
loop-i-preserved c = search (rules, walking_more)

pub returns : goal.returns
returns c = search (rules, walking_done)
