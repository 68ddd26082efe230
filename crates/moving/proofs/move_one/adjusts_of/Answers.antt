-- `moving::move_one::adjusts_of` meets its contract: word k is the record's adjust k.
-- The loop keeps that those below k are there.
use mathlib.Core.Path.{refl, sym, ◌∙◌}
use native.Mathlib.Omega.{arith}
use lib.ListN.{length-set}
use lib.Seq.{get_or-set_same, get_or-set_other}
use borrow.Author.Count.{below_more}
use Rattle.moving.proofs.move_one.adjusts_of.Goals as goal

pub loop-k-init : goal.loop-k-init
loop-k-init c = (refl, λ j p. absurd (omega arith))

pub loop-k-preserved : goal.loop-k-preserved
loop-k-preserved c =
    let inv = c.loop-k.invariant in
    let kept = length-set c.loop-k.adjusts c.loop-k.k c.get.result in
    let long = inv.0 in
    let less = c.loop-k-test.true in (
      long ∙ sym kept,
      below_more _ _
          (λ j p. get_or-set_other c.loop-k.adjusts c.loop-k.k j c.get.result 0 (omega arith) ∙ inv.1 j p)
          (get_or-set_same c.loop-k.adjusts c.loop-k.k c.get.result 0 (omega arith) ∙ c.get.ensures),
    )

pub returns : goal.returns
returns c =
    let inv = c.loop-k.invariant in
    let over = c.loop-k-test.false in
    (inv.0, λ k p. inv.1 k (omega arith))
