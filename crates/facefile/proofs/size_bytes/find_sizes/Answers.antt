-- `facefile::size_bytes::find_sizes` meets its contract.
-- The loop keeps `Seeking`, that the gauges passed, the sought one and those to come before it are together the number sought.
use native.Mathlib.Omega.{arith}
use Rattle.facefile.proofs.Answered.{no_gauge}
use Rattle.facefile.proofs.Seeking.{seek_start, seek_found, seek_next, seek_join, seek_end}
use Rattle.facefile.proofs.size_bytes.find_sizes.Goals as goal

pub returns-in_err-left-clause-none : goal.returns-in_err-left-clause-none
returns-in_err-left-clause-none c =
    let some = c.in_err-left.ensures in rw c.from_residual.ensures (no_gauge _ _ (omega arith))

pub loop-entry-init : goal.loop-entry-init
loop-entry-init c =
    let left = c.in_ok-left.ensures in
    seek_start _ _ _ _ _ (λ i. (c.type_inv.file i).fits) c.requires c.of-entry-items.ensures c.into_iter-entry-iterator.ensures.into_iter_gives (omega arith)

pub returns-then-left-eq0-clause-some : goal.returns-then-left-eq0-clause-some
returns-then-left-eq0-clause-some c =
    seek_found _ _ _ _ _ c.loop-entry.invariant _ c.in-Some.ensures.steps _ c.in-Gauge.is c.if-left-eq0.true

pub loop-entry-preserved-in-Gauge : goal.loop-entry-preserved-in-Gauge
loop-entry-preserved-in-Gauge c =
    seek_next _ _ _ _ _ c.loop-entry.invariant _ c.in-Some.ensures.steps _ c.in-Gauge.is c.if-left-eq0.false

pub loop-entry-preserved : goal.loop-entry-preserved
loop-entry-preserved c =
    seek_join _ _ _ _ _ c.loop-entry.invariant _ c.in-Some.ensures.steps _ c.in_default.is

pub returns-clause-none : goal.returns-clause-none
returns-clause-none c = seek_end _ _ _ _ _ c.loop-entry.invariant _ c.in-None.is c.next.ensures.steps
