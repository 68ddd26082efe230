-- `saving::read::put_entries` meets its contract: the words of the entries of a taken file are written.
-- The loop keeps `Putting`, what is left of the file and what is written so far.
use mathlib.Core.Path.{subst}
use mathlib.Core.List.{[], ◌∷◌}
use Prim.Native.Nat.{ℕ}
use Rattle.text.specs.inside.Writing.{Wrote}
use Rattle.saving.proofs.FileEntries.{putting_start, putting_fits, putting_gauge, putting_room, putting_join, putting_end}
use Rattle.saving.proofs.KindTags.{kind_tag}
use Rattle.saving.proofs.read.put_entries.Goals as goal

pub loop-entry-init : goal.loop-entry-init
loop-entry-init c =
    putting_start _ _ _ _ c.requires c.of-entry-items.ensures c.into_iter-entry-iterator.ensures.into_iter_gives

pub put_gauge-requires : goal.put_gauge-requires
put_gauge-requires c =
    putting_fits _ _ _ _ _ c.loop-entry.invariant _ c.in-Some.ensures.steps _ c.in-Gauge.is _ c.size_count.ensures

pub loop-entry-preserved-in-Gauge : goal.loop-entry-preserved-in-Gauge
loop-entry-preserved-in-Gauge c =
    putting_gauge _ _ _ _ _ c.loop-entry.invariant _ c.in-Some.ensures.steps _ c.in-Gauge.is _ c.size_count.ensures _ c.put_gauge.ensures

pub put-requires : goal.put-requires
put-requires c =
    rw (kind_tag c.in-Join.kind) (putting_room _ _ _ _ _ c.loop-entry.invariant _ c.in-Some.ensures.steps _ c.in-Join.is)

pub loop-entry-preserved : goal.loop-entry-preserved
loop-entry-preserved c =
    putting_join _ _ _ _ _ c.loop-entry.invariant _ c.in-Some.ensures.steps _ c.in-Join.is _
    (subst (λ (n : ℕ). Wrote c.loop-entry.page (n ∷ []) c.put.new.self) (kind_tag c.in-Join.kind) c.put.ensures)

pub returns : goal.returns
returns c = putting_end _ _ _ _ _ c.loop-entry.invariant _ c.in-None.is c.next.ensures.steps
