-- `saving::write::write_entries` meets its contract: the bytes of the entries of taken words are written.
-- The loop keeps `Writing`, what is left of the words and what is written so far.
use mathlib.Core.Path.{subst}
use mathlib.Core.List.{[], ◌∷◌}
use Prim.Native.Nat.{ℕ}
use Rattle.text.specs.inside.Writing.{Wrote}
use Rattle.saving.proofs.WordEntries.{writing_start, writing_fits, writing_gauge, writing_room, writing_join, writing_end}
use Rattle.saving.proofs.KindTags.{kind_tag}
use Rattle.saving.proofs.write.write_entries.Goals as goal

pub loop-entry-init : goal.loop-entry-init
loop-entry-init c =
    writing_start _ _ _ _ c.requires c.of-entry-items.ensures c.into_iter-entry-iterator.ensures.into_iter_gives

pub write_gauge-requires : goal.write_gauge-requires
write_gauge-requires c =
    writing_fits _ _ _ _ _ c.loop-entry.invariant _ c.in-Some.ensures.steps _ c.in-Gauge.is

pub loop-entry-preserved-in-Gauge : goal.loop-entry-preserved-in-Gauge
loop-entry-preserved-in-Gauge c =
    writing_gauge _ _ _ _ _ c.loop-entry.invariant _ c.in-Some.ensures.steps _ c.in-Gauge.is _ c.write_gauge.ensures

pub put-requires : goal.put-requires
put-requires c =
    rw (kind_tag c.in-Join.kind) (writing_room _ _ _ _ _ c.loop-entry.invariant _ c.in-Some.ensures.steps _ c.in-Join.is)

pub loop-entry-preserved : goal.loop-entry-preserved
loop-entry-preserved c =
    writing_join _ _ _ _ _ c.loop-entry.invariant _ c.in-Some.ensures.steps _ c.in-Join.is _
    (subst (λ (n : ℕ). Wrote c.loop-entry.page (n ∷ []) c.put.new.self) (kind_tag c.in-Join.kind) c.put.ensures)

pub returns : goal.returns
returns c = writing_end _ _ _ _ _ c.loop-entry.invariant _ c.in-None.is c.next.ensures.steps
