-- `stored::fill::store_lists` meets its contract.
-- The loop keeps `Filling`, that the parts of the stack are stored.
use Rattle.facefile.specs.inside.Entries.Gives.{rest_of}
use Rattle.stored.proofs.FillLoop.{Filling}
use Rattle.stored.proofs.fill.store_lists.Given as goal

abbrev pub invariant-loop-entry : goal.invariant-loop-entry
invariant-loop-entry l = Filling l.rib l.file l.initial.scratch l.scratch (rest_of l.entry-iterator) l.part l.to
