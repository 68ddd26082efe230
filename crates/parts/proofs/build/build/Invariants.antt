-- `parts::build::build` meets its contract.
-- The loop keeps `Standing`, that the parts of the stack stand in the arena.
use Rattle.facefile.specs.inside.Entries.Gives.{rest_of}
use Rattle.parts.proofs.Standing.{Standing}
use Rattle.parts.proofs.build.build.Given as goal

abbrev pub invariant-loop-entry : goal.invariant-loop-entry
invariant-loop-entry l = Standing l.file l.levels l.rib l.initial.arena l.arena l.kinds (rest_of l.entry-iterator) l.parts l.size
