-- `cutting::move_run::move_run` meets its contract, as each of the two ways that a run can go meets it.
-- Where the next record with link 1 does not pass, none in front has link 1.
use mathlib.Core.Path.{refl}
use borrow.Author.Rules.{rules}
use Rattle.searching.proofs.Passing.{link_reach}
use Rattle.moving.proofs.RunLaws.{second_passes}
use Rattle.cutting.proofs.move_run.move_run.Goals as goal

pub get-second-requires : goal.get-second-requires
get-second-requires c = (c.requires.run_ready.4.list.linked.has, search rules)

pub may_pass-requires : goal.may_pass-requires
may_pass-requires c =
    let w = c.requires.run_ready.4 in
    (link_reach _ _ _ w.list 1 _ _ (search rules) c.get-second.ensures refl, w.some)

pub linked_run-requires : goal.linked_run-requires
linked_run-requires c =
    record {
      run_ready = c.requires.run_ready;
      key_passes = second_passes _ _ _ _ _ _ _ c.get-second.ensures refl c.may_pass.ensures c.if-may_pass.true;
      cached = c.requires.cached;
    }

pub walk_run-requires : goal.walk_run-requires
walk_run-requires c =
    record {
      run_ready = c.requires.run_ready;
      key_stops = second_passes _ _ _ _ _ _ _ c.get-second.ensures refl c.may_pass.ensures c.if-may_pass.false;
      cached = c.requires.cached;
    }
