-- `cutting::linked_run::linked_run` meets its contract, as each of the two ways that such a run can go meets it.
-- Where the record after the first does not pass, the first is alone in front.
use mathlib.Core.Path.{refl}
use borrow.Author.Rules.{rules}
use Rattle.moving.proofs.OneLaws.{first_has, after_reach, after_passes}
use Rattle.cutting.proofs.linked_run.linked_run.Goals as goal

pub get-next-requires : goal.get-next-requires
get-next-requires c =
    let p = c.requires.run_ready in
    (first_has _ _ p.0 _ p.1 p.2 p.3 _ p.4 _ c.get-first.ensures, search rules)

pub may_pass-requires : goal.may_pass-requires
may_pass-requires c =
    let p = c.requires.run_ready in
    (after_reach _ _ p.0 _ p.1 p.2 p.3 _ p.4 _ c.get-first.ensures _ _ c.get-next.ensures refl, p.4.some)

pub move_one-requires : goal.move_one-requires
move_one-requires c =
    let p = c.requires.run_ready in
    record {
      run_ready = p;
      key_stops = after_passes _ _ p.0 _ p.1 p.2 p.3 _ p.4 _ c.get-first.ensures _ _ _ _ c.get-next.ensures refl c.may_pass.ensures c.if-may_pass.false;
      cached = c.requires.cached;
    }
