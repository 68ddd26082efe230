-- `searching::walk::walk` meets its contract: the front is raised, and its last record found.
-- The loop keeps `Onward`, that the records passed are in front and raised, and where the next one starts; the measure is the number of records left, counted along the first link.
use Rattle.std.proofs.Common.{refl, arith, rules}
use Rattle.searching.proofs.Passing.{first_has, onward_start, onward_less, onward_more, onward_done}
use Rattle.searching.proofs.walk.walk.Goals as goal

pub raise-requires : goal.raise-requires
raise-requires c =
    (first_has _ _ _ c.args.v _ _ c.requires.searchable c.requires.key_passes c.get-cur.ensures refl, search rules)

pub get-next-requires : goal.get-next-requires
get-next-requires c =
    let has = first_has _ _ _ c.args.v _ _ c.requires.searchable c.requires.key_passes c.get-cur.ensures refl in
    (omega arith, search rules)

pub loop-arena-init : goal.loop-arena-init
loop-arena-init c =
    onward_start _ _ _ _ _ _ c.requires.searchable c.requires.key_passes c.get-cur.ensures refl _ _ _ c.raise.ensures c.get-next.ensures refl _ refl

pub loop-arena-smaller : goal.loop-arena-smaller
loop-arena-smaller c =
    onward_less _ _ _ _ _ _ c.requires.searchable c.requires.key_passes c.get-cur.ensures refl
    _ _ _ c.raise.ensures c.get-next.ensures refl
    _ _ _ _ c.loop-arena.invariant c.loop-arena-test.true _ _ _ _ refl refl refl refl

pub loop-arena-preserved : goal.loop-arena-preserved
loop-arena-preserved c =
    onward_more _ _ _ _ _ _ c.requires.searchable c.requires.key_passes c.get-cur.ensures refl
    _ _ _ c.raise.ensures c.get-next.ensures refl
    _ _ _ _ c.loop-arena.invariant c.loop-arena-test.true _ _ _ _ refl refl refl refl _ refl

pub returns : goal.returns
returns c =
    onward_done _ _ _ _ _ _ c.requires.searchable c.requires.key_passes c.get-cur.ensures refl
    _ _ _ c.raise.ensures c.get-next.ensures refl
    _ _ _ _ c.loop-arena.invariant c.loop-arena-test.false
