-- `stored::table::Part::store` meets its contract.
-- Four stores, one after the other, are the four words of the part, by `entry_is`; each is inside.
use mathlib.Core.Path.{ap, ◌∙◌}
use Prim.Native.Nat.{ℕ, ◌+◌, ◌*◌}
use lib.ListN.{set}
use Rattle.stored.proofs.EntryLaws.{room_second, room_third, room_fourth, entry_is}
use Rattle.stored.proofs.table.Part.store.Goals as goal

pub bounds-scratch-at-2 : goal.bounds-scratch-at-2
bounds-scratch-at-2 c = room_second c.args.scratch.now c.args.part c.args.self.from c.requires.0

pub bounds-scratch-at-3 : goal.bounds-scratch-at-3
bounds-scratch-at-3 c = room_third c.args.scratch.now c.args.part c.args.self.from c.args.self.count c.requires.0

pub bounds-scratch-at-4 : goal.bounds-scratch-at-4
bounds-scratch-at-4 c =
    room_fourth c.args.scratch.now c.args.part c.args.self.from c.args.self.count _ c.requires.0

pub returns : goal.returns
returns c =
    let e = c.args.part in
    ap (λ (n : ℕ). set (set (set (set c.args.scratch.now (4 * e) c.args.self.from) (4 * e + 1) c.args.self.count) (4 * e + 2) n) (4 * e + 3) c.args.self.gauges) c.word_of.ensures
    ∙ entry_is _ _ _ _ _ _
