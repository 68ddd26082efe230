-- `laying::lay::size_number` meets its contract.
-- The table says where the word behind the gauge's list stands, and the word has the number of the size.
use mathlib.Core.Path.{ap}
use Prim.Native.Nat.{◌+◌, ◌<◌}
use lib.ListN.{length}
use borrow.Author.Rules.{rules}
use Rattle.stored.specs.declared.table.Part.{Part}
use Rattle.laying.proofs.SizeNumbers.{number_table, number_inside, number_ready, number_is}
use Rattle.laying.proofs.lay.size_number.Goals as goal

pub read-gauge-requires : goal.read-gauge-requires
read-gauge-requires c = number_table c.requires

pub overflow_add-named : goal.overflow_add-named
overflow_add-named c =
    let inside : c.read-gauge.result.from + c.read-gauge.result.count < length c.args.scratch.now = number_inside (ap (λ (p : Part). p.from) c.read-gauge.ensures) (ap (λ (p : Part). p.count) c.read-gauge.ensures) c.requires in
    let fits = inside in search rules

pub offset_bounds-scratch-gauge : goal.offset_bounds-scratch-gauge
offset_bounds-scratch-gauge c =
    let inside : c.read-gauge.result.from + c.read-gauge.result.count < length c.args.scratch.now = number_inside (ap (λ (p : Part). p.from) c.read-gauge.ensures) (ap (λ (p : Part). p.count) c.read-gauge.ensures) c.requires in
    let fits = inside in search rules

pub bounds-scratch-gauge : goal.bounds-scratch-gauge
bounds-scratch-gauge c = number_inside (ap (λ (p : Part). p.from) c.read-gauge.ensures) (ap (λ (p : Part). p.count) c.read-gauge.ensures) c.requires

pub number_at-requires : goal.number_at-requires
number_at-requires c = number_ready (ap (λ (p : Part). p.from) c.read-gauge.ensures) (ap (λ (p : Part). p.count) c.read-gauge.ensures) c.requires

pub returns : goal.returns
returns c = number_is (ap (λ (p : Part). p.from) c.read-gauge.ensures) (ap (λ (p : Part). p.count) c.read-gauge.ensures) c.number_at.ensures
