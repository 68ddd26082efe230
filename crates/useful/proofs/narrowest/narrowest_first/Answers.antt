-- `useful::narrowest::narrowest_first` meets its contract: the word of the gauge's list.
-- The loop keeps `SoFar`, the word of the items that are not lower than the height; the measure is the height, which falls.
use Prim.Native.Nat.{◌<◌}
use native.Mathlib.Omega.{arith}
use Rattle.useful.proofs.ListSoFar.{none_yet, all_listed, place_inside, digit_fits, falls, one_more}
use Rattle.useful.proofs.narrowest.narrowest_first.Goals as goal

pub loop-k-init : goal.loop-k-init
loop-k-init c = none_yet _ _ (λ i. (c.type_inv.sizes i).fits) c.requires

pub overflow_mul-word : goal.overflow_mul-word
overflow_mul-word c =
    let low : c.loop-k.word < 268_435_456 = digit_fits _ _ _ _ _ _ c.loop-k.invariant c.in-Some.ensures in
    omega (arith, low)

pub overflow_cast-word : goal.overflow_cast-word
overflow_cast-word c =
    let inside : c.in-Some.k < c.args.count = place_inside _ _ _ _ _ _ c.loop-k.invariant c.in-Some.ensures in
    let few = c.requires.few in
    omega arith

pub overflow_add-word : goal.overflow_add-word
overflow_add-word c =
    let inside : c.in-Some.k < c.args.count = place_inside _ _ _ _ _ _ c.loop-k.invariant c.in-Some.ensures in
    let few = c.requires.few in
    omega arith

pub overflow_add-word-in-Some : goal.overflow_add-word-in-Some
overflow_add-word-in-Some c =
    let low : c.loop-k.word < 268_435_456 = digit_fits _ _ _ _ _ _ c.loop-k.invariant c.in-Some.ensures in
    let inside : c.in-Some.k < c.args.count = place_inside _ _ _ _ _ _ c.loop-k.invariant c.in-Some.ensures in
    let few = c.requires.few in
    omega (arith, low)

pub loop-k-smaller : goal.loop-k-smaller
loop-k-smaller c = falls _ _ _ _ _ _ c.loop-k.invariant c.in-Some.ensures

pub loop-k-preserved : goal.loop-k-preserved
loop-k-preserved c = one_more _ _ _ _ _ _ c.loop-k.invariant c.in-Some.ensures

pub returns : goal.returns
returns c = all_listed _ _ _ _ c.loop-k.invariant c.in_default.ensures
