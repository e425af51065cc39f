use Rattle.std.proofs.Common.{◌≡◌, ◌+◌, suc, drop, arith}
use Rattle.segment_store.specs.Listed.{place_for}
use Rattle.segment_store.proofs.LoadPlaces.{place_more, place_stop, place_none}
use Rattle.segment_store.proofs.loading.list.place_for.Goals as goal

pub loop-place-preserved : goal.loop-place-preserved
loop-place-preserved c =
    let n = c.args.number in
    let xs = c.args.numbers.now in
    let i = c.loop-place.place in
    let step : place_for n (drop i xs) ≡ suc (place_for n (drop (i + 1) xs)) = place_more n xs i _ c.loop-place-test.true c.if-numbers-place.true in
    (omega (arith, c.loop-place-test.true), omega (arith, c.loop-place.invariant.1, step))

pub returns-else-numbers-place-clause-place : goal.returns-else-numbers-place-clause-place
returns-else-numbers-place-clause-place c =
    let none : place_for c.args.number (drop c.loop-place.place c.args.numbers.now) ≡ 0 = place_stop c.args.number c.args.numbers.now c.loop-place.place _ c.loop-place-test.true c.if-numbers-place.false in
    omega (arith, c.loop-place.invariant.1, none)

pub returns-after-loop-place-clause-place : goal.returns-after-loop-place-clause-place
returns-after-loop-place-clause-place c =
    let none : place_for c.args.number (drop c.loop-place.place c.args.numbers.now) ≡ 0 = place_none c.args.number c.args.numbers.now c.loop-place.place (omega (arith, c.loop-place-test.false)) in
    omega (arith, c.loop-place.invariant.1, none)
