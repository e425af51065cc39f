use Rattle.std.proofs.Common.{sym, ◌∙◌}
use Rattle.database_state.specs.Pins.{has_place}
use Rattle.database_state.proofs.First.{none_yet, first_here, not_here, never}
use Rattle.database_state.proofs.lookup.find_place.Goals as goal

pub loop-place-init : goal.loop-place-init
loop-place-init c = none_yet (has_place c.args.opened) c.args.databases.now

pub returns-then-is_opened_at : goal.returns-then-is_opened_at
returns-then-is_opened_at c = first_here (has_place c.args.opened) c.args.databases.now c.loop-place.place c.index-databases-place.result c.loop-place-test.true c.index-databases-place.is c.loop-place.invariant (sym c.is_opened_at.ensures ∙ c.if-is_opened_at.true)

pub loop-place-preserved : goal.loop-place-preserved
loop-place-preserved c = not_here (has_place c.args.opened) c.args.databases.now c.loop-place.place c.index-databases-place.result c.loop-place-test.true c.index-databases-place.is c.loop-place.invariant (sym c.is_opened_at.ensures ∙ c.if-is_opened_at.false)

pub returns : goal.returns
returns c = never (has_place c.args.opened) c.args.databases.now c.loop-place.place c.loop-place-test.false c.loop-place.invariant
