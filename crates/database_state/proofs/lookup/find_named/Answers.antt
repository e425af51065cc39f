use Rattle.std.proofs.Common.{sym, ◌∙◌}
use Rattle.database_state.specs.Databases.{has_name}
use Rattle.database_state.proofs.First.{none_yet, first_here, not_here, never}
use Rattle.database_state.proofs.lookup.find_named.Goals as goal

pub loop-place-init : goal.loop-place-init
loop-place-init c = none_yet (has_name c.args.name.now) c.args.databases.now

pub returns-then-is_named : goal.returns-then-is_named
returns-then-is_named c = first_here (has_name c.args.name.now) c.args.databases.now c.loop-place.place c.index-databases-place.result c.loop-place-test.true c.index-databases-place.is c.loop-place.invariant (sym c.is_named.ensures ∙ c.if-is_named.true)

pub loop-place-preserved : goal.loop-place-preserved
loop-place-preserved c = not_here (has_name c.args.name.now) c.args.databases.now c.loop-place.place c.index-databases-place.result c.loop-place-test.true c.index-databases-place.is c.loop-place.invariant (sym c.is_named.ensures ∙ c.if-is_named.false)

pub returns : goal.returns
returns c = never (has_name c.args.name.now) c.args.databases.now c.loop-place.place c.loop-place-test.false c.loop-place.invariant
