use Rattle.std.proofs.Common.{sym, ◌∙◌}
use Rattle.database_state.proofs.Places.{belongs_here, stands_here, later, belongs_last}
use Rattle.database_state.proofs.lookup.place_of.Goals as goal

pub returns-in-Less : goal.returns-in-Less
returns-in-Less c =
    belongs_here c.args.name.now c.args.databases.now c.loop-place.place c.index-databases-place.result c.loop-place-test.true c.index-databases-place.is c.loop-place.invariant (sym c.order.ensures ∙ c.in-Less.is)

pub returns-in-Equal : goal.returns-in-Equal
returns-in-Equal c =
    stands_here c.args.name.now c.args.databases.now c.loop-place.place c.index-databases-place.result c.loop-place-test.true c.index-databases-place.is c.loop-place.invariant (sym c.order.ensures ∙ c.in-Equal.is)

pub loop-place-preserved : goal.loop-place-preserved
loop-place-preserved c =
    later c.args.name.now c.args.databases.now c.loop-place.place c.index-databases-place.result c.loop-place-test.true c.index-databases-place.is c.loop-place.invariant (sym c.order.ensures ∙ c.in-Greater.is)

pub returns : goal.returns
returns c = belongs_last c.args.name.now c.args.databases.now c.loop-place.place c.loop-place-test.false c.loop-place.invariant
