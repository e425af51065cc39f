use Rattle.std.proofs.Common.{sym, ◌∙◌}
use Rattle.database_state.proofs.First.{none_yet, first_here, not_here, never}
use Rattle.node_core.specs.Carrying.{is_of}
use Rattle.node_core.proofs.links.place_of.Goals as goal

pub loop-place-init : goal.loop-place-init
loop-place-init c = none_yet (is_of c.args.conn) c.args.links.now

pub returns-then-is_of : goal.returns-then-is_of
returns-then-is_of c =
    first_here (is_of c.args.conn) c.args.links.now c.loop-place.place c.index-links-place.result c.loop-place-test.true c.index-links-place.is c.loop-place.invariant (sym c.is_of.ensures ∙ c.if-is_of.true)

pub loop-place-preserved : goal.loop-place-preserved
loop-place-preserved c =
    not_here (is_of c.args.conn) c.args.links.now c.loop-place.place c.index-links-place.result c.loop-place-test.true c.index-links-place.is c.loop-place.invariant (sym c.is_of.ensures ∙ c.if-is_of.false)

pub returns : goal.returns
returns c = never (is_of c.args.conn) c.args.links.now c.loop-place.place c.loop-place-test.false c.loop-place.invariant
