use Rattle.std.proofs.Common.{sym, ◌∙◌}
use Rattle.script_machines.proofs.Tables.{noted_here, noted_later, noted_never}
use Rattle.script_machines.proofs.list.place_of.Goals as goal

pub returns-then-eq : goal.returns-then-eq
returns-then-eq c =
    noted_here c.args.name.now c.args.table.now c.loop-place.place c.index-table-place.result c.loop-place-test.true c.index-table-place.is c.loop-place.invariant (sym c.eq.ensures ∙ c.if-eq.true)

pub loop-place-preserved : goal.loop-place-preserved
loop-place-preserved c =
    noted_later c.args.name.now c.args.table.now c.loop-place.place c.index-table-place.result c.loop-place-test.true c.index-table-place.is c.loop-place.invariant (sym c.eq.ensures ∙ c.if-eq.false)

pub returns : goal.returns
returns c = noted_never c.args.name.now c.args.table.now c.loop-place.place c.loop-place-test.false c.loop-place.invariant
