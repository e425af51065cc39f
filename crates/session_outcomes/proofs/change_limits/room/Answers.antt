use Rattle.session_spec.specs.Machine.{machine_of}
use Rattle.session_table.specs.Table.{table_of}
use Rattle.session_outcomes.proofs.Hinders.{no_room, with_room, full_anyway}
use Rattle.session_outcomes.proofs.change_limits.room.Goals as goal

pub returns-in_default : goal.returns-in_default
returns-in_default c = λ weight to leads. full_anyway (machine_of c.args.machine.now) (table_of c.args.machine.now c.args.sessions.now weight) c.args.name.now c.args.pages.now to c.requires.some c.in_default.ensures

pub returns-then-branch : goal.returns-then-branch
returns-then-branch c = λ weight to leads. no_room (machine_of c.args.machine.now) (table_of c.args.machine.now c.args.sessions.now weight) c.args.name.now c.args.pages.now to c.in-Some.count c.requires.some c.in-Some.ensures.0 c.in-Some.ensures.1 leads _ (c.in_ok-pages_full.ensures weight) c.if-branch.true

pub returns : goal.returns
returns c = λ weight to leads. with_room (machine_of c.args.machine.now) (table_of c.args.machine.now c.args.sessions.now weight) c.args.name.now c.args.pages.now to c.in-Some.count c.requires.some c.in-Some.ensures.0 c.in-Some.ensures.1 leads _ (c.in_ok-pages_full.ensures weight) c.if-branch.false
