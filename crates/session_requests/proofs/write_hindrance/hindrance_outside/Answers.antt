use Rattle.std.proofs.Common.{refl, None}
use Rattle.session_spec.specs.Causes.{Locked}
use Rattle.session_spec.specs.Limits.{other_holds}
use Rattle.session_table.specs.Table.{table_of}
use Rattle.session_requests.proofs.Hindered.{held, free}
use Rattle.session_requests.proofs.write_hindrance.hindrance_outside.Goals as goal

pub returns-then-other_holds : goal.returns-then-other_holds
returns-then-other_holds c = λ databases weight.
    let holds = other_holds (table_of databases c.args.sessions.now weight) c.args.conn c.args.name.now in
    held c.other_holds.result holds Locked None (c.other_holds.ensures databases weight) c.if-other_holds.true

pub returns : goal.returns
returns c = λ databases weight.
    let holds = other_holds (table_of databases c.args.sessions.now weight) c.args.conn c.args.name.now in
    free c.other_holds.result holds Locked None None (c.other_holds.ensures databases weight) c.if-other_holds.false refl
