use Rattle.node_core.proofs.CoreMoves.{first_found, none_found, due_by, none_due_by}
use Rattle.std.proofs.Common.{sym, ap, refl}
use Rattle.std.specs.Prelude.{is_some}
use Rattle.node_core.proofs.ConnStreams.{kept_same}
use Rattle.node_core.proofs.ClientTurns.{nothing_turns}
use Rattle.node_core.proofs.Looping.{turns_kept}
use Rattle.node_core.proofs.running.Running.run_due.Goals as goal

pub returns-in_default-clause-conns : goal.returns-in_default-clause-conns
returns-in_default-clause-conns g c = kept_same c.args.self.now

pub returns-in_default-clause-goes : goal.returns-in_default-clause-goes
returns-in_default-clause-goes g c = λ setup bytes joins.
    let kind = g.E.Engine.kind c.args.engine.now in
    turns_kept (g.E.Engine.meaning kind) kind setup bytes joins c.args.self.now c.args.self.now refl refl refl (nothing_turns (g.E.Engine.meaning kind) kind (c.stretches_join.ensures.nothing kind) setup bytes joins c.args.self.now)

pub returns-in_default-clause-due : goal.returns-in_default-clause-due
returns-in_default-clause-due g c = sym (ap is_some (none_found c.args.self.now c.next_due.result (c.next_due.ensures c.args.self.now.applied.machine) c.in_default.is))

pub returns-in_default-clause-exact : goal.returns-in_default-clause-exact
returns-in_default-clause-exact g c =
    let kind = g.E.Engine.kind c.args.engine.now in
    none_due_by (g.E.Engine.meaning kind) kind (g.E.Engine.told c.args.engine.now) c.args.self.now (none_found c.args.self.now c.next_due.result (c.next_due.ensures c.args.self.now.applied.machine) c.in_default.is)

pub returns-clause-due : goal.returns-clause-due
returns-clause-due g c = sym (ap is_some (first_found c.args.self.now c.next_due.result c.in-Some.conn (c.next_due.ensures c.args.self.now.applied.machine) c.in-Some.is))

pub returns-clause-exact : goal.returns-clause-exact
returns-clause-exact g c =
    let kind = g.E.Engine.kind c.args.engine.now in
    due_by (g.E.Engine.meaning kind) kind _ _ c.args.self.now c.run_later.new.self c.in-Some.conn (first_found c.args.self.now c.next_due.result c.in-Some.conn (c.next_due.ensures c.args.self.now.applied.machine) c.in-Some.is)
    c.in_ok-run_later.ensures.exact
