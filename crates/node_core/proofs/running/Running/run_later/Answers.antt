use Rattle.node_core.proofs.CoreMoves.{later_by, no_later}
use Rattle.node_core.specs.declared.running.Running.{Running}
use Rattle.node_core.proofs.ConnStreams.{later_kept, none_later}
use Rattle.std.proofs.Common.{refl}
use Rattle.node_core.proofs.ClientTurns.{ran_turns_on, none_turns_on}
use Rattle.node_core.proofs.Led.{ran_led, none_led}
use Rattle.node_core.proofs.Looping.{turns_kept}
use Rattle.node_core.proofs.running.Running.run_later.Goals as goal

pub returns-in_ok-perform-in-Some-clause-conns : goal.returns-in_ok-perform-in-Some-clause-conns
returns-in_ok-perform-in-Some-clause-conns g c =
    let mid : Running = record c.args.self.now { clients = c.on_later.new.self; applied = record c.args.self.now.applied { machine = c.on_later.new.machine } } in
    later_kept _ c.args.self.now mid c.perform.new.self c.args.conn _ _ c.in_ok-act.act c.in-Some.act c.in_ok-act.ensures.resumed c.in_ok-act.ensures.rest c.in-Some.is refl refl refl refl refl
    c.in_ok-perform-in-Some.ensures.conns

pub returns-in-None-clause-conns : goal.returns-in-None-clause-conns
returns-in-None-clause-conns g c =
    let new : Running = record c.args.self.now { clients = c.on_later.new.self; applied = record c.args.self.now.applied { machine = c.on_later.new.machine } } in
    none_later c.args.self.now new c.args.conn c.in_ok-act.act c.in_ok-act.ensures.rest refl refl refl refl refl

pub returns-in_ok-perform-in-Some-clause-goes : goal.returns-in_ok-perform-in-Some-clause-goes
returns-in_ok-perform-in-Some-clause-goes g c = λ setup bytes joins.
    let kind = g.E.Engine.kind c.args.engine.now in
    turns_kept (g.E.Engine.meaning kind) kind setup bytes joins c.args.self.now c.perform.new.self c.perform.ensures.replica c.in_ok-perform-in-Some.ensures.performed.members c.in_ok-perform-in-Some.ensures.performed.links
    (ran_turns_on (g.E.Engine.meaning kind) kind (c.stretches_join.ensures.on kind) (c.clients_turn.ensures.stays kind) (c.clients_turn.ensures.leaves kind) setup bytes joins
    (c.clients_turn.ensures.handles kind) (c.clients_turn.ensures.resumes kind) c.args.self.now _ c.requires.going c.requires.idle refl c.databases_stand.ensures c.in_ok-act.ensures.files _ _ _ _
    c.in-Some.act c.perform.new.self c.args.conn c.in_ok-act.act c.in_ok-act.ensures.resumed c.in_ok-act.ensures.rest c.in-Some.is c.in_ok-perform-in-Some.ensures.performed)

pub returns-in_ok-perform-in-Some-clause-led : goal.returns-in_ok-perform-in-Some-clause-led
returns-in_ok-perform-in-Some-clause-led g c =
    let kind = g.E.Engine.kind c.args.engine.now in
    ran_led (g.E.Engine.meaning kind) kind c.args.self.now _ c.requires.going c.requires.led c.requires.idle refl c.databases_stand.ensures c.in_ok-act.ensures.files _ _ _ _
    c.in-Some.act c.perform.new.self c.args.conn c.in_ok-act.act c.in_ok-act.ensures.resumed c.in_ok-act.ensures.rest c.in-Some.is c.in_ok-perform-in-Some.ensures.performed

pub returns-in-None-clause-goes : goal.returns-in-None-clause-goes
returns-in-None-clause-goes g c = λ setup bytes joins.
    let kind = g.E.Engine.kind c.args.engine.now in
    turns_kept (g.E.Engine.meaning kind) kind setup bytes joins c.args.self.now _ refl refl refl
    (none_turns_on (g.E.Engine.meaning kind) kind (c.stretches_join.ensures.on kind) (c.clients_turn.ensures.stays kind) (c.clients_turn.ensures.leaves kind) setup bytes joins
    c.args.self.now _ c.args.conn _ _ _ _ refl c.databases_stand.ensures c.in_ok-act.ensures.files c.in_ok-act.act c.in_ok-act.ensures.resumed c.in_ok-act.ensures.rest c.in-None.is)

pub returns-in-None-clause-led : goal.returns-in-None-clause-led
returns-in-None-clause-led g c =
    let kind = g.E.Engine.kind c.args.engine.now in
    none_led (g.E.Engine.meaning kind) kind c.args.self.now _ c.requires.going c.requires.led c.requires.idle refl c.databases_stand.ensures c.in_ok-act.ensures.files _ _ _ _
    c.args.conn c.in_ok-act.act c.in_ok-act.ensures.resumed c.in-None.is

pub returns-in_ok-perform-in-Some-clause-exact : goal.returns-in_ok-perform-in-Some-clause-exact
returns-in_ok-perform-in-Some-clause-exact g c =
    let kind = g.E.Engine.kind c.args.engine.now in
    let mid : Running = record c.args.self.now { clients = c.on_later.new.self; applied = record c.args.self.now.applied { machine = c.on_later.new.machine } } in
    later_by (g.E.Engine.meaning kind) kind _ _ _ _ c.args.self.now mid c.args.conn c.perform.new.self c.in-Some.act c.in_ok-act.act refl c.in_ok-act.ensures.files c.in_ok-act.ensures.resumed c.in_ok-act.ensures.rest c.in-Some.is
    c.in_ok-perform-in-Some.ensures.exact

pub returns-in-None-clause-exact : goal.returns-in-None-clause-exact
returns-in-None-clause-exact g c =
    let kind = g.E.Engine.kind c.args.engine.now in
    let new : Running = record c.args.self.now { clients = c.on_later.new.self; applied = record c.args.self.now.applied { machine = c.on_later.new.machine } } in
    no_later (g.E.Engine.meaning kind) kind _ _ _ _ c.args.self.now new c.args.conn c.in_ok-act.act refl c.in_ok-act.ensures.files c.in_ok-act.ensures.resumed c.in_ok-act.ensures.rest c.in-None.is
