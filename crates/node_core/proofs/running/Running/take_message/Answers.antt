use Rattle.node_core.proofs.CoreMoves.{message_by, idle_by, offers_so}
use Rattle.node_core.specs.declared.running.Running.{Running}
use Rattle.node_core.proofs.ConnStreams.{message_on, kept_on, idle_kept}
use Rattle.std.proofs.Common.{refl, Some, None}
use Rattle.node_core.proofs.Carried.{kept_moves, message_moves}
use Rattle.node_core.proofs.ClientTurns.{took_turns_on, idle_turns_on}
use Rattle.node_core.proofs.Led.{took_led, idle_led, idle_sessions}
use Rattle.node_core.proofs.Looping.{turns_kept}
use Rattle.node_core.proofs.running.Running.take_message.Goals as goal

pub returns-in_ok-perform-in-Some-clause-conns : goal.returns-in_ok-perform-in-Some-clause-conns
returns-in_ok-perform-in-Some-clause-conns g c =
    let mid : Running = record c.args.self.now { clients = c.next.new.self; applied = record c.args.self.now.applied { machine = c.next.new.machine } } in
    message_on _ c.args.self.now mid c.perform.new.self _ _ c.in_ok-act.act c.in-Some.act c.in_ok-act.ensures.turn c.in-Some.is refl refl refl refl c.in_ok-perform-in-Some.ensures.conns

pub returns-in-None-clause-conns : goal.returns-in-None-clause-conns
returns-in-None-clause-conns g c =
    let new : Running = record c.args.self.now { clients = c.next.new.self; applied = record c.args.self.now.applied { machine = c.next.new.machine } } in
    kept_on c.args.self.now new (idle_kept _ c.args.self.now new _ _ c.in_ok-act.act c.in_ok-act.ensures.turn c.in-None.is refl refl refl refl refl)

pub returns-in_ok-perform-in-Some-clause-moves : goal.returns-in_ok-perform-in-Some-clause-moves
returns-in_ok-perform-in-Some-clause-moves g c =
    let mid : Running = record c.args.self.now { clients = c.next.new.self; applied = record c.args.self.now.applied { machine = c.next.new.machine } } in
    message_moves _ c.args.self.now mid c.perform.new.self _ _ c.in_ok-act.act c.in-Some.act c.in_ok-act.ensures.turn c.in-Some.is refl refl refl refl refl c.in_ok-perform-in-Some.ensures.conns

pub returns-in-None-clause-moves : goal.returns-in-None-clause-moves
returns-in-None-clause-moves g c =
    let new : Running = record c.args.self.now { clients = c.next.new.self; applied = record c.args.self.now.applied { machine = c.next.new.machine } } in
    kept_moves c.args.self.now new (idle_kept _ c.args.self.now new _ _ c.in_ok-act.act c.in_ok-act.ensures.turn c.in-None.is refl refl refl refl refl)

pub returns-in_ok-perform-in-Some-clause-goes : goal.returns-in_ok-perform-in-Some-clause-goes
returns-in_ok-perform-in-Some-clause-goes g c = λ setup bytes joins.
    let kind = g.E.Engine.kind c.args.engine.now in
    turns_kept (g.E.Engine.meaning kind) kind setup bytes joins c.args.self.now c.perform.new.self c.perform.ensures.replica c.in_ok-perform-in-Some.ensures.performed.members c.in_ok-perform-in-Some.ensures.performed.links
    (took_turns_on (g.E.Engine.meaning kind) kind (c.stretches_join.ensures.on kind) (c.clients_turn.ensures.stays kind) (c.clients_turn.ensures.leaves kind) setup bytes joins
    (c.clients_turn.ensures.handles kind) (c.clients_turn.ensures.resumes kind) c.args.self.now _ c.requires.going c.requires.idle refl c.databases_stand.ensures c.in_ok-act.ensures.files _ _ _ _
    c.in-Some.act c.perform.new.self c.in_ok-act.act c.in_ok-act.ensures.turn c.in-Some.is c.in_ok-perform-in-Some.ensures.performed)

pub returns-in_ok-perform-in-Some-clause-led : goal.returns-in_ok-perform-in-Some-clause-led
returns-in_ok-perform-in-Some-clause-led g c =
    let kind = g.E.Engine.kind c.args.engine.now in
    took_led (g.E.Engine.meaning kind) kind c.args.self.now _ c.requires.going c.requires.led c.requires.idle refl c.databases_stand.ensures c.in_ok-act.ensures.files _ _ _ _
    c.in-Some.act c.perform.new.self c.in_ok-act.act c.in_ok-act.ensures.turn c.in-Some.is c.in_ok-perform-in-Some.ensures.performed

pub returns-in-None-clause-goes : goal.returns-in-None-clause-goes
returns-in-None-clause-goes g c = λ setup bytes joins.
    let kind = g.E.Engine.kind c.args.engine.now in
    turns_kept (g.E.Engine.meaning kind) kind setup bytes joins c.args.self.now _ refl refl refl
    (idle_turns_on (g.E.Engine.meaning kind) kind (c.stretches_join.ensures.on kind) (c.clients_turn.ensures.stays kind) (c.clients_turn.ensures.leaves kind) setup bytes joins
    c.args.self.now _ _ _ refl c.databases_stand.ensures c.in_ok-act.ensures.files _ _ c.in_ok-act.act c.in_ok-act.ensures.turn c.in-None.is)

pub returns-in-None-clause-led : goal.returns-in-None-clause-led
returns-in-None-clause-led g c =
    let kind = g.E.Engine.kind c.args.engine.now in
    idle_led (g.E.Engine.meaning kind) kind c.args.self.now _ c.requires.going c.requires.led c.requires.idle refl c.databases_stand.ensures c.in_ok-act.ensures.files _ _ _ _
    c.in_ok-act.act c.in_ok-act.ensures.turn c.in-None.is

pub returns-in-None-clause-sessions : goal.returns-in-None-clause-sessions
returns-in-None-clause-sessions g c = λ none.
    let kind = g.E.Engine.kind c.args.engine.now in
    idle_sessions (g.E.Engine.meaning kind) kind c.args.self.now _ c.requires.going c.requires.led c.requires.idle refl c.databases_stand.ensures c.in_ok-act.ensures.files _ _ _ _
    c.in_ok-act.act c.in_ok-act.ensures.turn c.in-None.is

pub returns-in_ok-perform-in-Some-clause-exact : goal.returns-in_ok-perform-in-Some-clause-exact
returns-in_ok-perform-in-Some-clause-exact g c =
    let kind = g.E.Engine.kind c.args.engine.now in
    let mid : Running = record c.args.self.now { clients = c.next.new.self; applied = record c.args.self.now.applied { machine = c.next.new.machine } } in
    message_by (g.E.Engine.meaning kind) kind _ _ _ _ c.args.self.now mid c.perform.new.self c.in-Some.act c.in_ok-perform-in-Some.ensures.exact refl c.in_ok-act.ensures.files c.in_ok-act.act c.in_ok-act.ensures.turn c.in-Some.is

pub returns-in_ok-perform-in-Some-clause-offers : goal.returns-in_ok-perform-in-Some-clause-offers
returns-in_ok-perform-in-Some-clause-offers g c =
    let kind = g.E.Engine.kind c.args.engine.now in
    let mid : Running = record c.args.self.now { clients = c.next.new.self; applied = record c.args.self.now.applied { machine = c.next.new.machine } } in
    offers_so (g.E.Engine.meaning kind) kind _ _ _ _ c.args.self.now mid c.in_ok-act.act (Some c.in-Some.act) c.in_ok-act.ensures.turn c.in-Some.is

pub returns-in-None-clause-exact : goal.returns-in-None-clause-exact
returns-in-None-clause-exact g c =
    let kind = g.E.Engine.kind c.args.engine.now in
    let new : Running = record c.args.self.now { clients = c.next.new.self; applied = record c.args.self.now.applied { machine = c.next.new.machine } } in
    idle_by (g.E.Engine.meaning kind) kind _ _ _ _ c.args.self.now new c.in_ok-act.act refl c.in_ok-act.ensures.files c.in_ok-act.ensures.turn c.in-None.is

pub returns-in-None-clause-offers : goal.returns-in-None-clause-offers
returns-in-None-clause-offers g c =
    let kind = g.E.Engine.kind c.args.engine.now in
    let new : Running = record c.args.self.now { clients = c.next.new.self; applied = record c.args.self.now.applied { machine = c.next.new.machine } } in
    offers_so (g.E.Engine.meaning kind) kind _ _ _ _ c.args.self.now new c.in_ok-act.act None c.in_ok-act.ensures.turn c.in-None.is
