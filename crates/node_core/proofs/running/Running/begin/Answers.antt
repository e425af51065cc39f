use Rattle.node_core.specs.Conns.{ConnsBegin}
use Rattle.node_core.proofs.ConnStreams.{timeout_begins, beat_begins, yield_begins, peer_begins, read_begins}
use Rattle.std.proofs.Common.{ℕ, List, sym, subst}
use Rattle.raft_core.specs.declared.event.RaftEvent.TheVariants as raft_events
use Rattle.raft_membership.specs.Members.{read_setup}
use Rattle.raft_on_disk.specs.Replicas.{ReplicaValue, IsKept, kept_of}
use Rattle.node_core.specs.declared.event.Event.{Event}
use Rattle.node_core.specs.declared.event.Event.TheVariants as happens
use Rattle.node_core.specs.Account.{Happens, SoFar, Stopped}
use Rattle.node_core.specs.Performing.{ReceivesBytes}
use Rattle.node_core.proofs.Beginning.{begins_raft, with_timeout, with_beat, with_yield, with_peer, begins_connect, begins_hangup, begins_bytes}
use Rattle.node_core.proofs.Led.{led_comes, led_goes, led_hears}
use Rattle.node_core.proofs.Finding.{more, kept_finds, failed as always_err}
use Rattle.node_core.specs.Finding.{BeganStops}
use Rattle.node_core.proofs.StopsOfStep.{began_stopped, client_stopped}
use Rattle.std.proofs.Common.{◌≡◌, [], refl}
use Rattle.node_core.specs.Core.{core_of, hearing}
use Rattle.node_core.specs.Exact.{ExactBegin}
use Rattle.node_core.specs.ExactParts.{Answered}
use Rattle.node_core.proofs.ExactTurns.{unanswered}
use Rattle.node_core.proofs.running.Running.begin.Goals as goal

pub returns-in_ok-take_raft-in-Timeout-clause-conns : goal.returns-in_ok-take_raft-in-Timeout-clause-conns
returns-in_ok-take_raft-in-Timeout-clause-conns g c =
    subst (λ (e : Event). ConnsBegin e c.args.self.now c.take_raft.new.self) (sym c.in-Timeout.is) (timeout_begins c.args.self.now c.take_raft.new.self c.in_ok-take_raft-in-Timeout.ensures.conns)

pub returns-in_ok-take_raft-in-Beat-clause-conns : goal.returns-in_ok-take_raft-in-Beat-clause-conns
returns-in_ok-take_raft-in-Beat-clause-conns g c =
    subst (λ (e : Event). ConnsBegin e c.args.self.now c.take_raft-in-Beat.new.self) (sym c.in-Beat.is) (beat_begins c.args.self.now c.take_raft-in-Beat.new.self c.in_ok-take_raft-in-Beat.ensures.conns)

pub returns-in_ok-take_raft-in-Yield-clause-conns : goal.returns-in_ok-take_raft-in-Yield-clause-conns
returns-in_ok-take_raft-in-Yield-clause-conns g c =
    subst (λ (e : Event). ConnsBegin e c.args.self.now c.take_raft-in-Yield.new.self) (sym c.in-Yield.is)
    (yield_begins c.args.self.now c.take_raft-in-Yield.new.self c.in_ok-take_raft-in-Yield.ensures.conns)

pub returns-in_ok-take_raft-in-Peer-clause-conns : goal.returns-in_ok-take_raft-in-Peer-clause-conns
returns-in_ok-take_raft-in-Peer-clause-conns g c =
    subst (λ (e : Event). ConnsBegin e c.args.self.now c.take_raft-in-Peer.new.self) (sym c.in-Peer.is)
    (peer_begins c.in-Peer.message c.args.self.now c.take_raft-in-Peer.new.self c.in_ok-take_raft-in-Peer.ensures.conns)

pub returns-in_ok-read_done-in-ReadDone-clause-conns : goal.returns-in_ok-read_done-in-ReadDone-clause-conns
returns-in_ok-read_done-in-ReadDone-clause-conns g c =
    subst (λ (e : Event). ConnsBegin e c.args.self.now c.read_done.new.self) (sym c.in-ReadDone.is)
    (read_begins c.in-ReadDone.conn c.in-ReadDone.read c.args.self.now c.read_done.new.self c.in_ok-read_done-in-ReadDone.ensures.conns)

pub returns-in_ok-connect-in-Connect-clause-begun : goal.returns-in_ok-connect-in-Connect-clause-begun
returns-in_ok-connect-in-Connect-clause-begun g c = λ opening.
    let setup = read_setup opening in
    let kind = g.E.Engine.kind c.args.engine.now in
    let m = g.E.Engine.meaning kind in
    subst (λ (e : Event). SoFar m kind setup c.args.self.now c.connect.new.self (Happens e) (g.E.Engine.told c.args.engine.now) (g.E.Engine.told c.args.engine.now)) (sym c.in-Connect.is)
    (begins_connect m kind setup c.args.self.now c.connect.new.self c.in-Connect.conn c.in_ok-connect-in-Connect.ensures.goes c.in_ok-connect-in-Connect.ensures.quiet c.in_ok-connect-in-Connect.ensures.replica)

pub returns-in-Hangup-clause-begun : goal.returns-in-Hangup-clause-begun
returns-in-Hangup-clause-begun g c = λ opening.
    let setup = read_setup opening in
    let kind = g.E.Engine.kind c.args.engine.now in
    let m = g.E.Engine.meaning kind in
    subst (λ (e : Event). SoFar m kind setup c.args.self.now c.hang_up.new.self (Happens e) (g.E.Engine.told c.args.engine.now) (g.E.Engine.told c.args.engine.now)) (sym c.in-Hangup.is)
    (begins_hangup m kind setup c.args.self.now c.hang_up.new.self c.in-Hangup.conn c.hang_up.ensures.goes c.hang_up.ensures.quiet c.hang_up.ensures.replica)

pub returns-in_ok-receive-in-Bytes-clause-begun : goal.returns-in_ok-receive-in-Bytes-clause-begun
returns-in_ok-receive-in-Bytes-clause-begun g c = λ opening.
    let setup = read_setup opening in
    let kind = g.E.Engine.kind c.args.engine.now in
    let m = g.E.Engine.meaning kind in
    subst (λ (e : Event). SoFar m kind setup c.args.self.now c.receive.new.self (Happens e) (g.E.Engine.told c.args.engine.now) (g.E.Engine.told c.args.engine.now)) (sym c.in-Bytes.is)
    (begins_bytes m kind setup c.args.self.now c.receive.new.self c.in-Bytes.conn c.in-Bytes.bytes
    (subst (λ (b : List ℕ). ReceivesBytes c.args.self.now c.receive.new.self c.in-Bytes.conn b) c.as_slice.ensures c.in_ok-receive-in-Bytes.ensures.goes)
    c.receive.ensures.quiet c.receive.ensures.replica)

pub returns-in_ok-read_done-in-ReadDone-clause-begun : goal.returns-in_ok-read_done-in-ReadDone-clause-begun
returns-in_ok-read_done-in-ReadDone-clause-begun g c = λ opening.
    let setup = read_setup opening in
    let kind = g.E.Engine.kind c.args.engine.now in
    let m = g.E.Engine.meaning kind in
    subst (λ (e : Event). SoFar m kind setup c.args.self.now c.read_done.new.self (Happens e) (g.E.Engine.told c.args.engine.now) (g.E.Engine.told c.read_done.new.engine)) (sym c.in-ReadDone.is) (c.in_ok-read_done-in-ReadDone.ensures.begun setup)

pub returns-in_ok-take_raft-in-Timeout-clause-begun : goal.returns-in_ok-take_raft-in-Timeout-clause-begun
returns-in_ok-take_raft-in-Timeout-clause-begun g c = λ opening.
    let kind = g.E.Engine.kind c.args.engine.now in
    let m = g.E.Engine.meaning kind in
    subst (λ (e : Event). SoFar m kind (read_setup opening) c.args.self.now c.take_raft.new.self (Happens e) (g.E.Engine.told c.args.engine.now) (g.E.Engine.told c.take_raft.new.engine)) (sym c.in-Timeout.is)
    (begins_raft m kind (read_setup opening) c.args.self.now c.take_raft.new.self (Happens happens.Timeout) raft_events.Timeout (with_timeout c.args.self.now) (c.in_ok-take_raft-in-Timeout.ensures.began opening))

pub returns-in_ok-take_raft-in-Beat-clause-begun : goal.returns-in_ok-take_raft-in-Beat-clause-begun
returns-in_ok-take_raft-in-Beat-clause-begun g c = λ opening.
    let kind = g.E.Engine.kind c.args.engine.now in
    let m = g.E.Engine.meaning kind in
    subst (λ (e : Event). SoFar m kind (read_setup opening) c.args.self.now c.take_raft-in-Beat.new.self (Happens e) (g.E.Engine.told c.args.engine.now) (g.E.Engine.told c.take_raft-in-Beat.new.engine)) (sym c.in-Beat.is)
    (begins_raft m kind (read_setup opening) c.args.self.now c.take_raft-in-Beat.new.self (Happens happens.Beat) raft_events.Beat (with_beat c.args.self.now) (c.in_ok-take_raft-in-Beat.ensures.began opening))

pub returns-in_ok-take_raft-in-Yield-clause-begun : goal.returns-in_ok-take_raft-in-Yield-clause-begun
returns-in_ok-take_raft-in-Yield-clause-begun g c = λ opening.
    let kind = g.E.Engine.kind c.args.engine.now in
    let m = g.E.Engine.meaning kind in
    subst (λ (e : Event). SoFar m kind (read_setup opening) c.args.self.now c.take_raft-in-Yield.new.self (Happens e) (g.E.Engine.told c.args.engine.now) (g.E.Engine.told c.take_raft-in-Yield.new.engine)) (sym c.in-Yield.is)
    (begins_raft m kind (read_setup opening) c.args.self.now c.take_raft-in-Yield.new.self (Happens happens.Yield) raft_events.Yield (with_yield c.args.self.now) (c.in_ok-take_raft-in-Yield.ensures.began opening))

pub returns-in_ok-take_raft-in-Peer-clause-begun : goal.returns-in_ok-take_raft-in-Peer-clause-begun
returns-in_ok-take_raft-in-Peer-clause-begun g c = λ opening.
    let kind = g.E.Engine.kind c.args.engine.now in
    let m = g.E.Engine.meaning kind in
    subst (λ (e : Event). SoFar m kind (read_setup opening) c.args.self.now c.take_raft-in-Peer.new.self (Happens e) (g.E.Engine.told c.args.engine.now) (g.E.Engine.told c.take_raft-in-Peer.new.engine)) (sym c.in-Peer.is)
    (begins_raft m kind (read_setup opening) c.args.self.now c.take_raft-in-Peer.new.self (Happens (happens.Peer c.in-Peer.message)) (raft_events.Message c.in-Peer.message) (with_peer c.args.self.now c.in-Peer.message) (c.in_ok-take_raft-in-Peer.ensures.began opening))

pub returns-in_ok-connect-in-Connect-clause-stored : goal.returns-in_ok-connect-in-Connect-clause-stored
returns-in_ok-connect-in-Connect-clause-stored g c = λ has. subst (λ (r : ReplicaValue). IsKept g.D.Disk.tells (g.D.Disk.states c.args.disk.now) r) (sym c.connect.ensures.replica) has

pub returns-in-Hangup-clause-stored : goal.returns-in-Hangup-clause-stored
returns-in-Hangup-clause-stored g c = λ has. subst (λ (r : ReplicaValue). IsKept g.D.Disk.tells (g.D.Disk.states c.args.disk.now) r) (sym c.hang_up.ensures.replica) has

pub returns-in_ok-receive-in-Bytes-clause-stored : goal.returns-in_ok-receive-in-Bytes-clause-stored
returns-in_ok-receive-in-Bytes-clause-stored g c = λ has. subst (λ (r : ReplicaValue). IsKept g.D.Disk.tells (g.D.Disk.states c.args.disk.now) r) (sym c.receive.ensures.replica) has

pub returns-in_ok-read_done-in-ReadDone-clause-stored : goal.returns-in_ok-read_done-in-ReadDone-clause-stored
returns-in_ok-read_done-in-ReadDone-clause-stored g c = λ has. subst (λ (r : ReplicaValue). IsKept g.D.Disk.tells (g.D.Disk.states c.args.disk.now) r) (sym c.read_done.ensures.replica) has

pub returns-in_ok-connect-in-Connect-clause-led : goal.returns-in_ok-connect-in-Connect-clause-led
returns-in_ok-connect-in-Connect-clause-led g c = led_comes c.args.self.now c.connect.new.self c.in-Connect.conn c.requires.led c.connect.ensures.office c.in_ok-connect-in-Connect.ensures.goes

pub returns-in-Hangup-clause-led : goal.returns-in-Hangup-clause-led
returns-in-Hangup-clause-led g c = led_goes c.args.self.now c.hang_up.new.self c.in-Hangup.conn c.requires.led c.hang_up.ensures.office c.hang_up.ensures.goes

pub returns-in_ok-receive-in-Bytes-clause-led : goal.returns-in_ok-receive-in-Bytes-clause-led
returns-in_ok-receive-in-Bytes-clause-led g c = led_hears c.args.self.now c.receive.new.self c.in-Bytes.conn _ c.requires.led c.receive.ensures.office c.in_ok-receive-in-Bytes.ensures.goes

pub returns-in_err-connect-in-Connect-clause-stops : goal.returns-in_err-connect-in-Connect-clause-stops
returns-in_err-connect-in-Connect-clause-stops g c = λ opening stood has.
    always_err c.from_residual-in_err-connect-in-Connect.result
    (
    let kind = g.E.Engine.kind c.args.engine.now in
    let m = g.E.Engine.meaning kind in
    kept_finds g.D.Disk.tells (g.D.Disk.states c.args.disk.now) c.args.self.now.replica (Stopped m kind (read_setup opening) c.args.self.now (Happens c.args.event))
    (subst (λ (e : Event). Stopped m kind (read_setup opening) c.args.self.now (Happens e) (kept_of c.args.self.now.replica)) (sym c.in-Connect.is) (client_stopped m kind (read_setup opening) c.args.self.now (happens.Connect c.in-Connect.conn) c.databases_stand.ensures stood tt)) has
    )

pub returns-in_err-receive-in-Bytes-clause-stops : goal.returns-in_err-receive-in-Bytes-clause-stops
returns-in_err-receive-in-Bytes-clause-stops g c = λ opening stood has.
    always_err c.from_residual-in_err-receive-in-Bytes.result
    (
    let kind = g.E.Engine.kind c.args.engine.now in
    let m = g.E.Engine.meaning kind in
    kept_finds g.D.Disk.tells (g.D.Disk.states c.args.disk.now) c.args.self.now.replica (Stopped m kind (read_setup opening) c.args.self.now (Happens c.args.event))
    (subst (λ (e : Event). Stopped m kind (read_setup opening) c.args.self.now (Happens e) (kept_of c.args.self.now.replica)) (sym c.in-Bytes.is) (client_stopped m kind (read_setup opening) c.args.self.now (happens.Bytes c.in-Bytes.conn c.in-Bytes.bytes) c.databases_stand.ensures stood tt)) has
    )

pub returns-in_err-read_done-in-ReadDone-clause-stops : goal.returns-in_err-read_done-in-ReadDone-clause-stops
returns-in_err-read_done-in-ReadDone-clause-stops g c = λ opening stood has.
    always_err c.from_residual-in_err-read_done-in-ReadDone.result
    (
    let kind = g.E.Engine.kind c.args.engine.now in
    let m = g.E.Engine.meaning kind in
    kept_finds g.D.Disk.tells (g.D.Disk.states c.args.disk.now) c.args.self.now.replica (Stopped m kind (read_setup opening) c.args.self.now (Happens c.args.event))
    (subst (λ (e : Event). Stopped m kind (read_setup opening) c.args.self.now (Happens e) (kept_of c.args.self.now.replica)) (sym c.in-ReadDone.is) (client_stopped m kind (read_setup opening) c.args.self.now (happens.ReadDone c.in-ReadDone.conn c.in-ReadDone.read) c.databases_stand.ensures stood tt)) has
    )

pub returns-in_err-take_raft-in-Timeout-clause-stops : goal.returns-in_err-take_raft-in-Timeout-clause-stops
returns-in_err-take_raft-in-Timeout-clause-stops g c = λ opening stood has.
    always_err c.from_residual.result
    (
    let kind = g.E.Engine.kind c.args.engine.now in
    let m = g.E.Engine.meaning kind in
    more g.D.Disk.tells (g.D.Disk.states c.take_raft.new.disk) (BeganStops m kind (read_setup opening) c.args.self.now raft_events.Timeout) (Stopped m kind (read_setup opening) c.args.self.now (Happens c.args.event))
    (λ kept s. subst (λ (e : Event). Stopped m kind (read_setup opening) c.args.self.now (Happens e) kept) (sym c.in-Timeout.is)
    (began_stopped c.raft_steps_are_kept.ensures.stops m kind (read_setup opening) c.args.self.now (Happens happens.Timeout) raft_events.Timeout kept stood (with_timeout c.args.self.now) tt s)) (c.in_err-take_raft-in-Timeout.ensures.stops opening has)
    )

pub returns-in_err-take_raft-in-Beat-clause-stops : goal.returns-in_err-take_raft-in-Beat-clause-stops
returns-in_err-take_raft-in-Beat-clause-stops g c = λ opening stood has.
    always_err c.from_residual-in_err-take_raft-in-Beat.result
    (
    let kind = g.E.Engine.kind c.args.engine.now in
    let m = g.E.Engine.meaning kind in
    more g.D.Disk.tells (g.D.Disk.states c.take_raft-in-Beat.new.disk) (BeganStops m kind (read_setup opening) c.args.self.now raft_events.Beat) (Stopped m kind (read_setup opening) c.args.self.now (Happens c.args.event))
    (λ kept s. subst (λ (e : Event). Stopped m kind (read_setup opening) c.args.self.now (Happens e) kept) (sym c.in-Beat.is)
    (began_stopped c.raft_steps_are_kept.ensures.stops m kind (read_setup opening) c.args.self.now (Happens happens.Beat) raft_events.Beat kept stood (with_beat c.args.self.now) tt s)) (c.in_err-take_raft-in-Beat.ensures.stops opening has)
    )

pub returns-in_err-take_raft-in-Yield-clause-stops : goal.returns-in_err-take_raft-in-Yield-clause-stops
returns-in_err-take_raft-in-Yield-clause-stops g c = λ opening stood has.
    always_err c.from_residual-in_err-take_raft-in-Yield.result
    (
    let kind = g.E.Engine.kind c.args.engine.now in
    let m = g.E.Engine.meaning kind in
    more g.D.Disk.tells (g.D.Disk.states c.take_raft-in-Yield.new.disk) (BeganStops m kind (read_setup opening) c.args.self.now raft_events.Yield)
    (Stopped m kind (read_setup opening) c.args.self.now (Happens c.args.event))
    (λ kept s. subst (λ (e : Event). Stopped m kind (read_setup opening) c.args.self.now (Happens e) kept) (sym c.in-Yield.is)
    (began_stopped c.raft_steps_are_kept.ensures.stops m kind (read_setup opening) c.args.self.now (Happens happens.Yield) raft_events.Yield kept stood (with_yield c.args.self.now) tt s)) (c.in_err-take_raft-in-Yield.ensures.stops opening has)
    )

pub returns-in_err-take_raft-in-Peer-clause-stops : goal.returns-in_err-take_raft-in-Peer-clause-stops
returns-in_err-take_raft-in-Peer-clause-stops g c = λ opening stood has.
    always_err c.from_residual-in_err-take_raft-in-Peer.result
    (
    let kind = g.E.Engine.kind c.args.engine.now in
    let m = g.E.Engine.meaning kind in
    more g.D.Disk.tells (g.D.Disk.states c.take_raft-in-Peer.new.disk) (BeganStops m kind (read_setup opening) c.args.self.now (raft_events.Message c.in-Peer.message)) (Stopped m kind (read_setup opening) c.args.self.now (Happens c.args.event))
    (λ kept s. subst (λ (e : Event). Stopped m kind (read_setup opening) c.args.self.now (Happens e) kept) (sym c.in-Peer.is)
    (began_stopped c.raft_steps_are_kept.ensures.stops m kind (read_setup opening) c.args.self.now (Happens (happens.Peer c.in-Peer.message)) (raft_events.Message c.in-Peer.message) kept stood (with_peer c.args.self.now c.in-Peer.message) tt s)) (c.in_err-take_raft-in-Peer.ensures.stops opening has)
    )

pub returns-in_ok-take_raft-in-Timeout-clause-exact : goal.returns-in_ok-take_raft-in-Timeout-clause-exact
returns-in_ok-take_raft-in-Timeout-clause-exact g c =
    subst (λ (e : Event). Answered (g.E.Engine.told c.args.engine.now) (g.E.Engine.told c.take_raft.new.engine) (ExactBegin e (core_of c.args.self.now) (core_of c.take_raft.new.self))) (sym c.in-Timeout.is)
    (unanswered (ExactBegin happens.Timeout (core_of c.args.self.now) (core_of c.take_raft.new.self)) (g.E.Engine.told c.args.engine.now) (g.E.Engine.told c.take_raft.new.engine) c.in_ok-take_raft-in-Timeout.ensures.untold (c.in_ok-take_raft-in-Timeout.ensures.exact, refl))

pub returns-in_ok-take_raft-in-Beat-clause-exact : goal.returns-in_ok-take_raft-in-Beat-clause-exact
returns-in_ok-take_raft-in-Beat-clause-exact g c =
    subst (λ (e : Event). Answered (g.E.Engine.told c.args.engine.now) (g.E.Engine.told c.take_raft-in-Beat.new.engine) (ExactBegin e (core_of c.args.self.now) (core_of c.take_raft-in-Beat.new.self))) (sym c.in-Beat.is)
    (unanswered (ExactBegin happens.Beat (core_of c.args.self.now) (core_of c.take_raft-in-Beat.new.self)) (g.E.Engine.told c.args.engine.now) (g.E.Engine.told c.take_raft-in-Beat.new.engine) c.in_ok-take_raft-in-Beat.ensures.untold (c.in_ok-take_raft-in-Beat.ensures.exact, refl))

pub returns-in_ok-take_raft-in-Yield-clause-exact : goal.returns-in_ok-take_raft-in-Yield-clause-exact
returns-in_ok-take_raft-in-Yield-clause-exact g c =
    subst (λ (e : Event). Answered (g.E.Engine.told c.args.engine.now) (g.E.Engine.told c.take_raft-in-Yield.new.engine) (ExactBegin e (core_of c.args.self.now) (core_of c.take_raft-in-Yield.new.self))) (sym c.in-Yield.is)
    (unanswered (ExactBegin happens.Yield (core_of c.args.self.now) (core_of c.take_raft-in-Yield.new.self)) (g.E.Engine.told c.args.engine.now) (g.E.Engine.told c.take_raft-in-Yield.new.engine) c.in_ok-take_raft-in-Yield.ensures.untold (c.in_ok-take_raft-in-Yield.ensures.exact, refl))

pub returns-in_ok-take_raft-in-Peer-clause-exact : goal.returns-in_ok-take_raft-in-Peer-clause-exact
returns-in_ok-take_raft-in-Peer-clause-exact g c =
    subst (λ (e : Event). Answered (g.E.Engine.told c.args.engine.now) (g.E.Engine.told c.take_raft-in-Peer.new.engine) (ExactBegin e (core_of c.args.self.now) (core_of c.take_raft-in-Peer.new.self))) (sym c.in-Peer.is)
    (unanswered (ExactBegin (happens.Peer c.in-Peer.message) (core_of c.args.self.now) (core_of c.take_raft-in-Peer.new.self)) (g.E.Engine.told c.args.engine.now) (g.E.Engine.told c.take_raft-in-Peer.new.engine) c.in_ok-take_raft-in-Peer.ensures.untold (c.in_ok-take_raft-in-Peer.ensures.exact, refl))

pub returns-in_ok-connect-in-Connect-clause-exact : goal.returns-in_ok-connect-in-Connect-clause-exact
returns-in_ok-connect-in-Connect-clause-exact g c =
    subst (λ (e : Event). Answered (g.E.Engine.told c.args.engine.now) (g.E.Engine.told c.args.engine.now) (ExactBegin e (core_of c.args.self.now) (core_of c.connect.new.self))) (sym c.in-Connect.is)
    (unanswered (ExactBegin (happens.Connect c.in-Connect.conn) (core_of c.args.self.now) (core_of c.connect.new.self)) (g.E.Engine.told c.args.engine.now) (g.E.Engine.told c.args.engine.now) refl (c.in_ok-connect-in-Connect.ensures.exact, refl))

pub returns-in-Hangup-clause-exact : goal.returns-in-Hangup-clause-exact
returns-in-Hangup-clause-exact g c =
    subst (λ (e : Event). Answered (g.E.Engine.told c.args.engine.now) (g.E.Engine.told c.args.engine.now) (ExactBegin e (core_of c.args.self.now) (core_of c.hang_up.new.self))) (sym c.in-Hangup.is)
    (unanswered (ExactBegin (happens.Hangup c.in-Hangup.conn) (core_of c.args.self.now) (core_of c.hang_up.new.self)) (g.E.Engine.told c.args.engine.now) (g.E.Engine.told c.args.engine.now) refl (c.hang_up.ensures.exact, refl))

pub returns-in_ok-receive-in-Bytes-clause-exact : goal.returns-in_ok-receive-in-Bytes-clause-exact
returns-in_ok-receive-in-Bytes-clause-exact g c =
    subst (λ (e : Event). Answered (g.E.Engine.told c.args.engine.now) (g.E.Engine.told c.args.engine.now) (ExactBegin e (core_of c.args.self.now) (core_of c.receive.new.self))) (sym c.in-Bytes.is)
    (unanswered (ExactBegin (happens.Bytes c.in-Bytes.conn c.in-Bytes.bytes) (core_of c.args.self.now) (core_of c.receive.new.self)) (g.E.Engine.told c.args.engine.now) (g.E.Engine.told c.args.engine.now) refl (subst (λ (b : List ℕ). (core_of c.args.self.now).links ≡ [] → core_of c.receive.new.self ≡ hearing c.in-Bytes.conn b (core_of c.args.self.now)) c.as_slice.ensures c.in_ok-receive-in-Bytes.ensures.exact, refl))

pub returns-in_ok-read_done-in-ReadDone-clause-exact : goal.returns-in_ok-read_done-in-ReadDone-clause-exact
returns-in_ok-read_done-in-ReadDone-clause-exact g c =
    let so_far = c.in_ok-read_done-in-ReadDone.ensures.begun (read_setup []) in
    subst (λ (e : Event). Answered (g.E.Engine.told c.args.engine.now) (g.E.Engine.told c.read_done.new.engine) (ExactBegin e (core_of c.args.self.now) (core_of c.read_done.new.self))) (sym c.in-ReadDone.is)
    (record { answers = so_far.since.piece.answers; told = so_far.since.heard; by = tt })
