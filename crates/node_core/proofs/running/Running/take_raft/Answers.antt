use Rattle.node_core.specs.Core.{core_of}
use Rattle.node_core.specs.ExactRaft.{ExactSnapshot, ExactOffers}
use Rattle.node_core.proofs.RaftExactly.{takes_plain, takes_snapshot, takes_none}
use Rattle.std.proofs.lemmas.Result.{on_ok_weaker, on_err_weaker}
use Rattle.sql_engine.specs.Meanings.{Told}
use Rattle.raft_membership.specs.Members.{read_setup}
use Rattle.node_core.specs.Taking.{BeganStep, bytes_with}
use Rattle.node_core.proofs.Besides.{may_outside}
use Rattle.node_core.proofs.RaftAccounts.{began_following, began_installing}
use Rattle.std.proofs.Common.{Option, refl, sym, subst}
use Rattle.node_spec.specs.RaftTurns.{at_first}
use Rattle.node_core.specs.Finding.{StopsFollowing, StopsInstalling, BeganStops, at_once}
use Rattle.node_core.proofs.Finding.{failed, more, kept_finds}
use Rattle.node_core.proofs.StopsOfTurns.{following_stops, installing_stops}
use Rattle.node_core.proofs.running.Running.take_raft.Goals as goal

pub returns-in-Nothing-clause-began : goal.returns-in-Nothing-clause-began
returns-in-Nothing-clause-began g c = λ opening.
    on_ok_weaker c.step_raft.result
    (began_following (g.E.Engine.meaning (g.E.Engine.kind c.args.engine.now)) (g.E.Engine.kind c.args.engine.now) opening c.args.self.now c.step_raft.new.self c.args.event)
    c.step_raft.ensures.began

pub returns-in_ok-step_install-in-Snapshot-clause-began : goal.returns-in_ok-step_install-in-Snapshot-clause-began
returns-in_ok-step_install-in-Snapshot-clause-began g c = λ opening.
    let kind = g.E.Engine.kind c.args.engine.now in
    let m = g.E.Engine.meaning kind in
    subst (λ (told : Option Told). BeganStep m kind (read_setup opening) c.args.self.now c.step_install.new.self c.args.event (g.E.Engine.told c.args.engine.now) told) (sym c.forget.ensures.told)
    (began_installing m kind (read_setup opening) c.args.self.now c.step_install.new.self c.args.event (c.in_ok-step_install-in-Snapshot.ensures.began opening))

pub returns-in_err-offered-clause-stops : goal.returns-in_err-offered-clause-stops
returns-in_err-offered-clause-stops g c = λ opening has.
    failed c.from_residual.result
    (kept_finds g.D.Disk.tells (g.D.Disk.states c.args.disk.now) c.args.self.now.replica (BeganStops (g.E.Engine.meaning (g.E.Engine.kind c.args.engine.now)) (g.E.Engine.kind c.args.engine.now) (read_setup opening) c.args.self.now c.args.event) (at_once (may_outside opening (bytes_with c.args.event) c.args.self.now c.args.event c.requires.comes) (at_first refl)) has)

pub returns-in_err-step_install-in-Snapshot-clause-stops : goal.returns-in_err-step_install-in-Snapshot-clause-stops
returns-in_err-step_install-in-Snapshot-clause-stops g c = λ opening has.
    failed c.from_residual-in_err-step_install-in-Snapshot.result
    (more g.D.Disk.tells (g.D.Disk.states c.step_install.new.disk) (StopsInstalling (read_setup opening) c.args.self.now c.args.event) (BeganStops (g.E.Engine.meaning (g.E.Engine.kind c.args.engine.now)) (g.E.Engine.kind c.args.engine.now) (read_setup opening) c.args.self.now c.args.event)
    (λ kept s. installing_stops (g.E.Engine.meaning (g.E.Engine.kind c.args.engine.now)) (g.E.Engine.kind c.args.engine.now) opening c.args.self.now c.args.event kept c.requires.comes s) (c.in_err-step_install-in-Snapshot.ensures.stops opening has))

pub returns-in-Nothing-clause-stops : goal.returns-in-Nothing-clause-stops
returns-in-Nothing-clause-stops g c = λ opening has.
    on_err_weaker c.step_raft.result
    (more g.D.Disk.tells (g.D.Disk.states c.step_raft.new.disk) (StopsFollowing (read_setup opening) c.args.self.now c.args.event) (BeganStops (g.E.Engine.meaning (g.E.Engine.kind c.args.engine.now)) (g.E.Engine.kind c.args.engine.now) (read_setup opening) c.args.self.now c.args.event)
    (λ kept s. following_stops (g.E.Engine.meaning (g.E.Engine.kind c.args.engine.now)) (g.E.Engine.kind c.args.engine.now) opening c.args.self.now c.args.event kept c.requires.comes s)) (c.step_raft.ensures.stops opening has)

pub returns-in-Nothing-clause-exact : goal.returns-in-Nothing-clause-exact
returns-in-Nothing-clause-exact g c =
    on_ok_weaker c.step_raft.result
    (takes_plain c.args.event (core_of c.args.self.now) (core_of c.step_raft.new.self) (subst (ExactOffers c.args.event (core_of c.args.self.now)) c.in-Nothing.is c.in_ok-offered.ensures.exact)) c.step_raft.ensures.exact

pub returns-in_ok-step_install-in-Snapshot-clause-exact : goal.returns-in_ok-step_install-in-Snapshot-clause-exact
returns-in_ok-step_install-in-Snapshot-clause-exact g c =
    let brings : ExactSnapshot c.args.event (core_of c.args.self.now) c.in-Snapshot.applied = subst (ExactOffers c.args.event (core_of c.args.self.now)) c.in-Snapshot.is c.in_ok-offered.ensures.exact in
    takes_snapshot c.args.event c.in-Snapshot.applied (core_of c.args.self.now) (core_of c.step_install.new.self) brings (c.in_ok-step_install-in-Snapshot.ensures.exact brings.state brings.from)

pub returns-in-Lost-clause-exact : goal.returns-in-Lost-clause-exact
returns-in-Lost-clause-exact g c = takes_none c.args.event (core_of c.args.self.now) (subst (ExactOffers c.args.event (core_of c.args.self.now)) c.in-Lost.is c.in_ok-offered.ensures.exact)
