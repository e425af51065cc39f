use Rattle.node_core.proofs.ConnStreams.{conns_both, kept_on}
use Rattle.node_core.proofs.Carried.{kept_moves}
use Rattle.std.proofs.Common.{sym, subst}
use Rattle.raft_membership.specs.Members.{read_setup}
use Rattle.raft_on_disk.specs.Replicas.{ReplicaValue, IsKept}
use Rattle.node_core.proofs.Looping.{on_ok_then, goes_further, had_none}
use Rattle.node_core.proofs.RaftAccounts.{owns_turns}
use Rattle.node_core.proofs.Finding.{more, kept_finds, failed as always_err}
use Rattle.node_core.specs.Account.{AccountsForStop}
use Rattle.node_core.specs.Finding.{StopsOwn}
use Rattle.node_core.proofs.StopsOfStep.{stopped_here, stopped_own}
use Rattle.node_core.specs.Core.{core_of}
use Rattle.node_core.proofs.ExactTurns.{taken_due, untaken_due, may_apply, all_applied, entry_turn, attend_turn}
use Rattle.node_core.proofs.running.Running.turn.Goals as goal

pub returns-then-branch-clause-conns : goal.returns-then-branch-clause-conns
returns-then-branch-clause-conns g c = kept_on c.args.self.now c.take_due.new.self c.in_ok-take_due.ensures.conns

pub returns-then-self-view-clause-conns : goal.returns-then-self-view-clause-conns
returns-then-self-view-clause-conns g c = conns_both c.args.self.now c.take_due.new.self c.apply_next.new.self (kept_on c.args.self.now c.take_due.new.self c.in_ok-take_due.ensures.conns)
    (kept_on c.take_due.new.self c.apply_next.new.self c.in_ok-apply_next.ensures.conns)

pub returns-clause-conns : goal.returns-clause-conns
returns-clause-conns g c =
    on_ok_then c.attend.result (conns_both c.args.self.now c.take_due.new.self c.attend.new.self (kept_on c.args.self.now c.take_due.new.self c.in_ok-take_due.ensures.conns)) c.attend.ensures.conns

pub returns-then-branch-clause-on : goal.returns-then-branch-clause-on
returns-then-branch-clause-on g c = λ opening start event told u.
    let kind = g.E.Engine.kind c.args.engine.now in
    goes_further (g.E.Engine.meaning kind) kind (read_setup opening) start event told c.args.self.now c.take_due.new.self u (kept_moves c.args.self.now c.take_due.new.self c.in_ok-take_due.ensures.conns)
    (λ bytes joins. owns_turns (g.E.Engine.meaning kind) kind opening bytes joins c.args.self.now c.take_due.new.self (c.in_ok-take_due.ensures.goes c.if-branch.true))

pub returns-then-self-view-clause-stored : goal.returns-then-self-view-clause-stored
returns-then-self-view-clause-stored g c = λ has.
    subst (λ (r : ReplicaValue). IsKept g.D.Disk.tells (g.D.Disk.states c.take_due.new.disk) r) (sym c.apply_next.ensures.replica) (c.in_ok-take_due.ensures.stored has)

pub returns-then-self-view-clause-on : goal.returns-then-self-view-clause-on
returns-then-self-view-clause-on g c = λ opening start event told u.
    let kind = g.E.Engine.kind c.args.engine.now in
    goes_further (g.E.Engine.meaning kind) kind (read_setup opening) start event told c.take_due.new.self c.apply_next.new.self
    (had_none (g.E.Engine.meaning kind) kind (read_setup opening) start event told c.args.self.now c.take_due.new.self u (c.in_ok-take_due.ensures.none c.if-branch.false))
    (kept_moves c.take_due.new.self c.apply_next.new.self c.in_ok-apply_next.ensures.conns)
    (λ bytes joins. c.in_ok-apply_next.ensures.goes (read_setup opening) bytes joins)

pub returns-clause-on : goal.returns-clause-on
returns-clause-on g c = λ opening start event told u.
    let kind = g.E.Engine.kind c.args.engine.now in
    c.attend.ensures.on opening start event told
    (had_none (g.E.Engine.meaning kind) kind (read_setup opening) start event told c.args.self.now c.take_due.new.self u (c.in_ok-take_due.ensures.none c.if-branch.false))

pub returns-clause-stored : goal.returns-clause-stored
returns-clause-stored g c = λ has. c.attend.ensures.stored (c.in_ok-take_due.ensures.stored has)

pub returns-in_err-take_due-clause-stops : goal.returns-in_err-take_due-clause-stops
returns-in_err-take_due-clause-stops g c = λ opening start event told u has.
    always_err c.from_residual.result
    (
    let kind = g.E.Engine.kind c.args.engine.now in
    let m = g.E.Engine.meaning kind in
    more g.D.Disk.tells (g.D.Disk.states c.take_due.new.disk) (StopsOwn (read_setup opening) u.so_far.brought.bytes c.args.self.now) (AccountsForStop m kind (read_setup opening) start event)
    (λ kept s. stopped_own c.raft_steps_are_kept.ensures.stops m kind (read_setup opening) start event c.args.self.now u kept s) (c.in_err-take_due.ensures.stops opening u.so_far.brought.bytes has)
    )

pub returns-in_err-apply_next-clause-stops : goal.returns-in_err-apply_next-clause-stops
returns-in_err-apply_next-clause-stops g c = λ opening start event told u has.
    always_err c.from_residual-in_err-apply_next.result
    (
    let kind = g.E.Engine.kind c.args.engine.now in
    let m = g.E.Engine.meaning kind in
    kept_finds g.D.Disk.tells (g.D.Disk.states c.take_due.new.disk) c.take_due.new.self.replica (AccountsForStop m kind (read_setup opening) start event)
    (stopped_here c.raft_steps_are_kept.ensures.stops m kind (read_setup opening) start event c.take_due.new.self
    (had_none m kind (read_setup opening) start event told c.args.self.now c.take_due.new.self u (c.in_ok-take_due.ensures.none c.if-branch.false))) (c.in_ok-take_due.ensures.stored has)
    )

pub returns-clause-stops : goal.returns-clause-stops
returns-clause-stops g c = λ opening start event told u has.
    let kind = g.E.Engine.kind c.args.engine.now in
    c.attend.ensures.stops opening start event told
    (had_none (g.E.Engine.meaning kind) kind (read_setup opening) start event told c.args.self.now c.take_due.new.self u (c.in_ok-take_due.ensures.none c.if-branch.false)) (c.in_ok-take_due.ensures.stored has)

pub returns-then-branch-clause-exact : goal.returns-then-branch-clause-exact
returns-then-branch-clause-exact g c =
    let kind = g.E.Engine.kind c.args.engine.now in
    taken_due (g.E.Engine.meaning kind) kind (g.E.Engine.told c.args.engine.now) c.args.self.now c.take_due.new.self _ c.if-branch.true c.in_ok-take_due.ensures.exact

pub returns-then-self-view-clause-exact : goal.returns-then-self-view-clause-exact
returns-then-self-view-clause-exact g c =
    let kind = g.E.Engine.kind c.args.engine.now in
    entry_turn (g.E.Engine.meaning kind) kind (g.E.Engine.told c.args.engine.now) (g.E.Engine.told c.apply_next.new.engine) (core_of c.args.self.now) (core_of c.take_due.new.self) (core_of c.apply_next.new.self)
    (untaken_due c.args.self.now c.take_due.new.self _ c.if-branch.false c.in_ok-take_due.ensures.exact) (may_apply c.take_due.new.self _ c.view.ensures.commit c.if-self-view.true) c.in_ok-apply_next.ensures.exact

pub returns-clause-exact : goal.returns-clause-exact
returns-clause-exact g c =
    let kind = g.E.Engine.kind c.args.engine.now in
    attend_turn c.attend.result (g.E.Engine.meaning kind) kind (g.E.Engine.told c.args.engine.now) (g.E.Engine.told c.attend.new.engine) (core_of c.args.self.now) (core_of c.take_due.new.self) (core_of c.attend.new.self)
    (untaken_due c.args.self.now c.take_due.new.self _ c.if-branch.false c.in_ok-take_due.ensures.exact) (all_applied c.take_due.new.self _ c.view.ensures.commit c.if-self-view.false) c.attend.ensures.exact
