use Rattle.node_core.proofs.ConnStreams.{conns_both}
use Rattle.node_core.proofs.Turning.{none_turned, turned_on, under_kind}
use Rattle.raft_membership.specs.Members.{read_setup}
use Rattle.node_core.proofs.Finding.{more, kept_finds, failed as always_err}
use Rattle.node_core.specs.Account.{AccountsForStop, Underway}
use Rattle.node_core.proofs.StopsOfStep.{stopped_here}
use Rattle.std.proofs.Common.{sym, subst}
use Rattle.node_core.specs.Core.{core_of}
use Rattle.node_core.proofs.ExactTurns.{last_ahead}
use Rattle.node_core.proofs.running.Running.run.Goals as goal

pub returns-then-not-branch-clause-conns : goal.returns-then-not-branch-clause-conns
returns-then-not-branch-clause-conns g c = conns_both c.args.self.now c.loop.self c.turn.new.self c.loop.invariant.conns c.in_ok-turn.ensures.conns

pub returns-then-not-branch-clause-stored : goal.returns-then-not-branch-clause-stored
returns-then-not-branch-clause-stored g c = λ has. c.in_ok-turn.ensures.stored (c.loop.invariant.stored has)

pub returns-then-not-branch-clause-on : goal.returns-then-not-branch-clause-on
returns-then-not-branch-clause-on g c = λ opening start event told u.
    under_kind g.E.Engine.meaning (g.E.Engine.kind c.args.engine.now) (g.E.Engine.kind c.loop.engine) (read_setup opening) start c.loop.self c.turn.new.self event c.loop.invariant.same_kind
    (c.in_ok-turn.ensures.on opening start event told) (c.loop.invariant.on opening start event told u)

pub loop-init : goal.loop-init
loop-init g c = none_turned g.E.Engine.meaning g.D.Disk.tells (g.D.Disk.states c.args.disk.now) (g.D.Disk.faults c.args.disk.now) (g.E.Engine.kind c.args.engine.now) (g.E.Engine.refused_openings c.args.engine.now)
    (g.E.Engine.told c.args.engine.now) (g.E.Engine.known c.args.engine.now) c.args.self.now c.requires.going c.requires.led c.requires.agrees

pub loop-preserved : goal.loop-preserved
loop-preserved g c = turned_on g.E.Engine.meaning g.D.Disk.tells (g.D.Disk.states c.args.disk.now) (g.D.Disk.states c.loop.disk) (g.D.Disk.states c.turn.new.disk) (g.D.Disk.faults c.args.disk.now) (g.D.Disk.faults c.loop.disk) (g.D.Disk.faults c.turn.new.disk)
    (g.E.Engine.kind c.args.engine.now) (g.E.Engine.kind c.loop.engine) (g.E.Engine.kind c.turn.new.engine) (g.E.Engine.refused_openings c.args.engine.now) (g.E.Engine.refused_openings c.loop.engine) (g.E.Engine.refused_openings c.turn.new.engine)
    (g.E.Engine.told c.args.engine.now) (g.E.Engine.told c.loop.engine) (g.E.Engine.told c.turn.new.engine) (g.E.Engine.known c.loop.engine) (g.E.Engine.known c.turn.new.engine) c.args.self.now c.loop.self c.turn.new.self c.loop.invariant c.in_ok-turn.ensures.going c.in_ok-turn.ensures.led c.in_ok-turn.ensures.agrees c.in_ok-turn.ensures.stored c.turn.ensures.cause.never_falls c.turn.ensures.engine
    (λ opening start event told. c.in_ok-turn.ensures.on opening start event told) c.in_ok-turn.ensures.conns _ c.if-not-branch.false c.in_ok-turn.ensures.exact

pub returns-in_err-turn-clause-stops : goal.returns-in_err-turn-clause-stops
returns-in_err-turn-clause-stops g c = λ opening start event told u has.
    always_err c.from_residual.result
    (
    let k = g.E.Engine.kind c.args.engine.now in
    let l = g.E.Engine.kind c.loop.engine in
    let same = c.loop.invariant.same_kind in
    more g.D.Disk.tells (g.D.Disk.states c.turn.new.disk) (AccountsForStop (g.E.Engine.meaning l) l (read_setup opening) start event) (AccountsForStop (g.E.Engine.meaning k) k (read_setup opening) start event)
    (λ kept s. subst (λ z. AccountsForStop (g.E.Engine.meaning z) z (read_setup opening) start event kept) same s)
    (c.in_err-turn.ensures.stops opening start event told
    (subst (λ z. Underway (g.E.Engine.meaning z) z (read_setup opening) start c.loop.self event told (g.E.Engine.told c.loop.engine)) (sym same) (c.loop.invariant.on opening start event told u)) (c.loop.invariant.stored has))
    )

pub returns-clause-stops : goal.returns-clause-stops
returns-clause-stops g c = λ opening start event told u has.
    let k = g.E.Engine.kind c.args.engine.now in
    let m = g.E.Engine.meaning k in
    kept_finds g.D.Disk.tells (g.D.Disk.states c.loop.disk) c.loop.self.replica (AccountsForStop m k (read_setup opening) start event)
    (stopped_here c.raft_steps_are_kept.ensures.stops m k (read_setup opening) start event c.loop.self (c.loop.invariant.on opening start event told u)) (c.loop.invariant.stored has)

pub returns-then-not-branch-clause-exact : goal.returns-then-not-branch-clause-exact
returns-then-not-branch-clause-exact g c =
    last_ahead g.E.Engine.meaning (g.E.Engine.kind c.args.engine.now) (g.E.Engine.kind c.loop.engine) (g.E.Engine.told c.args.engine.now) (g.E.Engine.told c.loop.engine) (g.E.Engine.told c.turn.new.engine) (core_of c.args.self.now) (core_of c.loop.self) (core_of c.turn.new.self) _
    c.loop.invariant.same_kind c.if-not-branch.true c.loop.invariant.exact c.in_ok-turn.ensures.exact
