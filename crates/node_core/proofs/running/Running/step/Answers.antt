use Rattle.node_core.proofs.Carried.{lines_counted}
use Rattle.node_core.proofs.ConnStreams.{outs_conns}
use Rattle.std.proofs.Common.{refl, sym, ap, subst, ◌∙◌}
use Rattle.raft_membership.specs.Members.{read_setup}
use Rattle.raft_on_disk.specs.Replicas.{ReplicaValue, IsKept}
use Rattle.node_core.specs.declared.running.Running.{Running}
use Rattle.node_core.specs.Account.{moment_of, AccountsForStop, Stopped, Happens, Between, Underway}
use Rattle.node_core.specs.Values.{seen}
use Rattle.node_core.proofs.Accounting.{underway_starts}
use Rattle.node_core.proofs.Causes.{always_ok}
use Rattle.node_core.proofs.Going.{counted_anew}
use Rattle.node_core.proofs.Led.{led_same}
use Rattle.node_core.proofs.Looping.{at_rest, steps_said}
use Rattle.node_core.proofs.Turning.{under_kind}
use Rattle.node_core.proofs.Finding.{more, kept_finds}
use Rattle.node_core.proofs.StopsOfStep.{always_err, first_stopped, stopped_here}
use Rattle.node_core.specs.Core.{core_of}
use Rattle.node_core.proofs.ExactTurns.{counted_core, said_of, step_of}
use Rattle.node_core.proofs.running.Running.step.Goals as goal

pub returns-clause-conns : goal.returns-clause-conns
returns-clause-conns g c =
    outs_conns c.take_outs.result c.args.event c.args.self.now c.count_keeps.new.self c.begin.new.self c.run.new.self c.take_outs.new.self c.requires.rests.quiet c.requires.rests.heard
    c.in_ok-begin.ensures.conns c.in_ok-run.ensures.conns c.in_ok-run.ensures.heard c.take_outs.ensures.rest c.take_outs.ensures.said

pub begin-requires-clause-led : goal.begin-requires-clause-led
begin-requires-clause-led g c =
    led_same c.args.self.now (record c.args.self.now { replica = c.count_keeps.new.self }) c.requires.rests.led refl (ap (λ (r : ReplicaValue). moment_of (record c.args.self.now { replica = r })) c.count_keeps.ensures)

pub returns-clause-stored : goal.returns-clause-stored
returns-clause-stored g c = λ has. always_ok c.take_outs.result
    (subst (λ (r : ReplicaValue). IsKept g.D.Disk.tells (g.D.Disk.states c.run.new.disk) r) (sym (ap (λ (n : Running). n.replica) c.take_outs.ensures.rest))
    (c.in_ok-run.ensures.stored (c.in_ok-begin.ensures.stored (subst (λ (r : ReplicaValue). IsKept g.D.Disk.tells (g.D.Disk.states c.args.disk.now) r) (sym c.count_keeps.ensures) has))))

pub returns-clause-acts : goal.returns-clause-acts
returns-clause-acts g c = λ opening.
    let kind = g.E.Engine.kind c.args.engine.now in
    let m = g.E.Engine.meaning kind in
    let setup = read_setup opening in
    let old = c.args.self.now in
    let from : Running = record old { replica = c.count_keeps.new.self } in
    let counted = ap (λ (r : ReplicaValue). record old { replica = r }) c.count_keeps.ensures in
    let going = counted_anew old from c.requires.rests.going counted in
    let rest = at_rest from going (c.requires.rests.applied ∙ ap (λ (n : Running). n.replica.raft.commit) (sym counted)) c.requires.rests.idle in
    let started = underway_starts m kind setup old from c.begin.new.self c.args.event (record { same = ap seen counted; links = refl; mail = refl; replies = refl; reads = refl }) refl rest (lines_counted old c.count_keeps.new.self c.args.event c.begin.new.self c.in_ok-begin.ensures.conns.lines) (c.in_ok-begin.ensures.begun opening) in
    let ran = under_kind g.E.Engine.meaning kind (g.E.Engine.kind c.begin.new.engine) setup old c.begin.new.self c.run.new.self c.args.event c.begin.ensures.engine.kind (c.in_ok-run.ensures.on opening old c.args.event (g.E.Engine.told c.args.engine.now)) started in
    steps_said m kind setup old c.run.new.self c.take_outs.new.self c.args.event c.take_outs.result ran c.in_ok-run.ensures.ends c.in_ok-run.ensures.going.holds.replica.id c.requires.rests.quiet c.in_ok-run.ensures.heard c.in_ok-run.ensures.letters
    c.take_outs.ensures.rest
    c.take_outs.ensures.said c.take_outs.ensures.messages c.take_outs.ensures.reads

pub returns-in_err-begin-clause-stops : goal.returns-in_err-begin-clause-stops
returns-in_err-begin-clause-stops g c = λ opening has.
    always_err c.from_residual.result
    (
    let kind = g.E.Engine.kind c.args.engine.now in
    let m = g.E.Engine.meaning kind in
    let setup = read_setup opening in
    let old = c.args.self.now in
    let from : Running = record old { replica = c.count_keeps.new.self } in
    let counted = ap (λ (r : ReplicaValue). record old { replica = r }) c.count_keeps.ensures in
    let going = counted_anew old from c.requires.rests.going counted in
    let rest = at_rest from going (c.requires.rests.applied ∙ ap (λ (n : Running). n.replica.raft.commit) (sym counted)) c.requires.rests.idle in
    let between : Between old from = record { same = ap seen counted; links = refl; mail = refl; replies = refl; reads = refl } in
    let P = AccountsForStop m kind setup old c.args.event in
    more g.D.Disk.tells (g.D.Disk.states c.begin.new.disk) (Stopped m kind setup from (Happens c.args.event)) P
    (λ kept s. first_stopped m kind setup old from c.args.event kept between s) (c.in_err-begin.ensures.stops opening rest (subst (λ (r : ReplicaValue). IsKept g.D.Disk.tells (g.D.Disk.states c.args.disk.now) r) (sym c.count_keeps.ensures) has))
    )

pub returns-in_err-run-clause-stops : goal.returns-in_err-run-clause-stops
returns-in_err-run-clause-stops g c = λ opening has.
    always_err c.from_residual-in_err-run.result
    (
    let kind = g.E.Engine.kind c.args.engine.now in
    let m = g.E.Engine.meaning kind in
    let setup = read_setup opening in
    let old = c.args.self.now in
    let from : Running = record old { replica = c.count_keeps.new.self } in
    let counted = ap (λ (r : ReplicaValue). record old { replica = r }) c.count_keeps.ensures in
    let going = counted_anew old from c.requires.rests.going counted in
    let rest = at_rest from going (c.requires.rests.applied ∙ ap (λ (n : Running). n.replica.raft.commit) (sym counted)) c.requires.rests.idle in
    let between : Between old from = record { same = ap seen counted; links = refl; mail = refl; replies = refl; reads = refl } in
    let P = AccountsForStop m kind setup old c.args.event in
    let started = underway_starts m kind setup old from c.begin.new.self c.args.event between refl rest (lines_counted old c.count_keeps.new.self c.args.event c.begin.new.self c.in_ok-begin.ensures.conns.lines) (c.in_ok-begin.ensures.begun opening) in
    let same = c.begin.ensures.engine.kind in
    let k1 = g.E.Engine.kind c.begin.new.engine in
    more g.D.Disk.tells (g.D.Disk.states c.run.new.disk) (AccountsForStop (g.E.Engine.meaning k1) k1 setup old c.args.event) P
    (λ kept s. subst (λ z. AccountsForStop (g.E.Engine.meaning z) z setup old c.args.event kept) same s)
    (c.in_err-run.ensures.stops opening old c.args.event (g.E.Engine.told c.args.engine.now)
    (subst (λ z. Underway (g.E.Engine.meaning z) z setup old c.begin.new.self c.args.event (g.E.Engine.told c.args.engine.now) (g.E.Engine.told c.begin.new.engine)) (sym same) started)
    (c.in_ok-begin.ensures.stored (subst (λ (r : ReplicaValue). IsKept g.D.Disk.tells (g.D.Disk.states c.args.disk.now) r) (sym c.count_keeps.ensures) has)))
    )

pub returns-clause-stops : goal.returns-clause-stops
returns-clause-stops g c = λ opening has.
    let kind = g.E.Engine.kind c.args.engine.now in
    let m = g.E.Engine.meaning kind in
    let setup = read_setup opening in
    let old = c.args.self.now in
    let from : Running = record old { replica = c.count_keeps.new.self } in
    let counted = ap (λ (r : ReplicaValue). record old { replica = r }) c.count_keeps.ensures in
    let going = counted_anew old from c.requires.rests.going counted in
    let rest = at_rest from going (c.requires.rests.applied ∙ ap (λ (n : Running). n.replica.raft.commit) (sym counted)) c.requires.rests.idle in
    let between : Between old from = record { same = ap seen counted; links = refl; mail = refl; replies = refl; reads = refl } in
    let P = AccountsForStop m kind setup old c.args.event in
    let started = underway_starts m kind setup old from c.begin.new.self c.args.event between refl rest (lines_counted old c.count_keeps.new.self c.args.event c.begin.new.self c.in_ok-begin.ensures.conns.lines) (c.in_ok-begin.ensures.begun opening) in
    let same = c.begin.ensures.engine.kind in
    let k1 = g.E.Engine.kind c.begin.new.engine in
    let ran = under_kind g.E.Engine.meaning kind k1 setup old c.begin.new.self c.run.new.self c.args.event same (c.in_ok-run.ensures.on opening old c.args.event (g.E.Engine.told c.args.engine.now)) started in
    always_err c.take_outs.result (kept_finds g.D.Disk.tells (g.D.Disk.states c.run.new.disk) c.run.new.self.replica P (stopped_here c.raft_steps_are_kept.ensures.stops m kind setup old c.args.event c.run.new.self ran)
    (c.in_ok-run.ensures.stored (c.in_ok-begin.ensures.stored (subst (λ (r : ReplicaValue). IsKept g.D.Disk.tells (g.D.Disk.states c.args.disk.now) r) (sym c.count_keeps.ensures) has))))

pub returns-clause-exact : goal.returns-clause-exact
returns-clause-exact g c =
    let from : Running = record c.args.self.now { replica = c.count_keeps.new.self } in
    step_of c.take_outs.result g.E.Engine.meaning (g.E.Engine.kind c.args.engine.now) (g.E.Engine.kind c.begin.new.engine) (g.E.Engine.told c.args.engine.now) (g.E.Engine.told c.begin.new.engine) (g.E.Engine.told c.run.new.engine) c.args.event
    (core_of c.args.self.now) (core_of from) (core_of c.begin.new.self) (core_of c.run.new.self) (core_of c.take_outs.new.self) (counted_core c.args.self.now c.count_keeps.new.self c.count_keeps.ensures) c.begin.ensures.engine.kind
    c.in_ok-begin.ensures.exact c.in_ok-run.ensures.exact
    (said_of c.take_outs.result c.run.new.self c.take_outs.new.self c.take_outs.ensures.rest c.take_outs.ensures.quiet c.take_outs.ensures.said c.take_outs.ensures.messages)
