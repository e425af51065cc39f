use Rattle.node_core.proofs.RaftExactly.{untold_by, told_by}
use Rattle.std.proofs.lemmas.Result.{on_ok_weaker, on_err_weaker}
use Rattle.node_core.specs.Posting.{KeepsAllButLog, tells_current}
use Rattle.raft_membership.specs.Members.{read_setup}
use Rattle.raft_spec.specs.Node.{Server, Local, UseServers}
use Rattle.std.proofs.Common.{List, refl, subst, ◌∙◌}
use Rattle.node_core.specs.Finding.{StopsIn, StopsTelling, untold_yet, in_telling}
use Rattle.node_core.proofs.Finding.{failed, kept_finds, more}
use Rattle.node_core.proofs.running.Running.tell_servers.Goals as goal

pub returns-clause-tells : goal.returns-clause-tells
returns-clause-tells g c =
    on_ok_weaker c.tell.result
    (λ l. tells_current (subst (λ (servers : List Server). KeepsAllButLog c.args.self.now c.tell.new.self (Local (UseServers servers))) (c.in_ok-servers.ensures ∙ c.current.ensures.value) l))
    c.tell.ensures.tells

pub returns-in_err-servers-clause-stops : goal.returns-in_err-servers-clause-stops
returns-in_err-servers-clause-stops g c = λ opening came has.
    failed c.from_residual.result (kept_finds g.D.Disk.tells (g.D.Disk.states c.args.disk.now) c.args.self.now.replica (StopsTelling (read_setup opening) came c.args.self.now) (untold_yet refl) has)

pub returns-clause-stops : goal.returns-clause-stops
returns-clause-stops g c = λ opening came has.
    on_err_weaker c.tell.result
    (more g.D.Disk.tells (g.D.Disk.states c.tell.new.disk) (StopsIn (read_setup opening) came c.args.self.now (Local (UseServers c.in_ok-servers.servers))) (StopsTelling (read_setup opening) came c.args.self.now)
    (λ kept s. in_telling c.in_ok-servers.servers s)) (c.tell.ensures.stops opening came has)

pub returns-then-not-follows-clause-exact : goal.returns-then-not-follows-clause-exact
returns-then-not-follows-clause-exact g c = untold_by c.args.self.now (c.follows.ensures.none c.if-not-follows.true)

pub returns-clause-exact : goal.returns-clause-exact
returns-clause-exact g c =
    on_ok_weaker c.tell.result
    (λ told. told_by c.args.self.now c.tell.new.self c.in_ok-servers.servers (c.follows.ensures.is c.if-not-follows.false) (c.in_ok-servers.ensures ∙ c.current.ensures.value) told) c.tell.ensures.exact
