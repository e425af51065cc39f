use Rattle.std.proofs.Common.{[]}
use Rattle.node_core.proofs.Stepped.{tells_so}
use Rattle.raft_membership.specs.Members.{read_setup}
use Rattle.raft_spec.specs.Node.{Local, UseServers}
use Rattle.node_core.specs.Finding.{StopsIn}
use Rattle.node_core.proofs.Finding.{failed, more}
use Rattle.node_core.proofs.StopsOfTurns.{stops_other}
use Rattle.node_core.proofs.running.Running.tell.Goals as goal

pub returns-clause-tells : goal.returns-clause-tells
returns-clause-tells g c = tells_so c.args.self.now c.make_step.new.self c.args.servers _ c.requires.whole c.in_ok-make_step.ensures.made c.in_ok-make_step.ensures.posts c.requires.machine

pub returns-in_err-make_step-clause-stops : goal.returns-in_err-make_step-clause-stops
returns-in_err-make_step-clause-stops g c = λ opening came has.
    failed c.from_residual.result
    (more g.D.Disk.tells (g.D.Disk.states c.make_step.new.disk) (StopsIn (read_setup opening) [] c.args.self.now (Local (UseServers c.args.servers))) (StopsIn (read_setup opening) came c.args.self.now (Local (UseServers c.args.servers)))
    (λ kept s. stops_other (read_setup opening) [] came c.args.self.now (Local (UseServers c.args.servers)) kept (λ m e. cc) s) (c.in_err-make_step.ensures.stops opening has))

pub returns-clause-exact : goal.returns-clause-exact
returns-clause-exact g c = (_, c.in_ok-make_step.ensures.exact)
