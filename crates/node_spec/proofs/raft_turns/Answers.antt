use Rattle.node_spec.proofs.RaftGoes.{leaving_goes_holds, following_goes_holds}
use Rattle.node_spec.proofs.RaftSnapshots.{install_goes_holds, snapshot_goes_holds}
use Rattle.node_spec.proofs.raft_turns.Goals as goal

pub returns-clause-leaves : goal.returns-clause-leaves
returns-clause-leaves g c = λ kind. leaving_goes_holds (g.E.Engine.meaning kind) kind

pub returns-clause-follows : goal.returns-clause-follows
returns-clause-follows g c = λ kind. following_goes_holds (g.E.Engine.meaning kind) kind

pub returns-clause-installs : goal.returns-clause-installs
returns-clause-installs g c = λ kind. install_goes_holds (g.E.Engine.meaning kind) kind

pub returns-clause-snapshots : goal.returns-clause-snapshots
returns-clause-snapshots g c = λ kind. snapshot_goes_holds c.snapshots_read_back.ensures.read (g.E.Engine.meaning kind) kind
