use Rattle.node_core.proofs.CoreMoves.{hangs_exact}
use Rattle.node_core.proofs.ConnStreams.{hangs_begins}
use Rattle.std.proofs.Common.{refl}
use Rattle.node_core.specs.declared.running.Running.{Running}
use Rattle.node_core.proofs.ClientMoves.{hangs_so}
use Rattle.node_core.proofs.Going.{clients_moved}
use Rattle.node_core.proofs.Waiting.{left_turns}
use Rattle.node_core.proofs.running.Running.hang_up.Goals as goal

pub returns-clause-conns : goal.returns-clause-conns
returns-clause-conns c =
    let new : Running = record c.args.self.now { clients = c.hang_up.new.self; applied = record c.args.self.now.applied { machine = c.hang_up.new.machine }; links = c.leave.new.self } in
    hangs_begins c.args.self.now new c.args.conn c.hang_up.ensures.left refl refl c.leave.ensures.none c.leave.ensures.left refl refl

pub returns-clause-going : goal.returns-clause-going
returns-clause-going c = clients_moved c.args.self.now _ c.requires.going c.hang_up.ensures.stands (left_turns _ _ c.args.conn c.hang_up.ensures.left c.requires.going.holds.turns) refl

pub returns-clause-goes : goal.returns-clause-goes
returns-clause-goes c =
    let new : Running = record c.args.self.now { clients = c.hang_up.new.self; applied = record c.args.self.now.applied { machine = c.hang_up.new.machine }; links = c.leave.new.self } in
    hangs_so c.args.self.now new c.args.conn (record { replica = refl; index = refl; serving = refl; due = refl; machine = c.databases_stand.ensures; files = c.hang_up.ensures.files }) c.hang_up.ensures.left

pub returns-clause-exact : goal.returns-clause-exact
returns-clause-exact c =
    let new : Running = record c.args.self.now { clients = c.hang_up.new.self; applied = record c.args.self.now.applied { machine = c.hang_up.new.machine }; links = c.leave.new.self } in
    hangs_exact c.args.self.now new c.args.conn c.hang_up.ensures.left c.hang_up.ensures.files c.leave.ensures.none refl
